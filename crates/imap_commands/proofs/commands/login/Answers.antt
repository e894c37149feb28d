use Rattle.std.proofs.Common.{◌++◌, ◌∷◌, [], subst, ◌∙◌}
use Rattle.imap_types.specs.Commands.{credential}
use Rattle.imap_commands.specs.reading.Written.{AddsPart}
use Rattle.imap_commands.proofs.Pieces.{login_pieces}
use Rattle.imap_commands.proofs.commands.login.Goals as goal

pub returns : goal.returns
returns c =
    let adds_user = subst (λ done. AddsPart (credential c.args.user.now) done c.of_text-piece.result c.push_credential.new.done.items c.in_ok-piece.piece) c.new-done.ensures.items
    c.in_ok-piece.ensures in
    let adds_password = subst (λ begun. AddsPart
    (credential c.args.password.now) c.push_credential.new.done.items begun c.push_credential-2.new.done.items c.in_ok-piece-2.piece) c.in_ok-push.ensures
    c.in_ok-piece-2.ensures in
    c.in_ok-push-3.ensures.items ∙ (λ i. c.push_credential-2.new.done.items ++ c.in_ok-push-2.ensures i ∷ [])
    ∙ login_pieces c.args.tag c.args.user.now c.args.password.now _ _ c.of_text-piece.result _ _ (c.of_text-piece.ensures ∙ c.in_ok-login_words.ensures) adds_user adds_password
