use Rattle.std.proofs.Common.{◌++◌, ◌∷◌, [], ◌∙◌, subst}
use Rattle.imap_types.specs.Commands.{Literal}
use Rattle.imap_commands.specs.reading.Written.{AddsPart}
use Rattle.imap_commands.proofs.Pieces.{append_pieces}
use Rattle.imap_commands.proofs.commands.append.Goals as goal

pub returns : goal.returns
returns c =
    let adds = subst (λ done. AddsPart (Literal c.args.message.now) done c.of_text-piece.result c.push_literal.new.done.items c.in_ok-piece.piece) c.new-done.ensures.items
    c.in_ok-piece.ensures in
    c.in_ok-push-2.ensures.items ∙ (λ i. c.push_literal.new.done.items ++ c.in_ok-push.ensures i ∷ [])
    ∙ append_pieces c.args.tag c.args.words.now c.args.message.now _ c.of_text-piece.result _ (c.of_text-piece.ensures ∙ c.in_ok-tagged_words.ensures) adds
