use Rattle.std.proofs.Common.{◌++◌, ◌∷◌, [], ◌∙◌}
use Rattle.imap_commands.proofs.Pieces.{one_piece}
use Rattle.imap_commands.proofs.commands.write_command.Goals as goal

pub returns : goal.returns
returns c =
    c.in_ok-push.ensures.items ∙ (λ i. c.new-pieces.ensures.items i ++ (c.of_text.ensures ∙ c.in_ok-text_of.ensures) i ∷ [])
    ∙ one_piece c.args.command.now c.args.tag c.in_default.not-Login c.in_default-command.not-Append
