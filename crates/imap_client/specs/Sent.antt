-- What a store takes of a plan's commands, in their order.
use Rattle.std.specs.Prelude.{ℕ, ◌++◌, ◌+◌, List, [], ◌∷◌}
use Rattle.imap_types.specs.Commands.{command_pieces, command_text, joined_pieces}
use Rattle.told_folder.specs.declared.exchange.Exchange.{Exchange}
use Rattle.imap_exchange.specs.Exchanges.{pieces_due}
use Rattle.imap_client.specs.declared.plan.Due.{Due}
use Rattle.imap_client.specs.declared.plan.Due.TheVariants as due

-- Of each of these exchanges, numbered from n on, the pieces of its command that were due by its responses: all of them
-- where it needs no literal, or was answered OK.
abbrev pub due_texts : ℕ → List Exchange → List ℕ
due_texts n [] = []
due_texts n (x ∷ xs) = joined_pieces (pieces_due (command_pieces x.command n) x.responses) ++ due_texts (n + 1) xs

-- the text of the command that is due, of this number
abbrev pub next_text : Due → ℕ → List ℕ
next_text (due.Send command) n = command_text command n
next_text _ n = []
