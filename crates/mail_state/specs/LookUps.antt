-- What look-ups find in a state.
use Rattle.std.specs.Prelude.{ℕ, List}
use Rattle.std.specs.Map.{keys_of}
use Rattle.change_list.specs.Kept.{Kept}
use Rattle.mail_state.specs.declared.state.MailType.{MailType}
use Rattle.mail_state.specs.declared.state.MailType.TheVariants as kind
use Rattle.mail_state.specs.State.{ServedState}

-- the numbers of a type, ascending
abbrev pub numbers_in : ServedState → MailType → List ℕ
numbers_in s kind.Mailbox = keys_of s.rows.mailboxes
numbers_in s kind.Email = keys_of s.rows.numbered.rows
numbers_in s kind.Thread = keys_of s.rows.threads

-- the last touches of a type
abbrev pub touches_kept : ServedState → MailType → Kept
touches_kept s kind.Mailbox = s.lists.mailbox
touches_kept s kind.Email = s.lists.email
touches_kept s kind.Thread = s.lists.thread
