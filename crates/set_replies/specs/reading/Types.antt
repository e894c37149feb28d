-- The types that the methods change, and what is served of them, as the code has it.
use Rattle.std.specs.Prelude.{◌≡◌, ℕ, All}
use Rattle.std.specs.List.Sorted.{IsStrictlySortedBy}
use Rattle.std.specs.Map.{keys_of}
use Rattle.std.specs.Ordering.{nat_cmp}
use Rattle.mail_maps.specs.Rows.{Rows}
use Rattle.mail_maps.specs.Serve.{mailbox_of}
use Rattle.mail_maps.specs.declared.row.EmailRow.{EmailRow}
use Rattle.mail_rows.specs.NumberedRows.{MarksApart}
use Rattle.mail_state.specs.State.{ServedState}
use Rattle.mail_state.specs.declared.state.MailType.{MailType}
use Rattle.mail_state.specs.declared.state.MailType.TheVariants as kind
use Rattle.served_maps.specs.Past.{served}
use Rattle.set_replies.specs.Lists.{Served}
use Rattle.set_arguments.specs.declared.set_method.SetMethod.{SetMethod}
use Rattle.set_arguments.specs.declared.set_method.SetMethod.TheVariants.{EmailSet, MailboxSet, EmailImport}

abbrev pub type_of : SetMethod → MailType
type_of EmailSet = kind.Email
type_of MailboxSet = kind.Mailbox
type_of EmailImport = kind.Email

-- numbers ascend, and each mark is of one row, which knows its number
pub record AreApart (rows : Rows) : Type 0 where
  pub ascending : IsStrictlySortedBy nat_cmp (keys_of rows)
  pub marks : MarksApart rows
  pub numbers : All (λ (e : ℕ × EmailRow). e.1.number ≡ e.0) rows

-- what the rows of a state serve
abbrev pub served_in : ServedState → Served
served_in s = record { emails = s.rows.numbered.rows; mailboxes = served mailbox_of s.rows.mailboxes }
