-- What is listed of Emails and Mailboxes.
use Rattle.std.specs.Prelude.{ℕ, List, map}
use Rattle.mail_maps.specs.Serve.{Email, ServedMailbox, mailbox_of}
use Rattle.query_lists.specs.declared.groups.GroupedRow.{GroupedRow}
use Rattle.query_orders.specs.declared.entry.MailboxEntry.{MailboxEntry}

abbrev pub mailboxes_at : List MailboxEntry → List (ℕ × ServedMailbox)
mailboxes_at bs = map {B = ℕ × ServedMailbox} (λ (b : MailboxEntry). (b.number, mailbox_of b.row.now)) bs

-- an Email in its Thread
abbrev pub in_its_thread : ℕ × Email → GroupedRow
in_its_thread e = record { number = e.0; group = e.1.immutable.thread }
