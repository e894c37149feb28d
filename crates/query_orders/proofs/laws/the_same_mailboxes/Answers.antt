use Rattle.std.proofs.Common.{ℕ}
use Rattle.mail_maps.specs.Serve.{ServedMailbox, mailbox_of}
use Rattle.query_orders.specs.declared.entry.MailboxEntry.{MailboxEntry}
use Rattle.query_orders.proofs.RowLemmas.{same_values}
use Rattle.query_orders.proofs.laws.the_same_mailboxes.Goals as goal

pub returns : goal.returns
returns c = same_values (λ (b : MailboxEntry). let p : ℕ × ServedMailbox = (b.number, mailbox_of b.row.now) in p)
