use Rattle.std.proofs.Common.{◌≡◌, ◌++◌}
use Rattle.served_maps.specs.Past.{served}
use Rattle.mail_maps.specs.Serve.{mailbox_of}
use Rattle.query_orders.specs.Entries.{mailboxes_at}
use Rattle.query_core.proofs.mailbox_list.mailbox_entries.Given as goal

-- those so far, and those that are left
abbrev pub invariant-loop-number : goal.invariant-loop-number
invariant-loop-number l = mailboxes_at l.entries.items ++ served mailbox_of l.number-iterator ≡ served mailbox_of l.state.rows.mailboxes
