use Rattle.std.proofs.Common.{◌≡◌, ◌++◌, drop}
use Rattle.query_orders.specs.Entries.{mailboxes_at}
use Rattle.query_lists.specs.Ordered.{numbers_of}
use Rattle.query_core.proofs.mailbox_list.numbers_of.Given as goal

-- those so far, and those of the rest
abbrev pub invariant-loop-row : goal.invariant-loop-row
invariant-loop-row l = l.numbers.items ++ numbers_of (mailboxes_at (drop l.row-index l.rows)) ≡ numbers_of (mailboxes_at l.rows)
