use Rattle.std.proofs.Common.{take}
use Rattle.query_orders.specs.Entries.{mailboxes_at}
use Rattle.query_arguments.specs.FilterTrees.{filter_tree}
use Rattle.query_lists.specs.Filters.{PassesFilter}
use Rattle.query_conditions.specs.Mailboxes.{MailboxMatches}
use Rattle.query_core.specs.reading.Kept.{Keeps}
use Rattle.query_core.proofs.mailbox_list.taken.Given as goal

-- of those so far are left those that the filter takes
abbrev pub invariant-loop-mailbox : goal.invariant-loop-mailbox
invariant-loop-mailbox l =
    Keeps (λ b. PassesFilter (MailboxMatches b.1) (filter_tree l.filter)) (mailboxes_at (take l.mailbox-index l.mailboxes)) (mailboxes_at l.rows.items)
