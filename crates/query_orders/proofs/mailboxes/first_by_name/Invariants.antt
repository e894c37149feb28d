use Rattle.std.proofs.Common.{◌≡◌, drop}
use Rattle.mail_maps.specs.Serve.{ServedMailbox}
use Rattle.query_orders.specs.Mailboxes.{mailbox_cmp}
use Rattle.query_orders.proofs.mailboxes.first_by_name.Given as goal

-- the comparators from here on order as all do
abbrev pub invariant-loop-comparator : goal.invariant-loop-comparator
invariant-loop-comparator l = (a b : ServedMailbox) → mailbox_cmp (drop l.comparator-index l.comparators) a b ≡ mailbox_cmp l.comparators a b
