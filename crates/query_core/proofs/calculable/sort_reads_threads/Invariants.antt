use Rattle.std.proofs.Common.{◌≡◌, drop}
use Rattle.std.specs.List.{list_any}
use Rattle.query_orders.specs.Emails.{sort_reads_thread}
use Rattle.query_orders.specs.declared.comparators.EmailComparator.{EmailComparator}
use Rattle.query_core.proofs.calculable.sort_reads_threads.Given as goal

abbrev pub invariant-loop-comparator : goal.invariant-loop-comparator
invariant-loop-comparator l =
    list_any (λ (c : EmailComparator). sort_reads_thread c.property) (drop l.comparator-index l.comparator-items)
    ≡ list_any (λ (c : EmailComparator). sort_reads_thread c.property) l.comparator-items
