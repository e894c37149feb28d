use Rattle.std.proofs.Common.{◌≤◌, Bor, IsPermutation, drop, length, map}
use Rattle.std.specs.List.Sorted.{IsStrictlySortedBy}
use Rattle.query_conditions.specs.Entries.{emails_at}
use Rattle.query_lists.specs.Ordered.{AscendByNumber}
use Rattle.query_orders.specs.declared.comparators.EmailComparator.{EmailComparator}
use Rattle.query_orders.specs.reading.Rows.{emails_in_order}
use Rattle.query_orders.proofs.emails.in_order_by_others.Given as goal

-- the rows are in order by the comparators so far, from the last one on; the first is left
abbrev pub invariant-loop-left : goal.invariant-loop-left
invariant-loop-left l = record {
  within : l.left ≤ length l.comparators;
  first : (1 ≤ length l.comparators) → 1 ≤ l.left;
  permutation : IsPermutation l.fn.rows.items l.rows.items;
  sorted : AscendByNumber (emails_at l.fn.rows.items) → IsStrictlySortedBy (emails_in_order (emails_at l.emails) (map (λ (c : Bor EmailComparator). c.now) (drop l.left l.comparators))) l.rows.items;
}

abbrev pub decreases-loop-left : goal.decreases-loop-left
decreases-loop-left l = l.left
