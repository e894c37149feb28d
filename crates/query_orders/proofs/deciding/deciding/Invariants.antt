use Rattle.std.proofs.Common.{◌≡◌, ◌++◌, ℕ, List, Vec, Global, Bor, drop, map}
use Rattle.std.specs.List.{AllByRecursion}
use Rattle.mail_maps.specs.Serve.{Email}
use Rattle.query_orders.specs.Emails.{email_cmp}
use Rattle.query_orders.specs.declared.comparators.EmailComparator.{EmailComparator}
use Rattle.query_orders.specs.reading.PropertyKeys.{HasProperty}
use Rattle.query_orders.proofs.deciding.deciding.Given as goal

-- what is seen are properties of those kept; those kept, and then the rest, order as all do
abbrev pub invariant-loop-comparator : goal.invariant-loop-comparator
invariant-loop-comparator l = record {
  seen : AllByRecursion (λ (k : Vec ℕ Global). HasProperty k.items (map (λ (c : Bor EmailComparator). c.now) l.kept.items)) l.seen.keys;
  same : (emails : List (ℕ × Email)) (a b : Email)
      → email_cmp emails (map (λ (c : Bor EmailComparator). c.now) l.kept.items ++ drop l.comparator-index l.comparators) a b ≡ email_cmp emails l.comparators a b;
}
