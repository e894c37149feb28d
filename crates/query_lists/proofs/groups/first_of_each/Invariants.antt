use Rattle.std.proofs.Common.{◌≡◌, ℕ, ◌++◌, drop, nat_cmp}
use Rattle.std.specs.BTreeSet.{contains}
use Rattle.query_lists.specs.Groups.{first_of_each}
use Rattle.query_lists.proofs.GroupLemmas.{has_group, rows_left}
use Rattle.query_lists.proofs.groups.first_of_each.Given as goal

-- the set has the groups so far; each group once is those, and then what is left of the rest
abbrev pub invariant-loop-row : goal.invariant-loop-row
invariant-loop-row l = record {
  seen : (group : ℕ) → contains nat_cmp l.seen group ≡ has_group l.first.items group;
  first : first_of_each l.rows ≡ l.first.items ++ rows_left l.first.items (first_of_each (drop l.row-index l.rows));
}
