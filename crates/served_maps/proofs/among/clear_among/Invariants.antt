use Rattle.std.proofs.Common.{◌≡◌, ℕ, nat_cmp, cond, None}
use Rattle.std.specs.BTreeMap.{is_at, get}
use Rattle.std.specs.BTreeSet.{contains}
use Rattle.std.specs.List.{list_any}
use Rattle.served_maps.proofs.among.clear_among.Given as goal

abbrev pub invariant-loop-id : goal.invariant-loop-id
invariant-loop-id g l =
    (q : ℕ) → cond (list_any (is_at (nat_cmp q)) l.id-iterator) None (get nat_cmp l.rows q) ≡ cond (contains nat_cmp l.ids q) None (get nat_cmp l.initial.rows q)
