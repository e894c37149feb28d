use Rattle.std.proofs.Common.{◌≡◌, ℕ, nat_cmp}
use Rattle.std.specs.BTreeMap.{get}
use Rattle.served_maps.specs.reading.AmongSteps.{value_put}
use Rattle.served_maps.proofs.among.put_rows.Given as goal

abbrev pub invariant-loop-id : goal.invariant-loop-id
invariant-loop-id g l = (q : ℕ) → value_put (get nat_cmp l.rows q) l.id-iterator q ≡ value_put (get nat_cmp l.initial.rows q) l.fn.fresh.entries q
