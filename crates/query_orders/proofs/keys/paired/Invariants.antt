use Rattle.std.proofs.Common.{◌≡◌, ◌++◌, drop}
use Rattle.std.specs.List.{zip}
use Rattle.std.specs.Vec.Iter.{into_iter_items}
use Rattle.query_orders.proofs.keys.paired.Given as goal

-- those so far, and those of the rest
abbrev pub invariant-loop-value : goal.invariant-loop-value
invariant-loop-value g l = l.pairs.items ++ zip (into_iter_items l.keys) (drop l.value-index l.values) ≡ zip l.fn.keys.items l.values
