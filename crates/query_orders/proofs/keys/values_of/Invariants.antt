use Rattle.std.proofs.Common.{◌≡◌, ◌++◌, drop, map}
use Rattle.query_orders.proofs.keys.values_of.Given as goal

-- those so far, and those of the rest
abbrev pub invariant-loop-pair : goal.invariant-loop-pair
invariant-loop-pair g l = l.values.items ++ map (λ (p : g.row.K.Denot × g.row.V.Denot). p.1) (drop l.pair-index l.pair-items) ≡ map (λ (p : g.row.K.Denot × g.row.V.Denot). p.1) l.pair-items
