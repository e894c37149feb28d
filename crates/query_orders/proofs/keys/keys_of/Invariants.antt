use Rattle.std.proofs.Common.{◌≡◌, ◌++◌, drop, map}
use Rattle.query_orders.proofs.keys.keys_of.Given as goal

-- those so far, and those of the rest
abbrev pub invariant-loop-row : goal.invariant-loop-row
invariant-loop-row g l = (k : g.row.T.Denot → g.row.K.Denot) → ((x : _) (r : g.row.K.Denot) → g.F.Fn.post l.key (x, tt) r → r ≡ k x.now) → l.keys.items ++ map k (drop l.row-index l.rows) ≡ map k l.rows
