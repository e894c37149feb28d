use Rattle.query_core.proofs.FilterLemmas.{AllSoFar}
use Rattle.query_core.proofs.filter_walk.all_hold.Given as goal

-- each of all holds where each of the rest does
abbrev pub invariant-loop-condition : goal.invariant-loop-condition
invariant-loop-condition g l = AllSoFar (g.T.Tested.Knows l.row) (g.T.Tested.Holds l.row) l.condition-items l.condition-index
