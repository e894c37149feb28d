use Rattle.query_core.proofs.FilterLemmas.{EachSoFar, SomeSoFar}
use Rattle.query_core.proofs.filter_walk.+takes.Given as goal

-- each of all takes the row where each of the rest does
abbrev pub invariant-each_takes-loop-filter : goal.invariant-each_takes-loop-filter
invariant-each_takes-loop-filter g l = EachSoFar (g.T.Tested.Knows l.row) (g.T.Tested.Holds l.row) l.filter-items l.filter-index

-- one of all takes it where one of the rest does
abbrev pub invariant-some_takes-loop-filter : goal.invariant-some_takes-loop-filter
invariant-some_takes-loop-filter g l = SomeSoFar (g.T.Tested.Knows l.row) (g.T.Tested.Holds l.row) l.filter-items l.filter-index
