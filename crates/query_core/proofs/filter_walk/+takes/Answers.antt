use Rattle.std.proofs.Common.{◌↔◌, IsTrue, true, false, map, subst}
use Rattle.query_arguments.specs.FilterTrees.{filter_tree, trees_of}
use Rattle.query_lists.specs.Filters.{PassesEach, PassesSome}
use Rattle.query_core.specs.reading.Found.{EachConditionOf}
use Rattle.query_core.proofs.FilterLemmas.{each_begins, each_ends, each_goes_on, each_stops, some_begins, some_ends, some_goes_on, some_stops}
use Rattle.query_core.proofs.filter_walk.+takes.Goals as goal

pub each_takes-loop-filter-init : goal.each_takes-loop-filter-init
each_takes-loop-filter-init g t c = each_begins (g.T.Tested.Knows c.args.row.now) (g.T.Tested.Holds c.args.row.now) c.deref-filter-items.result.now

pub each_takes-loop-filter-preserved : goal.each_takes-loop-filter-preserved
each_takes-loop-filter-preserved g t c =
    each_goes_on (g.T.Tested.Knows c.args.row.now) (g.T.Tested.Holds c.args.row.now) c.deref-filter-items.result.now c.loop-filter.filter-index c.filter-item.result _
    c.loop-filter-test.true c.filter-item.is c.in_ok-taken.ensures c.if-not-taken.false c.loop-filter.invariant

pub each_takes-returns-then-not-taken : goal.each_takes-returns-then-not-taken
each_takes-returns-then-not-taken g t c =
    subst (λ fs. EachConditionOf (g.T.Tested.Knows c.args.row.now) (trees_of (map filter_tree fs))
    → IsTrue false ↔ PassesEach (g.T.Tested.Holds c.args.row.now) (trees_of (map filter_tree fs))) c.deref-filter-items.ensures.value
    (each_stops (g.T.Tested.Knows c.args.row.now) (g.T.Tested.Holds c.args.row.now) c.deref-filter-items.result.now c.loop-filter.filter-index c.filter-item.result _
    c.loop-filter-test.true c.filter-item.is c.in_ok-taken.ensures c.if-not-taken.true c.loop-filter.invariant)

pub each_takes-returns : goal.each_takes-returns
each_takes-returns g t c =
    subst (λ fs. EachConditionOf (g.T.Tested.Knows c.args.row.now) (trees_of (map filter_tree fs))
    → IsTrue true ↔ PassesEach (g.T.Tested.Holds c.args.row.now) (trees_of (map filter_tree fs))) c.deref-filter-items.ensures.value
    (each_ends (g.T.Tested.Knows c.args.row.now)
    (g.T.Tested.Holds c.args.row.now) c.deref-filter-items.result.now c.loop-filter.filter-index c.loop-filter-test.false c.loop-filter.invariant)

pub some_takes-loop-filter-init : goal.some_takes-loop-filter-init
some_takes-loop-filter-init g t c = some_begins (g.T.Tested.Knows c.args.row.now) (g.T.Tested.Holds c.args.row.now) c.deref-filter-items.result.now

pub some_takes-loop-filter-preserved : goal.some_takes-loop-filter-preserved
some_takes-loop-filter-preserved g t c =
    some_goes_on (g.T.Tested.Knows c.args.row.now) (g.T.Tested.Holds c.args.row.now) c.deref-filter-items.result.now c.loop-filter.filter-index c.filter-item.result _
    c.loop-filter-test.true c.filter-item.is c.in_ok-taken.ensures c.if-taken.false c.loop-filter.invariant

pub some_takes-returns-then-taken : goal.some_takes-returns-then-taken
some_takes-returns-then-taken g t c =
    subst (λ fs. EachConditionOf (g.T.Tested.Knows c.args.row.now) (trees_of (map filter_tree fs))
    → IsTrue true ↔ PassesSome (g.T.Tested.Holds c.args.row.now) (trees_of (map filter_tree fs))) c.deref-filter-items.ensures.value
    (some_stops (g.T.Tested.Knows c.args.row.now) (g.T.Tested.Holds c.args.row.now) c.deref-filter-items.result.now c.loop-filter.filter-index c.filter-item.result _
    c.loop-filter-test.true c.filter-item.is c.in_ok-taken.ensures c.if-taken.true c.loop-filter.invariant)

pub some_takes-returns : goal.some_takes-returns
some_takes-returns g t c =
    subst (λ fs. EachConditionOf (g.T.Tested.Knows c.args.row.now) (trees_of (map filter_tree fs))
    → IsTrue false ↔ PassesSome (g.T.Tested.Holds c.args.row.now) (trees_of (map filter_tree fs))) c.deref-filter-items.ensures.value
    (some_ends (g.T.Tested.Knows c.args.row.now)
    (g.T.Tested.Holds c.args.row.now) c.deref-filter-items.result.now c.loop-filter.filter-index c.loop-filter-test.false c.loop-filter.invariant)
