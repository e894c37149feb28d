use Rattle.std.proofs.Common.{◌↔◌, IsTrue, true, false, subst}
use Rattle.std.specs.List.{AllByRecursion}
use Rattle.query_core.proofs.FilterLemmas.{all_begins, all_ends, all_goes_on, all_stops}
use Rattle.query_core.proofs.filter_walk.all_hold.Goals as goal

pub loop-condition-init : goal.loop-condition-init
loop-condition-init g c = all_begins (g.T.Tested.Knows c.args.row.now) (g.T.Tested.Holds c.args.row.now) c.deref-condition-items.result.now

pub loop-condition-preserved : goal.loop-condition-preserved
loop-condition-preserved g c =
    all_goes_on (g.T.Tested.Knows c.args.row.now) (g.T.Tested.Holds c.args.row.now) c.deref-condition-items.result.now c.loop-condition.condition-index c.condition-item.result _
    c.loop-condition-test.true c.condition-item.is c.in_ok-holds.ensures c.loop-condition.invariant c.if-not-holds.false

pub returns-then-not-holds : goal.returns-then-not-holds
returns-then-not-holds g c =
    subst (λ cs. AllByRecursion (g.T.Tested.Knows c.args.row.now) cs → IsTrue false ↔ AllByRecursion (g.T.Tested.Holds c.args.row.now) cs) c.deref-condition-items.ensures.value
    (all_stops (g.T.Tested.Knows c.args.row.now) (g.T.Tested.Holds c.args.row.now) c.deref-condition-items.result.now c.loop-condition.condition-index c.condition-item.result _
    c.loop-condition-test.true c.condition-item.is c.in_ok-holds.ensures c.loop-condition.invariant c.if-not-holds.true)

pub returns : goal.returns
returns g c =
    subst (λ cs. AllByRecursion (g.T.Tested.Knows c.args.row.now) cs → IsTrue true ↔ AllByRecursion (g.T.Tested.Holds c.args.row.now) cs) c.deref-condition-items.ensures.value
    (all_ends (g.T.Tested.Knows c.args.row.now) (g.T.Tested.Holds c.args.row.now) c.deref-condition-items.result.now c.loop-condition.condition-index
    c.loop-condition-test.false c.loop-condition.invariant)
