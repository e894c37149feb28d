use Rattle.std.proofs.Common.{◌∙◌}
use Rattle.query_orders.proofs.DecidingLemmas.{decided_here, passed_here}
use Rattle.query_orders.proofs.mailboxes.first_by_name.Goals as goal

pub loop-comparator-preserved : goal.loop-comparator-preserved
loop-comparator-preserved c = λ a b.
    passed_here a b c.args.comparators.now c.loop-comparator.comparator-index _ c.loop-comparator-test.true c.in-SortOrder.is ∙ c.loop-comparator.invariant a b

pub returns-in-Name : goal.returns-in-Name
returns-in-Name c = λ a b.
    decided_here a b c.args.comparators.now c.loop-comparator.comparator-index _ c.loop-comparator-test.true c.in-Name.is ∙ c.loop-comparator.invariant a b
