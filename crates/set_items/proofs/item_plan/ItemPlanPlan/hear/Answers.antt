use Rattle.set_items.proofs.ItemSteps.{keeps_told}
use Rattle.set_items.proofs.item_plan.ItemPlanPlan.hear.Goals as goal

pub returns-clause-kept : goal.returns-clause-kept
returns-clause-kept c = λ first kept.
    keeps_told first.mirror c.args.self.now.mirror c.tell_exchange.new.mirror c.tell_exchange.ensures.counts c.tell_exchange.ensures.next kept
