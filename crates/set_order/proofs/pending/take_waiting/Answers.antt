use Rattle.set_order.proofs.PlacingLemmas.{others_wait}
use Rattle.set_order.proofs.pending.take_waiting.Goals as goal

pub returns-in-Some-clause-others : goal.returns-in-Some-clause-others
returns-in-Some-clause-others c = others_wait c.args.key.now c.args.waiting.now c.remove.new.self _ c.remove.ensures.updates
