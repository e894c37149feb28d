use Rattle.std.proofs.Common.{◌∙◌}
use Rattle.set_order.proofs.PlacingLemmas.{others_wait}
use Rattle.set_order.proofs.pending.put_waiting.Goals as goal

pub returns-clause-others : goal.returns-clause-others
returns-clause-others c = λ k other.
    others_wait c.args.parent.now c.take_waiting-waiters.new.waiting c.insert.new.self _ c.in_ok-insert.ensures.updates k other
    ∙ c.take_waiting-waiters.ensures.others k other
