use Rattle.gate_world.proofs.Joins.{none, widen}
use Rattle.set_order.specs.reading.Items.{item_data}
use Rattle.set_calls.proofs.Steps.{lacks_at_once}
use Rattle.set_calls.proofs.items.prepare_item.Goals as goal

pub returns-in-Ok-clause-tape : goal.returns-in-Ok-clause-tape
returns-in-Ok-clause-tape g c = widen _ c.settle.ensures.tape (λ es so k s changed call at. so k s (item_data c.args.item.now) (c.in-Ok.ensures k s changed call at))

pub returns-in-Err-clause-tape : goal.returns-in-Err-clause-tape
returns-in-Err-clause-tape g c = none _ _ (λ k s changed call at. lacks_at_once k s (item_data c.args.item.now) c.in-Err.error)
