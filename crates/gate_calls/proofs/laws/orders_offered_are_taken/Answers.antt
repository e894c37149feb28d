use Rattle.gate_calls.proofs.Orders.{offered_or_not}
use Rattle.gate_calls.proofs.laws.orders_offered_are_taken.Goals as goal

pub returns : goal.returns
returns c = offered_or_not
