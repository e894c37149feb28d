use Rattle.set_order.proofs.OneOrder.{one_list}
use Rattle.set_order.proofs.laws.items_have_one_order.Goals as goal

pub returns : goal.returns
returns c = one_list
