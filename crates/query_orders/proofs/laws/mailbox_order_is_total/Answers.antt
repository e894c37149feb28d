use Rattle.query_orders.proofs.OrderLaws.{mailbox_total}
use Rattle.query_orders.proofs.laws.mailbox_order_is_total.Goals as goal

pub returns : goal.returns
returns c = mailbox_total
