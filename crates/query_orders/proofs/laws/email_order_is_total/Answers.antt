use Rattle.query_orders.proofs.OrderLaws.{email_total}
use Rattle.query_orders.proofs.laws.email_order_is_total.Goals as goal

pub returns : goal.returns
returns c = email_total
