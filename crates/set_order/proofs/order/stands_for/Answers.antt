use Rattle.std.proofs.Common.{List, ℕ, Option, ap, unwrap_or}
use Rattle.set_order.proofs.order.stands_for.Goals as goal

pub returns-in-Some : goal.returns-in-Some
returns-in-Some c = λ keys has. ap (λ (o : Option (List ℕ)). unwrap_or o c.args.text.now) (c.in-Some.ensures keys has)

pub returns-in-None : goal.returns-in-None
returns-in-None c = λ keys has. ap (λ (o : Option (List ℕ)). unwrap_or o c.args.text.now) (c.in-None.ensures keys has)
