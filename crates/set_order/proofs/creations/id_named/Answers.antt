use Rattle.std.proofs.Common.{ap, ◌∙◌}
use Rattle.set_order.specs.Creations.{id_as}
use Rattle.set_order.proofs.creations.id_named.Goals as goal

pub returns-in-None : goal.returns-in-None
returns-in-None c = λ keys has. ap (id_as keys c.args.created.now c.args.text.now) c.in-None.ensures

pub returns-in-Some : goal.returns-in-Some
returns-in-Some c = λ keys has. c.id_created.ensures keys has ∙ ap (id_as keys c.args.created.now c.args.text.now) c.in-Some.ensures
