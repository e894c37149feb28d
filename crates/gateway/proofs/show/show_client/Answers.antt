use Rattle.std.proofs.Common.{refl}
use Rattle.gate_world.proofs.Joins.{then_one}
use Rattle.gateway.specs.Show.{Came}
use Rattle.gateway.proofs.show.show_client.Goals as goal

pub returns-clause-tape : goal.returns-clause-tape
returns-clause-tape g c = then_one _ c.answer-answered.ensures.tape c.finish.ensures.tape (λ x so. Came x refl so)
