use Rattle.gate_world.proofs.Joins.{join}
use Rattle.gateway.proofs.Showing.{accepted}
use Rattle.gateway.proofs.show.show_one.Goals as goal

pub returns-in-Ok-true-clause-tape : goal.returns-in-Ok-true-clause-tape
returns-in-Ok-true-clause-tape g c =
    join _ (rw c.in-Ok-true.field-0-test at c.in-Ok-true.ensures.ok) c.show_client.ensures.tape (λ x y is so. accepted y c.show_client.result is so)
