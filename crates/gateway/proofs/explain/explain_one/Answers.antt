use Rattle.gate_world.proofs.Joins.{join}
use Rattle.gateway.proofs.Explaining.{told_client}
use Rattle.gateway.proofs.explain.explain_one.Goals as goal

pub returns-in-Ok-true-clause-tape : goal.returns-in-Ok-true-clause-tape
returns-in-Ok-true-clause-tape g c =
    join _ (rw c.in-Ok-true.field-0-test at c.in-Ok-true.ensures.ok) c.tell_client.ensures.tape (λ x y is so. told_client x y c.tell_client.result is so)
