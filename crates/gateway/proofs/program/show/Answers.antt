use Rattle.gate_world.proofs.Joins.{join, widen}
use Rattle.gateway.proofs.Showing.{runs_well, runs_out, runs_badly}
use Rattle.gateway.proofs.program.show.Goals as goal

pub returns-in-Ok-clause-run : goal.returns-in-Ok-clause-run
returns-in-Ok-clause-run g c = widen _ c.in-Ok.ensures.tape (λ x so. runs_well so)

pub returns-in-Err-Memory-clause-run : goal.returns-in-Err-Memory-clause-run
returns-in-Err-Memory-clause-run g c = widen _ (rw c.in-Err-Memory.field-0-is at c.in-Err-Memory.ensures.tape) (λ x so. runs_out so)

pub returns-in-Err-Failed-clause-run : goal.returns-in-Err-Failed-clause-run
returns-in-Err-Failed-clause-run g c =
    join _ (rw c.in-Err-Failed.field-0-is at c.in-Err-Failed.ensures.tape) c.end_failed.ensures.said (λ x y so says. runs_badly _ c.end_failed.ensures.status so says)
