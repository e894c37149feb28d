use Rattle.gate_world.proofs.Joins.{join, widen}
use Rattle.gateway.proofs.Explaining.{reported_well, reported_badly}
use Rattle.gateway.proofs.program.tell_report.Goals as goal

pub returns-in-Ok-clause-told : goal.returns-in-Ok-clause-told
returns-in-Ok-clause-told g c = widen _ c.in-Ok.ensures.tape (λ es so. reported_well c.as_slice.result.now _ es c.as_slice.ensures.value so)

pub returns-in-Err-clause-told : goal.returns-in-Err-clause-told
returns-in-Err-clause-told g c =
    join _ c.in-Err.ensures.tape c.end_failed.ensures.said (λ x y so says.
    reported_badly c.as_slice.result.now _ c.end_failed.result c.in-Err.field-0 x y c.as_slice.ensures.value c.end_failed.ensures.status so says)
