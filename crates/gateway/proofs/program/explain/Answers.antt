use Rattle.std.proofs.Common.{◌∙◌}
use Rattle.gate_world.proofs.Joins.{join, widen}
use Rattle.gateway.proofs.Explaining.{explained_well, explained_badly}
use Rattle.gateway.proofs.program.explain.Goals as goal

pub returns-in-Ok-clause-run : goal.returns-in-Ok-clause-run
returns-in-Ok-clause-run g c = widen _ c.in-Ok.ensures.tape (λ es so. explained_well c.as_bytes.result.now es (c.as_bytes.ensures.value ∙ c.text.ensures) so)

pub returns-in-Err-clause-run : goal.returns-in-Err-clause-run
returns-in-Err-clause-run g c =
    join _ c.in-Err.ensures.tape c.end_failed.ensures.said (λ x y so says.
    explained_badly c.as_bytes.result.now c.end_failed.result c.in-Err.field-0 x y (c.as_bytes.ensures.value ∙ c.text.ensures) c.end_failed.ensures.status so says)
