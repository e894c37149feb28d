use Rattle.std.proofs.Common.{subst, Result}
use Rattle.gate_world.proofs.Joins.{none, widen}
use Rattle.set_jobs.specs.declared.done.SetError.{SetError}
use Rattle.set_methods.specs.Checks.{Checks}
use Rattle.set_methods.specs.declared.checks.Passed.{Passed}
use Rattle.set_calls.specs.Calls.{given_at}
use Rattle.set_calls.proofs.Steps.{refused_at_once}
use Rattle.set_calls.proofs.items.settle.Goals as goal

pub returns-in-Ok-clause-tape : goal.returns-in-Ok-clause-tape
returns-in-Ok-clause-tape g c =
    widen _ c.steps_of.ensures.tape
    (λ es so k s item checks. so k s item (subst (λ (r : Result Passed SetError). Checks k.rules (given_at k s) item r) c.in-Ok.is checks))

pub returns-in-Err-clause-tape : goal.returns-in-Err-clause-tape
returns-in-Err-clause-tape g c =
    none _ _ (λ k s item checks. refused_at_once k s item c.in-Err.error
    (subst (λ (r : Result Passed SetError). Checks k.rules (given_at k s) item r) c.in-Err.is checks))
