use Rattle.std.proofs.Common.{refl, ◌∙◌}
use Rattle.std.proofs.lemmas.Result.{err_from_is_err_and}
use Rattle.gate_world.proofs.Joins.{join, none, widen}
use Rattle.store_causes.specs.Checks.{Unreached, Unready}
use Rattle.store_causes.proofs.Finds.{reached}
use Rattle.store_causes.proofs.Losing.{lost_after}
use Rattle.store_causes.proofs.check.check_store.Goals as goal

pub returns-in_err-connection-clause-tape : goal.returns-in_err-connection-clause-tape
returns-in_err-connection-clause-tape g c =
    let ends = err_from_is_err_and c.from_residual.result c.from_residual.ensures.1 in
    rw (ends.1, ends.2) (none _ _ (Unready c.in_err-connection.field-0.0 refl refl))

pub returns-in_err-password-clause-tape : goal.returns-in_err-password-clause-tape
returns-in_err-password-clause-tape g c =
    let ends = err_from_is_err_and c.from_residual-in_err-password.result c.from_residual-in_err-password.ensures.1 in
    rw (ends.1, ends.2) (none _ _ (Unready c.in_err-password.field-0.0 refl refl))

pub returns-in-Ok-clause-tape : goal.returns-in-Ok-clause-tape
returns-in-Ok-clause-tape g c =
    join _ c.in-Ok.ensures.ok c.meet.ensures.tape (λ x y dials meets. reached c.args.user.now (g.W.Taped.hidden c.args.world.now).password
    c.in_ok-connection.connection.user c.in_ok-connection.connection.password c.meet.result dials c.in_ok-connection.ensures.user
    (c.in_ok-connection.ensures.password ∙ c.password.ensures) meets)

pub returns-in-Err-clause-tape : goal.returns-in-Err-clause-tape
returns-in-Err-clause-tape g c = widen _ c.in-Err.ensures.err (λ x is. Unreached c.cause_alone.result is refl c.cause_alone.ensures)

pub returns-in-Ok-clause-cause : goal.returns-in-Ok-clause-cause
returns-in-Ok-clause-cause g c = lost_after c.meet.result (g.W.Taped.faults c.args.world.now) (g.W.Taped.faults c.dial.new.self) (g.W.Taped.faults c.meet.new.link) c.in-Ok.ensures.alone c.meet.ensures.cause

pub returns-in-Err-clause-cause : goal.returns-in-Err-clause-cause
returns-in-Err-clause-cause g c = λ loses. c.in-Err.ensures.cause
