use Rattle.std.proofs.Common.{Ok, sym, ◌∙◌}
use Rattle.std.proofs.lemmas.Result.{err_from_is_err_and}
use Rattle.gate_world.proofs.Joins.{none, widen}
use Rattle.store_sessions.specs.Sessions.{Lacking}
use Rattle.store_sessions.proofs.Stepping.{step_failed, step_shorter, step_told}
use Rattle.store_sessions.proofs.session.step.Goals as goal

pub returns-in_err-taken-clause-tape : goal.returns-in_err-taken-clause-tape
returns-in_err-taken-clause-tape g c =
    let is = err_from_is_err_and c.from_residual.result c.from_residual.ensures.1 in
    rw (is.1, is.2) (none _ _ (Lacking (rw c.as_slice.ensures at c.in_err-taken.ensures.err)))

pub returns-in_err-send_all-clause-tape : goal.returns-in_err-send_all-clause-tape
returns-in_err-send_all-clause-tape g c =
    let is = err_from_is_err_and c.from_residual-in_err-send_all.result c.from_residual-in_err-send_all.ensures.1 in
    rw (is.1, is.2) (widen _ c.in_err-send_all.ensures.tape
    (λ x sends. step_failed c.in_ok-taken.taken c.in_err-send_all.field-0.0 c.as_slice.ensures c.octets.ensures c.length.ensures c.skip.ensures c.in_ok-taken.ensures.ok sends))

pub returns-clause-tape : goal.returns-clause-tape
returns-clause-tape g c =
    rw c.next_of.ensures (widen _ c.in_ok-send_all.ensures.tape
    (λ x sends. step_told c.in_ok-taken.taken (Ok c.in_ok-send_all.field-0) c.as_slice.ensures c.octets.ensures c.length.ensures c.skip.ensures c.in_ok-taken.ensures.ok sends))

pub returns-clause-shorter : goal.returns-clause-shorter
returns-clause-shorter g c = λ read.
    step_shorter c.in_ok-taken.taken c.as_slice.ensures c.length.ensures c.skip.ensures c.in_ok-taken.ensures.ok (sym c.next_of.ensures ∙ cc read)
