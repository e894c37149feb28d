use Rattle.std.proofs.lemmas.Result.{err_from_is_err_and}
use Rattle.gate_world.proofs.Joins.{join, widen}
use Rattle.store_sessions.specs.Sessions.{Greeted, NotGreeted}
use Rattle.store_sessions.proofs.session.greet_and_converse.Goals as goal

pub returns-in_err-send_all-clause-tape : goal.returns-in_err-send_all-clause-tape
returns-in_err-send_all-clause-tape g c =
    let is = err_from_is_err_and c.from_residual.result c.from_residual.ensures.1 in
    rw (is.1, is.2, c.begin_session.ensures) (widen _ c.in_err-send_all.ensures.tape (λ x sends. NotGreeted sends))

pub returns-clause-tape : goal.returns-clause-tape
returns-clause-tape g c =
    join _ c.in_ok-send_all.ensures.tape (rw c.begin_session.ensures at c.converse.ensures.tape) (λ x y hello session. Greeted hello session)
