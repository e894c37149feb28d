use Rattle.std.proofs.Common.{refl}
use Rattle.std.proofs.lemmas.Result.{err_from_is_err_and}
use Rattle.gate_world.proofs.Joins.{join, widen}
use Rattle.gateway.specs.Show.{Unread}
use Rattle.gateway.proofs.Showing.{sent_whole, sent_part}
use Rattle.gateway.proofs.show.answer.Goals as goal

pub returns-in_err-line-clause-tape : goal.returns-in_err-line-clause-tape
returns-in_err-line-clause-tape g c =
    let is = err_from_is_err_and c.from_residual.result c.from_residual.ensures.1 in
    rw (is.1, is.2) (widen _ c.in_err-line.ensures.tape (λ x so. Unread _ so refl))

pub returns-in_err-send_all-clause-tape : goal.returns-in_err-send_all-clause-tape
returns-in_err-send_all-clause-tape g c =
    let is = err_from_is_err_and c.from_residual-in_err-send_all.result c.from_residual-in_err-send_all.ensures.1 in
    let sends = rw c.as_slice.ensures at c.in_err-send_all.ensures.tape in
    rw (is.1, is.2) (join _ c.in_ok-line.ensures.tape sends (λ x y so sent. sent_part y c.in_ok-line.line _ so sent))

pub returns-clause-tape : goal.returns-clause-tape
returns-clause-tape g c =
    let sends = rw c.as_slice.ensures at c.in_ok-send_all.ensures.tape in
    join _ c.in_ok-line.ensures.tape sends (λ x y so sent. sent_whole y c.in_ok-line.line so sent)
