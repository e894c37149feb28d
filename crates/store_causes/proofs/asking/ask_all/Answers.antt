use Rattle.gate_world.proofs.Joins.{widen}
use Rattle.std.proofs.lemmas.Result.{err_from_is_err_and}
use Rattle.std.proofs.Common.{Err}
use Rattle.store_causes.proofs.Losing.{taken_lost}
use Rattle.store_causes.proofs.Watching.{asked_done, asked_wants, asked_stops}
use Rattle.store_causes.proofs.asking.ask_all.Goals as goal

pub returns-in-Ok-clause-tape : goal.returns-in-Ok-clause-tape
returns-in-Ok-clause-tape g c = widen _ c.in-Ok.ensures.tape (λ x so life stands. let f = so life stands in
    (f.0, asked_done {plan = g.P.Plan.plan} {hears = g.P.Plan.hears} c.follow_keeping.new.unread.octets c.in-Ok.ensures.alive f.1))

pub returns-in_err-cause-in-Err-clause-tape : goal.returns-in_err-cause-in-Err-clause-tape
returns-in_err-cause-in-Err-clause-tape g c =
    let ends = err_from_is_err_and c.from_residual.result c.from_residual.ensures.1 in
    rw (ends.1, ends.2) (widen _ c.in-Err.ensures.tape (λ x so life stands. let f = so life stands in
    (f.0, asked_wants {plan = g.P.Plan.plan} {hears = g.P.Plan.hears} c.in-Err.end c.in_err-cause-in-Err.field-0.0 c.take_stop.new.plan.inner c.take_stop.new.plan.notes c.follow_keeping.new.unread.octets c.in-Err.ensures.ended f.3 f.1)))

pub returns-in_ok-cause-in-Err-clause-tape : goal.returns-in_ok-cause-in-Err-clause-tape
returns-in_ok-cause-in-Err-clause-tape g c =
    widen _ c.in-Err.ensures.tape (λ x so life stands. let f = so life stands in (
      f.0,
      asked_stops {plan = g.P.Plan.plan} {hears = g.P.Plan.hears} c.in-Err.end c.in_ok-cause-in-Err.cause c.take_stop.new.plan.inner c.take_stop.new.plan.notes c.follow_keeping.new.unread.octets c.in-Err.ensures.ended f.3
          c.in_ok-cause-in-Err.ensures.memory c.in_ok-cause-in-Err.ensures.cause c.in_ok-cause-in-Err.ensures.inner c.in_ok-cause-in-Err.ensures.let_in f.1,
    ))

pub returns-in-Ok-clause-lost : goal.returns-in-Ok-clause-lost
returns-in-Ok-clause-lost g c = c.in-Ok.ensures.kept.1 c.requires.lost

pub returns-in_err-cause-in-Err-clause-lost : goal.returns-in_err-cause-in-Err-clause-lost
returns-in_err-cause-in-Err-clause-lost g c = c.in_err-cause-in-Err.ensures.lost (c.in-Err.ensures.kept.1 c.requires.lost)

pub returns-in_ok-cause-in-Err-clause-lost : goal.returns-in_ok-cause-in-Err-clause-lost
returns-in_ok-cause-in-Err-clause-lost g c = c.in_ok-cause-in-Err.ensures.lost (c.in-Err.ensures.kept.1 c.requires.lost)

pub returns-in_ok-cause-in-Err-clause-cause : goal.returns-in_ok-cause-in-Err-clause-cause
returns-in_ok-cause-in-Err-clause-cause g c = λ loses. c.in-Err.ensures.cause
    (λ i. Err (taken_lost c.follow_keeping.new.plan.notes _ c.in-Err.end c.in_ok-cause-in-Err.cause (c.in-Err.ensures.kept.1 c.requires.lost) c.in_ok-cause-in-Err.ensures.cause loses i))
