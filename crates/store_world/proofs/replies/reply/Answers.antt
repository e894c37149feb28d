use Rattle.std.proofs.Common.{ap}
use Rattle.std.proofs.lemmas.Result.{err_from_is_err_and}
use Rattle.store_sessions.specs.Sessions.{next_of}
use Rattle.store_sessions.proofs.Stepping.{step_shorter}
use Rattle.store_world.proofs.Replying.{goes_on, lacks, none_answered, stops, untold}
use Rattle.store_world.proofs.replies.reply.Goals as goal

pub returns-in_err-turn-clause-err : goal.returns-in_err-turn-clause-err
returns-in_err-turn-clause-err g c =
    let is = err_from_is_err_and c.from_residual.result c.from_residual.ensures.1 in
    rw is.1 (lacks c.loop-turn.invariant.stands c.as_slice.ensures c.in_err-turn.ensures.err)

pub returns-in_err-add-clause-err : goal.returns-in_err-add-clause-err
returns-in_err-add-clause-err g c =
    let is = err_from_is_err_and c.from_residual-in_err-add.result c.from_residual-in_err-add.ensures.1 in
    rw is.1 (untold c.loop-turn.invariant.stands c.as_slice.ensures c.in_ok-turn.ensures.ok)

pub returns-in-GoAhead : goal.returns-in-GoAhead
returns-in-GoAhead g c =
    record {
      ok = stops c.in_ok-turn.turn c.loop-turn.invariant.stands c.as_slice.ensures c.octets.ensures c.length.ensures c.skip.ensures c.in_ok-add.ensures.ok
          c.in_ok-turn.ensures.ok (none_answered c.in_ok-turn.turn c.in-GoAhead.is);
      err = tt;
    }

pub loop-turn-smaller-in-Answer : goal.loop-turn-smaller-in-Answer
loop-turn-smaller-in-Answer g c =
    step_shorter c.in_ok-turn.turn c.as_slice.ensures c.length.ensures c.skip.ensures c.in_ok-turn.ensures.ok (ap next_of c.in-Answer.is)

pub loop-turn-preserved-in-Answer : goal.loop-turn-preserved-in-Answer
loop-turn-preserved-in-Answer g c = record {
  mail = c.take_turn.ensures.mail;
  stands = goes_on c.in_ok-turn.turn c.loop-turn.invariant.stands c.as_slice.ensures c.octets.ensures c.length.ensures c.skip.ensures c.in_ok-add.ensures.ok
      c.in_ok-turn.ensures.ok (ap next_of c.in-Answer.is);
}
