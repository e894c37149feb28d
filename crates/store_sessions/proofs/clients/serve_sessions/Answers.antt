use Rattle.std.proofs.Common.{◌≢◌, Err, refl, rules, arith}
use Rattle.gate_world.proofs.Joins.{none, then_one, widen}
use Rattle.store_sessions.specs.Clients.{NoneYet}
use Rattle.store_sessions.proofs.Conversing.{join_three}
use Rattle.store_sessions.proofs.Serving.{failed_is_not_memory, none_left, not_accepted, ok_is_no_error, one_more, out_of_memory, rose_none, served_all}
use Rattle.store_sessions.specs.declared.next.SessionError.TheVariants.{Memory}
use Rattle.store_sessions.proofs.clients.serve_sessions.Goals.{in-Ok, in-Err-Failed}
use Rattle.store_sessions.proofs.clients.serve_sessions.Goals as goal

pub loop-count-init : goal.loop-count-init
loop-count-init g c = record {
  tape = none _ _ (record { failed = 0; served = NoneYet; rose = rose_none _ });
  most = omega arith;
  mail = c.requires.mail;
  alone = search rules;
  hidden = refl;
}

pub returns-in-Err-clause-tape : goal.returns-in-Err-clause-tape
returns-in-Err-clause-tape g c = then_one _ c.loop-count.invariant.tape c.in-Err.ensures.err (λ x so. not_accepted _ _ so c.loop-count-test.true c.in-Err.ensures.cause)

pub returns-in-Err-Memory-clause-tape : goal.returns-in-Err-Memory-clause-tape
returns-in-Err-Memory-clause-tape g c =
    join_three _ c.loop-count.invariant.tape (rw c.in-Ok-true.field-0-test at c.in-Ok-true.ensures.ok)
    (rw c.in-Err-Memory.field-0-is at c.in-Err-Memory.ensures.tape)
    (λ x y z so is serves. out_of_memory _ _ y z so c.loop-count-test.true is serves
    (omega (arith, c.accept.ensures.alone.front, c.serve_client.ensures.alone.front)))

pub returns-in-Ok-false-clause-tape : goal.returns-in-Ok-false-clause-tape
returns-in-Ok-false-clause-tape g c =
    then_one _ c.loop-count.invariant.tape (rw c.in-Ok-false.field-0-test at c.in-Ok-false.ensures.ok)
    (λ x so. none_left _ _ so c.loop-count-test.true c.accept.ensures.alone.front)

pub loop-count-preserved : goal.loop-count-preserved
loop-count-preserved g c =
    let well : c.serve_client.result ≢ Err Memory = elim c.match-serve_client.branch
    [ in-Ok w ↦ ok_is_no_error w.in-Ok.is | in-Err-Failed w ↦ failed_is_not_memory w.in-Err-Failed.is w.in-Err-Failed.field-0-is ] in
    record {
      tape = join_three _ c.loop-count.invariant.tape (rw c.in-Ok-true.field-0-test at c.in-Ok-true.ensures.ok) c.serve_client.ensures.tape
          (λ x y z so is serves. one_more _ _ c.serve_client.result y z so is serves well c.accept.ensures.alone.front c.serve_client.ensures.alone.front
          c.serve_client.ensures.cause);
      most = omega (arith, c.loop-count-test.true);
      mail = c.serve_client.ensures.mail;
      alone = search rules;
      hidden = search rules;
    }

pub returns-clause-tape : goal.returns-clause-tape
returns-clause-tape g c =
    widen _ c.loop-count.invariant.tape (λ x so. served_all _ so (omega (arith, c.loop-count.invariant.most, c.loop-count-test.false)))
