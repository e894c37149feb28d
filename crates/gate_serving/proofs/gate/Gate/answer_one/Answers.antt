use Rattle.std.proofs.Common.{◌++◌, subst}
use Rattle.gate_world.specs.Causes.{Hidden}
use Rattle.gate_world.proofs.Joins.{join, widen}
use Rattle.gate_serving.specs.Run.{AddsSegment}
use Rattle.gate_serving.specs.Gates.{account_by}
use Rattle.gate_serving.proofs.Answering.{steps_fault, steps_none, steps_client, rose_earlier, not_refused}
use Rattle.gate_serving.proofs.gate.Gate.answer_one.Goals as goal

pub returns-in-Err-clause-run : goal.returns-in-Err-clause-run
returns-in-Err-clause-run g c = widen _ c.in-Err.ensures.err (λ x is s held. (s, held, steps_fault s _ _ is c.accept.ensures.alone c.in-Err.ensures.cause))

pub returns-in-Ok-false-clause-run : goal.returns-in-Ok-false-clause-run
returns-in-Ok-false-clause-run g c = widen _ (rw c.in-Ok-false.field-0-test at c.in-Ok-false.ensures.ok)
    (λ x is s held. (s, held, steps_none s _ _ is c.accept.ensures.alone))

pub returns-in-Ok-true-clause-run : goal.returns-in-Ok-true-clause-run
returns-in-Ok-true-clause-run g c =
    join _ (rw c.in-Ok-true.field-0-test at c.in-Ok-true.ensures.ok) c.answer_client.ensures.run (λ x y is serves s held.
    let r = serves s held in (
      r.0,
      r.1,
      subst (λ (h : Hidden). AddsSegment c.args.self.now.door (account_by c.args.self.now h) s r.0
          (g.W.Taped.faults c.args.world.now) (g.W.Taped.faults c.answer_client.new.world) c.answer_client.result (x ++ y)) c.accept.ensures.hidden
          (steps_client (g.W.Taped.faults c.args.world.now) c.answer_client.result is c.accept.ensures.alone r.2),
    ))

pub returns-in-Ok-true-clause-accepting : goal.returns-in-Ok-true-clause-accepting
returns-in-Ok-true-clause-accepting g c = λ how. absurd (not_refused _ c.answer_client.ensures.came how)

pub returns-in-Ok-true-clause-part : goal.returns-in-Ok-true-clause-part
returns-in-Ok-true-clause-part g c = λ door how. rose_earlier _ _ _ c.accept.ensures.alone.front (c.answer_client.ensures.part door how)
