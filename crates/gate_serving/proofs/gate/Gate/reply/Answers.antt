use Rattle.std.proofs.Common.{refl, subst, inl, inr}
use Rattle.gate_world.specs.Causes.{Hidden}
use Rattle.gate_world.proofs.Joins.{join, widen}
use Rattle.gate_serving.specs.Gates.{account_by}
use Rattle.gate_serving.specs.GateState.{unready_state}
use Rattle.gate_serving.specs.reading.Askings.{asking_data}
use Rattle.gate_serving.specs.reading.Replying.{RepliesToAsking}
use Rattle.gate_serving.specs.reading.Texts.{text_sent}
use Rattle.gate_serving.proofs.Answering.{read_asked, read_lacking, later_front}
use Rattle.gate_serving.proofs.gate.Gate.reply.Goals as goal

pub returns-in-Ok-clause-run : goal.returns-in-Ok-clause-run
returns-in-Ok-clause-run g c =
    join _ c.in-Ok.ensures.tape c.answer.ensures.run (λ x y asked replies s held.
    let r = replies s held in (
      r.0,
      r.1,
      read_asked x (g.W.Taped.faults c.args.world.now) c.answer.result (later_front _ _ c.read_asking.ensures.alone) asked
          (subst (λ (h : Hidden). RepliesToAsking c.args.self.now.door (account_by c.args.self.now h) (asking_data c.in-Ok.asking) s r.0
          (g.W.Taped.faults c.read_asking.new.world) (g.W.Taped.faults c.answer.new.world) (text_sent c.answer.result) y)
          c.read_asking.ensures.hidden r.2),
    ))

pub returns-in-Err-Memory-clause-run : goal.returns-in-Err-Memory-clause-run
returns-in-Err-Memory-clause-run g c =
    widen _ (rw c.in-Err-Memory.field-0-is at c.in-Err-Memory.ensures.tape) (λ x so s held. (
      unready_state s,
      c.lack.ensures.state s held,
      read_lacking s _ _ c.lack.result (later_front _ _ c.read_asking.ensures.alone) so c.lack.ensures.text,
    ))

pub returns-in-Err-Ended-clause-run : goal.returns-in-Err-Ended-clause-run
returns-in-Err-Ended-clause-run g c = widen _ (rw c.in-Err-Ended.field-0-is at c.in-Err-Ended.ensures.tape) (λ x so s held. (s, held, (inl so, refl)))

pub returns-in-Err-Failed-clause-run : goal.returns-in-Err-Failed-clause-run
returns-in-Err-Failed-clause-run g c = widen _ (rw c.in-Err-Failed.field-0-is at c.in-Err-Failed.ensures.tape)
    (λ x so s held. (s, held, (inr (so, (rw c.in-Err-Failed.field-0-is at c.in-Err-Failed.ensures.cause) refl), refl)))

pub returns-in-Err-Ended-clause-none : goal.returns-in-Err-Ended-clause-none
returns-in-Err-Ended-clause-none g c = λ bare none. absurd ((rw c.in-Err-Ended.field-0-is at c.in-Err-Ended.ensures.bare) bare refl)
