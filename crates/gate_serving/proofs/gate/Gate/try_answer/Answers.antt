use Rattle.std.proofs.Common.{[], ap, sym, subst}
use Rattle.gate_world.specs.Causes.{Faults}
use Rattle.gate_world.specs.Tape.{Adds}
use Rattle.gate_world.proofs.Joins.{none}
use Rattle.gate_serving.specs.Gates.{Comes, account_by}
use Rattle.gate_serving.specs.Requests.{Asking}
use Rattle.gate_serving.specs.reading.Askings.{asking_data}
use Rattle.gate_serving.specs.reading.Replying.{AnswersTo}
use Rattle.gate_serving.proofs.Answering.{adds_at}
use Rattle.gate_serving.proofs.gate.Gate.try_answer.Goals as goal

pub returns-in-AtOnce-clause-run : goal.returns-in-AtOnce-clause-run
returns-in-AtOnce-clause-run g c =
    adds_at _ (ap (λ (w : g.row.W.Denot). g.W.Taped.tape w) c.answer_at_once.ensures.world)
    (none _ _ (λ s held. let r = c.answer_at_once.ensures.run s held in (
      r.0,
      r.1,
      subst (λ (f : Faults). AnswersTo c.args.self.now.door (account_by c.args.self.now (g.W.Taped.hidden c.args.world.now)) (asking_data c.args.asking) s r.0
          (g.W.Taped.faults c.args.world.now) f c.answer_at_once.result [])
          (ap (λ (w : g.row.W.Denot). g.W.Taped.faults w) (sym c.answer_at_once.ensures.world))
          (subst (λ (a : Asking). AnswersTo c.args.self.now.door (account_by c.args.self.now (g.W.Taped.hidden c.args.world.now)) a s r.0
          (g.W.Taped.faults c.args.world.now) (g.W.Taped.faults c.args.world.now) c.answer_at_once.result []) (sym (ap asking_data c.in-AtOnce.is)) r.2),
    )))

pub returns-in-OverMail-clause-run : goal.returns-in-OverMail-clause-run
returns-in-OverMail-clause-run g c =
    subst (λ (a : Asking). Adds (g.W.Taped.tape c.args.world.now) (g.W.Taped.tape c.answer_over_mail.new.world)
    (Comes c.args.self.now c.answer_over_mail.new.self (λ s t. AnswersTo c.args.self.now.door (account_by c.args.self.now (g.W.Taped.hidden c.args.world.now)) a s t
    (g.W.Taped.faults c.args.world.now) (g.W.Taped.faults c.answer_over_mail.new.world) c.answer_over_mail.result))) (sym (ap asking_data c.in-OverMail.is))
    c.answer_over_mail.ensures.run
