use Rattle.std.proofs.Common.{◌++◌, ◌∷◌, [], sym, subst}
use Rattle.gate_world.specs.Causes.{Faults, Rose}
use Rattle.gate_world.specs.declared.event.Event.TheVariants.{ClientDone}
use Rattle.gate_world.proofs.Joins.{join, then_one}
use Rattle.gate_serving.specs.Gates.{Comes, account_by}
use Rattle.gate_serving.specs.reading.Replying.{Serves}
use Rattle.gate_serving.proofs.Answering.{serves_reply, part_rose}
use Rattle.gate_serving.proofs.gate.Gate.answer_client.Goals as goal

pub returns-clause-run : goal.returns-clause-run
returns-clause-run g c =
    let was : Faults = g.W.Taped.faults c.args.world.now in
    let sent = join (λ es. Comes c.args.self.now c.reply-reply.new.self
    (λ s t. Serves c.args.self.now.door (account_by c.args.self.now (g.W.Taped.hidden c.args.world.now)) s t was
    (g.W.Taped.faults c.send_reply-served.new.front) c.send_reply-served.result) (es ++ ClientDone ∷ []))
    c.reply-reply.ensures.run c.send_reply-served.ensures.tape
    (λ x y so sends s held. let r = so s held in (
      r.0,
      r.1,
      serves_reply _ _ s r.0 was _ _ x y c.reply-reply.result c.send_reply-served.result c.reply-reply.ensures.later c.send_reply-served.ensures.alone
          c.send_reply-served.ensures.cause r.2 sends,
    )) in
    then_one _ sent c.finish.ensures.tape (λ x so s held. let r = so s held in (
      r.0,
      r.1,
      subst (λ (f : Faults). Serves c.args.self.now.door (account_by c.args.self.now (g.W.Taped.hidden c.args.world.now)) s r.0 was f
          c.send_reply-served.result (x ++ ClientDone ∷ []))
          (sym c.finish.ensures.cause) r.2,
    ))

pub returns-clause-part : goal.returns-clause-part
returns-clause-part g c = λ door how.
    subst (λ (f : Faults). Rose (g.W.Taped.faults c.args.world.now).front f.front) (sym c.finish.ensures.cause)
    (part_rose c.reply-reply.result c.send_reply-served.result _ _ _ c.reply-reply.ensures.later c.send_reply-served.ensures.alone (c.reply-reply.ensures.none door)
    c.send_reply-served.ensures.cause how)
