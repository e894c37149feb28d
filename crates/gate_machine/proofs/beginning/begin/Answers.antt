use Rattle.std.proofs.Common.{◌++◌, sym, subst}
use Rattle.gate_world.specs.Causes.{Hidden, Faults}
use Rattle.gate_world.proofs.Joins.{join, widen}
use Rattle.gate_machine.specs.Beginning.{BeginsTo}
use Rattle.gate_machine.specs.declared.mail_status.MailStatus.TheVariants.{OutOfMemory}
use Rattle.gate_machine.proofs.Stages.{begun_by, begun_only}
use Rattle.gate_machine.proofs.beginning.begin.Goals as goal

pub returns-in-Ok-clause-run : goal.returns-in-Ok-clause-run
returns-in-Ok-clause-run g c =
    join _ c.in-Ok.ensures.tape c.live.ensures.run (λ x y readies dials before held.
    let ready = readies before held in
    subst (λ (h : Hidden). BeginsTo c.args.user.now h.password before c.live.new.machine c.live.new.client c.live.result (g.W.Taped.faults c.args.world.now)
    (g.W.Taped.faults c.live.new.world) (x ++ y)) c.in-Ok.ensures.hidden
    (subst (λ (f : Faults). BeginsTo c.args.user.now (g.W.Taped.hidden c.make_ready.new.chance).password before c.live.new.machine c.live.new.client c.live.result f
    (g.W.Taped.faults c.live.new.world) (x ++ y)) c.in-Ok.ensures.cause
    (begun_by x y ready.1 (dials ready.0 ready.2))))

pub returns-in-Err-clause-run : goal.returns-in-Err-clause-run
returns-in-Err-clause-run g c =
    widen _ c.in-Err.ensures.tape (λ x readies before held.
    let lacks = readies before held in
    subst (λ (f : Faults). BeginsTo c.args.user.now (g.W.Taped.hidden c.args.world.now).password before c.make_ready.new.self c.args.client.now OutOfMemory
    (g.W.Taped.faults c.args.world.now) f x) (sym c.in-Err.ensures.cause)
    (begun_only (g.W.Taped.faults c.args.world.now) x lacks.0 lacks.1 c.requires))
