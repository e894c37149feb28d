use Rattle.std.proofs.Common.{refl, ap, ◌∙◌}
use Rattle.gate_world.specs.Causes.{Hidden}
use Rattle.gate_world.proofs.Joins.{join, widen}
use Rattle.gate_serving.specs.Gates.{account_by}
use Rattle.gateway.proofs.Performing.{Attends, attends, performs_once, performs_unopened}
use Rattle.gateway.proofs.program.once.Goals as goal

pub returns-in-Err-clause-run : goal.returns-in-Err-clause-run
returns-in-Err-clause-run g c = widen _ c.in-Err.ensures.run
    (λ x opens. performs_unopened _ c.args.place.now refl c.in-Err.ensures.cause opens)

pub returns-in-Ok-clause-run : goal.returns-in-Ok-clause-run
returns-in-Ok-clause-run g c =
    join _
    (join (Attends c.args.place.now (g.W.Taped.hidden c.args.world.now) (g.W.Taped.faults c.args.world.now) (g.W.Taped.faults c.answer_one-served.new.world)
    c.answer_one-served.result)
    c.in-Ok.ensures.run c.answer_one-served.ensures.run (λ x y opens steps.
    attends x y c.in-Ok.ensures.door (ap (λ (h : Hidden). account_by c.in-Ok.gate h) c.in-Ok.ensures.hidden ∙ c.in-Ok.ensures.account)
    c.in-Ok.ensures.hidden c.in-Ok.ensures.cause opens.2 (steps opens.0 opens.1).2))
    c.end_once.ensures.said (λ x y attended ends. performs_once y attended c.end_once.ensures.alone ends)
