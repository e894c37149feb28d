use Rattle.std.proofs.Common.{refl, ap, ◌∙◌, ℕ, sym, subst}
use Rattle.gate_world.specs.Causes.{Hidden}
use Rattle.gate_world.proofs.Joins.{join, widen}
use Rattle.gate_serving.specs.Gates.{account_by}
use Rattle.gateway.proofs.Performing.{AttendsAll, attends_all, performs_serve, performs_unopened}
use Rattle.gateway.proofs.program.serve_clients.Goals as goal

pub returns-in-Err-clause-run : goal.returns-in-Err-clause-run
returns-in-Err-clause-run g c = widen _ c.in-Err.ensures.run
    (λ x opens listen. performs_unopened _ c.args.place.now refl c.in-Err.ensures.cause opens)

pub returns-in-Ok-clause-run : goal.returns-in-Ok-clause-run
returns-in-Ok-clause-run g c =
    join _
    (join (AttendsAll c.args.place.now (g.W.Taped.hidden c.args.world.now) c.args.most (g.W.Taped.faults c.args.world.now) (g.W.Taped.faults c.serve-status.new.world)
    c.serve-status.result)
    c.in-Ok.ensures.run c.serve-status.ensures.run (λ x y opens runs.
    attends_all x y c.in-Ok.ensures.door (ap (λ (h : Hidden). account_by c.in-Ok.gate h) c.in-Ok.ensures.hidden ∙ c.in-Ok.ensures.account)
    c.in-Ok.ensures.hidden c.in-Ok.ensures.cause opens.2 (runs opens.0 opens.1).2))
    c.end_serving.ensures.said (λ x y attended ends listen. performs_serve c.args.most y listen
    (subst (λ (n : ℕ). AttendsAll c.args.place.now (g.W.Taped.hidden c.args.world.now) c.args.most (g.W.Taped.faults c.args.world.now)
    (g.W.Taped.faults c.serve-status.new.world) n x) (sym c.end_serving.ensures.status) attended)
    c.end_serving.ensures.alone ends)
