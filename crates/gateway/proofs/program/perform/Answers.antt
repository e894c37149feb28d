use Rattle.std.proofs.Common.{sym, subst}
use Rattle.gate_world.specs.Tape.{Adds}
use Rattle.gate_world.proofs.Joins.{widen}
use Rattle.gate_words.specs.declared.task.Task.{Task}
use Rattle.gate_words.specs.declared.task.Task.TheVariants.{Show}
use Rattle.gateway.specs.Program.{Performs}
use Rattle.gateway.proofs.Performing.{performs_explain, performs_show}
use Rattle.gateway.proofs.Reading.{not_store}
use Rattle.gateway.proofs.program.perform.Goals as goal

pub returns-in-Show-clause-run : goal.returns-in-Show-clause-run
returns-in-Show-clause-run g c =
    subst (λ (t : Task). Adds (g.W.Taped.tape c.args.world.now) (g.W.Taped.tape c.show.new.world)
    (Performs t (g.W.Taped.hidden c.args.world.now) (g.W.Taped.faults c.args.world.now) (g.W.Taped.faults c.show.new.world) c.show.result)) (sym c.in-Show.is)
    (widen (Performs Show (g.W.Taped.hidden c.args.world.now) (g.W.Taped.faults c.args.world.now) (g.W.Taped.faults c.show.new.world) c.show.result) c.show.ensures.run
    (λ x shows. performs_show c.show.ensures.later c.show.ensures.front shows))

pub returns-in-Serve-clause-run : goal.returns-in-Serve-clause-run
returns-in-Serve-clause-run g c =
    subst (λ (t : Task). Adds (g.W.Taped.tape c.args.world.now) (g.W.Taped.tape c.serve_clients.new.world)
    (Performs t (g.W.Taped.hidden c.args.world.now) (g.W.Taped.faults c.args.world.now) (g.W.Taped.faults c.serve_clients.new.world) c.serve_clients.result)) (sym c.in-Serve.is)
    (widen _ c.serve_clients.ensures.run (λ x so. so _))

pub returns-in-Explain-clause-run : goal.returns-in-Explain-clause-run
returns-in-Explain-clause-run g c =
    subst (λ (t : Task). Adds (g.W.Taped.tape c.args.world.now) (g.W.Taped.tape c.explain.new.world)
    (Performs t (g.W.Taped.hidden c.args.world.now) (g.W.Taped.faults c.args.world.now) (g.W.Taped.faults c.explain.new.world) c.explain.result)) (sym c.in-Explain.is)
    (widen _ c.explain.ensures.run (λ x explains. performs_explain _ c.explain.ensures.later c.explain.ensures.front explains))

pub returns-in-Serve-clause-store : goal.returns-in-Serve-clause-store
returns-in-Serve-clause-store g c = λ eight. absurd (not_store c.serve_clients.result c.serve_clients.ensures.statuses eight)

pub returns-in-Once-clause-store : goal.returns-in-Once-clause-store
returns-in-Once-clause-store g c = λ eight. absurd (not_store c.once.result c.once.ensures.statuses eight)

pub returns-in-Store-clause-store : goal.returns-in-Store-clause-store
returns-in-Store-clause-store g c = λ eight. absurd (not_store c.store.result c.store.ensures.statuses eight)

pub returns-in-Show-clause-store : goal.returns-in-Show-clause-store
returns-in-Show-clause-store g c = λ eight. absurd (not_store c.show.result c.show.ensures.statuses eight)
