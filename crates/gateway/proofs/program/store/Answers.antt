use Rattle.std.proofs.Common.{refl, sym}
use Rattle.gate_world.proofs.Joins.{join, none}
use Rattle.gateway.proofs.Performing.{performs_store, performs_unmade}
use Rattle.gateway.proofs.program.store.Goals as goal

pub returns-in-Err-clause-run : goal.returns-in-Err-clause-run
returns-in-Err-clause-run g c = none _ _ (performs_unmade c.args.most (g.W.Taped.faults c.args.world.now) (g.W.Taped.faults c.args.world.now) refl)

pub returns-in-Ok-clause-run : goal.returns-in-Ok-clause-run
returns-in-Ok-clause-run g c =
    join _ c.serve_sessions-served.ensures.tape c.end_store.ensures.said
    (λ x y serves ends. performs_store c.args.most y c.in-Ok.ensures serves c.serve_sessions-served.ensures.alone c.end_store.ensures.alone
    (sym c.end_store.ensures.status) ends)
