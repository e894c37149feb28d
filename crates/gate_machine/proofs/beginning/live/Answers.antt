use Rattle.gate_world.proofs.Joins.{join, widen}
use Rattle.gate_machine.proofs.Stages.{dialed_then, dialed_only}
use Rattle.gate_machine.proofs.beginning.live.Goals as goal

pub returns-in-Stands-clause-run : goal.returns-in-Stands-clause-run
returns-in-Stands-clause-run g c = join _ c.in-Stands.ensures.run c.ask_and_settle.ensures.run (λ x y dials asks before held. dialed_then (dials before held) asks)

pub returns-in-Unserved-clause-run : goal.returns-in-Unserved-clause-run
returns-in-Unserved-clause-run g c = widen _ c.in-Unserved.ensures.run (λ x dials before held. dialed_only (λ is. cc) (dials before held))

pub returns-in-OutOfMemory-clause-run : goal.returns-in-OutOfMemory-clause-run
returns-in-OutOfMemory-clause-run g c = widen _ c.in-OutOfMemory.ensures.run (λ x dials before held. dialed_only (λ is. cc) (dials before held))
