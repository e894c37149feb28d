use Rattle.gate_world.proofs.Joins.{widen}
use Rattle.gate_machine.proofs.Stages.{asked_then, asked_only}
use Rattle.gate_machine.proofs.beginning.ask_and_settle.Goals as goal

pub returns-in-Stands-clause-run : goal.returns-in-Stands-clause-run
returns-in-Stands-clause-run g c = widen _ c.in-Stands.ensures.run (λ es asks before was came. asked_then (asks before was came) (λ p at. c.settle.ensures.run p _ _ _ at))

pub returns-in-Unserved-clause-run : goal.returns-in-Unserved-clause-run
returns-in-Unserved-clause-run g c = widen _ c.in-Unserved.ensures.run (λ es asks before was came. asked_only (λ is. cc) (asks before was came))

pub returns-in-OutOfMemory-clause-run : goal.returns-in-OutOfMemory-clause-run
returns-in-OutOfMemory-clause-run g c = widen _ c.in-OutOfMemory.ensures.run (λ es asks before was came. asked_only (λ is. cc) (asks before was came))
