use Rattle.gate_machine.proofs.KeptBodies.{prepared_kept, calls_kept}
use Rattle.gate_machine.proofs.laws.kept_bodies_were_told.Goals as goal

pub returns-clause-prepared : goal.returns-clause-prepared
returns-clause-prepared c = prepared_kept

pub returns-clause-calls : goal.returns-clause-calls
returns-clause-calls c = calls_kept
