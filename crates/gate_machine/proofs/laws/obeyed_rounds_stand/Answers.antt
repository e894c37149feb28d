use Rattle.gate_machine.proofs.Owed.{obeyed_stands}
use Rattle.gate_machine.proofs.laws.obeyed_rounds_stand.Goals as goal

pub returns : goal.returns
returns c = obeyed_stands c.obeyed_plans_end_ok.ensures
