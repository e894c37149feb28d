use Rattle.gate_serving.proofs.Needs.{unblamed}
use Rattle.gate_serving.proofs.laws.no_fault_no_blame.Goals as goal

pub returns : goal.returns
returns c = unblamed
