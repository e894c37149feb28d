use Rattle.gate_machine.proofs.ServedFolders.{calls_leave}
use Rattle.gate_machine.proofs.laws.calls_leave_the_history.Goals as goal

pub returns : goal.returns
returns c = calls_leave
