use Rattle.gate_machine.proofs.Going.{goes_calls}
use Rattle.gate_machine.proofs.laws.calls_keep_history.Goals as goal

pub returns : goal.returns
returns c = goes_calls
