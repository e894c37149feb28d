use Rattle.gate_machine.proofs.Going.{goes_on_way}
use Rattle.gate_machine.proofs.laws.requests_keep_history.Goals as goal

pub returns : goal.returns
returns c = goes_on_way
