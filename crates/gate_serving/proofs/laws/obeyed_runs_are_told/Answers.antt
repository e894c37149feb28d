use Rattle.gate_serving.proofs.Told.{run_told}
use Rattle.gate_serving.proofs.laws.obeyed_runs_are_told.Goals as goal

pub returns : goal.returns
returns c = λ door account events before after went run. run_told c.obeyed_clients_are_told.ensures run
