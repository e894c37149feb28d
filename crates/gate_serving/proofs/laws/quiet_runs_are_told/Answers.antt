use Rattle.gate_serving.proofs.Told.{run_quiet}
use Rattle.gate_serving.proofs.laws.quiet_runs_are_told.Goals as goal

pub returns : goal.returns
returns c = λ door account before after events went run none. run_quiet c.obeyed_clients_are_told.ensures run none
