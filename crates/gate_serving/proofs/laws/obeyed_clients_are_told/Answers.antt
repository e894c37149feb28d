use Rattle.gate_serving.proofs.Told.{told}
use Rattle.gate_serving.proofs.laws.obeyed_clients_are_told.Goals as goal

pub returns : goal.returns
returns c = told c.obeyed_requests_answered.ensures
