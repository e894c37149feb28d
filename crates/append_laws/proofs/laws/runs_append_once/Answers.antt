use Rattle.append_laws.proofs.Once.{run_once}
use Rattle.append_laws.proofs.laws.runs_append_once.Goals as goal

pub returns : goal.returns
returns c = λ door account before after events went run. run_once c.clients_append_once.ensures run
