use Rattle.gateway.proofs.AppendOnce.{program_once}
use Rattle.gateway.proofs.laws.programs_append_once.Goals as goal

pub returns : goal.returns
returns c = program_once c.clients_append_once.ensures c.runs_append_once.ensures
