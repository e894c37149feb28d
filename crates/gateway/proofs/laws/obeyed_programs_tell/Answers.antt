use Rattle.gateway.proofs.Told.{program_told}
use Rattle.gateway.proofs.laws.obeyed_programs_tell.Goals as goal

pub returns : goal.returns
returns c = program_told c.obeyed_clients_are_told.ensures c.obeyed_runs_are_told.ensures
