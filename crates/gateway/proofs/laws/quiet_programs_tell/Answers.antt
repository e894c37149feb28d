use Rattle.gateway.proofs.Told.{program_answers}
use Rattle.gateway.proofs.laws.quiet_programs_tell.Goals as goal

pub returns : goal.returns
returns c = program_answers c.no_fault_no_blame.ensures c.obeyed_clients_are_told.ensures c.quiet_runs_are_told.ensures
