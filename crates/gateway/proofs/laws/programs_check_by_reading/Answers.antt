use Rattle.gateway.proofs.CheckReads.{program_reads}
use Rattle.gateway.proofs.laws.programs_check_by_reading.Goals as goal

pub returns : goal.returns
returns c = program_reads c.checks_take_reads.ensures
