use Rattle.store_causes.proofs.Taking.{checks_take}
use Rattle.store_causes.proofs.laws.checks_take_reads.Goals as goal

pub returns : goal.returns
returns c = checks_take
