use Rattle.store_causes.proofs.Readings.{connecting_reads, round_reads}
use Rattle.store_causes.proofs.laws.checks_only_read.Goals as goal

pub returns-clause-connecting : goal.returns-clause-connecting
returns-clause-connecting c = connecting_reads

pub returns-clause-round : goal.returns-clause-round
returns-clause-round c = round_reads
