use Rattle.mail_batches.proofs.Once.{one_reading}
use Rattle.mail_batches.proofs.laws.one_reading.Goals as goal

pub returns : goal.returns
returns c = one_reading
