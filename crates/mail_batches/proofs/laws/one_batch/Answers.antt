use Rattle.mail_batches.proofs.Once.{one_batch}
use Rattle.mail_batches.proofs.laws.one_batch.Goals as goal

pub returns : goal.returns
returns c = one_batch
