use Rattle.mail_batches.proofs.Next.{batch_is_next}
use Rattle.mail_batches.proofs.laws.a_batch_goes_on.Goals as goal

pub returns : goal.returns
returns c = batch_is_next
