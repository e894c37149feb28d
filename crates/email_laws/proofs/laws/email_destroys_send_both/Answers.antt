use Rattle.email_laws.proofs.SentJobs.{destroys_send}
use Rattle.email_laws.proofs.laws.email_destroys_send_both.Goals as goal

pub returns : goal.returns
returns c = destroys_send
