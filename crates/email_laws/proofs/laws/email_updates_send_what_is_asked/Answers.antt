use Rattle.email_laws.proofs.SentJobs.{updates_send}
use Rattle.email_laws.proofs.laws.email_updates_send_what_is_asked.Goals as goal

pub returns : goal.returns
returns c = updates_send
