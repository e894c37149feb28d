use Rattle.mailbox_laws.proofs.SentJobs.{creations_send}
use Rattle.mailbox_laws.proofs.laws.mailbox_creations_send_what_is_asked.Goals as goal

pub returns : goal.returns
returns c = λ g ms job is. creations_send g ms job is
