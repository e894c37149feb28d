use Rattle.mailbox_laws.proofs.SentJobs.{destroys_send}
use Rattle.mailbox_laws.proofs.laws.mailbox_destroys_send_delete.Goals as goal

pub returns : goal.returns
returns c = λ g removes text job f named is. destroys_send g removes text job f named is
