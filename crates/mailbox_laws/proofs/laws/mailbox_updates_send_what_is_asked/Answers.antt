use Rattle.mailbox_laws.proofs.SentJobs.{updates_send}
use Rattle.mailbox_laws.proofs.laws.mailbox_updates_send_what_is_asked.Goals as goal

pub returns : goal.returns
returns c = λ g text patch job f named is. updates_send g text patch job f named is
