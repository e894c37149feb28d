use Rattle.mail_state.proofs.SoundLemmas.{copy_laws}
use Rattle.mail_state.proofs.laws.copies_follow.Goals as goal

pub returns : goal.returns
returns c = record { mailboxes = λ h. copy_laws h.mailboxes; emails = λ h. copy_laws h.emails; threads = λ h. copy_laws h.threads }
