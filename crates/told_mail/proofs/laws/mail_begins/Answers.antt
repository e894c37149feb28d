use Rattle.told_mail.proofs.NextLemmas.{after_no_mail}
use Rattle.told_mail.proofs.laws.mail_begins.Goals as goal

pub returns : goal.returns
returns c = after_no_mail
