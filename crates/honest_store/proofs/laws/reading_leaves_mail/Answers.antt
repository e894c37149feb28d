use Rattle.honest_store.proofs.Answered.{reading_leaves_mail}
use Rattle.honest_store.proofs.laws.reading_leaves_mail.Goals as goal

pub returns : goal.returns
returns c = reading_leaves_mail
