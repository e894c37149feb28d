use Rattle.told_mail.proofs.NextLemmas.{told_next, all_next}
use Rattle.told_mail.proofs.laws.telling_goes_on.Goals as goal

pub returns-clause-one : goal.returns-clause-one
returns-clause-one c = told_next

pub returns-clause-all : goal.returns-clause-all
returns-clause-all c = all_next
