use Rattle.told_mail.proofs.NumberLemmas.{next_mail_joins}
use Rattle.told_mail.proofs.laws.next_mail_joins.Goals as goal

pub returns : goal.returns
returns c = next_mail_joins
