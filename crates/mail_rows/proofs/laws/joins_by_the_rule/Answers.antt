use Rattle.mail_rows.proofs.ThreadLaw.{thread_is}
use Rattle.mail_rows.proofs.laws.joins_by_the_rule.Goals as goal

pub returns : goal.returns
returns c = thread_is
