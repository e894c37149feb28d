use Rattle.query_core.proofs.OneAnswer.{one_email_list}
use Rattle.query_core.proofs.laws.one_email_list.Goals as goal

pub returns : goal.returns
returns c = one_email_list
