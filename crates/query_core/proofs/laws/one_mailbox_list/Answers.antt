use Rattle.query_core.proofs.OneAnswer.{one_mailbox_list}
use Rattle.query_core.proofs.laws.one_mailbox_list.Goals as goal

pub returns : goal.returns
returns c = one_mailbox_list
