use Rattle.set_replies.proofs.WholeLemmas.{reply_whole}
use Rattle.set_replies.proofs.laws.replies_are_whole.Goals as goal

pub returns : goal.returns
returns c = reply_whole
