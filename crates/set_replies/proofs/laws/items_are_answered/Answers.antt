use Rattle.set_replies.specs.Lists.{no_lists}
use Rattle.set_replies.proofs.AnswerLemmas.{all_answered}
use Rattle.set_replies.proofs.laws.items_are_answered.Goals as goal

pub returns : goal.returns
returns c = λ m s done. all_answered m s no_lists done
