use Rattle.small_answers.proofs.OneAnswer.{one_answer}
use Rattle.small_answers.proofs.laws.one_store_answer.Goals as goal

pub returns : goal.returns
returns c = one_answer
