use Rattle.change_list.proofs.AnswerLaws.{one_answer}
use Rattle.change_list.proofs.laws.one_answer.Goals as goal

pub returns : goal.returns
returns c = one_answer
