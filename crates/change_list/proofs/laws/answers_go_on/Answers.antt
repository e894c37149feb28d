use Rattle.change_list.proofs.AnswerLaws.{answers_go_on}
use Rattle.change_list.proofs.laws.answers_go_on.Goals as goal

pub returns : goal.returns
returns c = answers_go_on
