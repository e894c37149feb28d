use Rattle.small_answers.proofs.First.{first_is_small}
use Rattle.small_answers.proofs.Whole.{answers_are_honest}
use Rattle.small_answers.proofs.laws.small_answers_are_honest.Goals as goal

pub returns : goal.returns
returns c = record { answers = answers_are_honest; first = first_is_small }
