use Rattle.set_items.proofs.Staging.{ran_answers}
use Rattle.set_items.proofs.laws.exchanges_are_answers.Goals as goal

pub returns : goal.returns
returns c = ran_answers
