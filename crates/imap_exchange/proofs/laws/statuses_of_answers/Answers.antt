use Rattle.imap_exchange.proofs.Refutations.{statuses_of_answers}
use Rattle.imap_exchange.proofs.laws.statuses_of_answers.Goals as goal

pub returns : goal.returns
returns c = statuses_of_answers
