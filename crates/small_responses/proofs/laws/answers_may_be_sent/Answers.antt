use Rattle.small_responses.proofs.AnswersSent.{answers_are_sent}
use Rattle.small_responses.proofs.laws.answers_may_be_sent.Goals as goal

pub returns : goal.returns
returns c = answers_are_sent
