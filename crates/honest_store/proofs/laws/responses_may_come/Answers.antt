use Rattle.honest_store.proofs.Refused.{responses_may_come}
use Rattle.honest_store.proofs.laws.responses_may_come.Goals as goal

pub returns : goal.returns
returns c = responses_may_come
