use Rattle.store_causes.proofs.Reasons.{answered_so}
use Rattle.store_causes.proofs.laws.answers_are_so.Goals as goal

pub returns : goal.returns
returns c = answered_so
