use Rattle.store_causes.proofs.Outcomes.{same_cause}
use Rattle.store_causes.proofs.laws.one_cause.Goals as goal

pub returns : goal.returns
returns c = same_cause
