use Rattle.store_causes.proofs.Outcomes.{has_some_cause}
use Rattle.store_causes.proofs.laws.each_stop_has_a_cause.Goals as goal

pub returns : goal.returns
returns c = has_some_cause
