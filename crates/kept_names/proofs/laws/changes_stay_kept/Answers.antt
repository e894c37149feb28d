use Rattle.kept_names.proofs.KeptOrder.{flags_stay_kept, subscribed_stay_kept}
use Rattle.kept_names.proofs.laws.changes_stay_kept.Goals as goal

pub returns-clause-flags : goal.returns-clause-flags
returns-clause-flags c = flags_stay_kept

pub returns-clause-attributes : goal.returns-clause-attributes
returns-clause-attributes c = subscribed_stay_kept
