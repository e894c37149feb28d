use Rattle.set_items.proofs.Endings.{only_torn}
use Rattle.set_items.proofs.laws.partial_only_after_a_change.Goals as goal

pub returns : goal.returns
returns c = only_torn
