use Rattle.set_items.proofs.Endings.{partly}
use Rattle.set_items.proofs.Unavailable.{unavailable}
use Rattle.set_items.proofs.laws.items_end_by_their_causes.Goals as goal

pub returns-clause-partly : goal.returns-clause-partly
returns-clause-partly c = partly

pub returns-clause-unavailable : goal.returns-clause-unavailable
returns-clause-unavailable c = unavailable
