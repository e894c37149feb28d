use Rattle.set_items.proofs.Broken.{partly_ends}
use Rattle.set_items.proofs.Unavailable.{unavailable_ends}
use Rattle.set_items.proofs.laws.causes_end_items.Goals as goal

pub returns-clause-partly : goal.returns-clause-partly
returns-clause-partly c = partly_ends

pub returns-clause-unavailable : goal.returns-clause-unavailable
returns-clause-unavailable c = unavailable_ends
