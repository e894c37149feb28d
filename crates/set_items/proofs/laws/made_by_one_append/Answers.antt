use Rattle.set_items.proofs.Appending.{made_by}
use Rattle.set_items.proofs.laws.made_by_one_append.Goals as goal

pub returns : goal.returns
returns c = made_by
