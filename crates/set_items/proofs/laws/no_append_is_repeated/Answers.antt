use Rattle.set_items.proofs.Appending.{one_append}
use Rattle.set_items.proofs.laws.no_append_is_repeated.Goals as goal

pub returns : goal.returns
returns c = one_append
