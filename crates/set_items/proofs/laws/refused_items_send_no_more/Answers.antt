use Rattle.set_items.proofs.Refusing.{no_more}
use Rattle.set_items.proofs.laws.refused_items_send_no_more.Goals as goal

pub returns : goal.returns
returns c = no_more
