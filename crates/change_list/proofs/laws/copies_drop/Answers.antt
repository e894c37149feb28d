use Rattle.change_list.proofs.CopyLaws.{copies_drop}
use Rattle.change_list.proofs.laws.copies_drop.Goals as goal

pub returns : goal.returns
returns g c = copies_drop
