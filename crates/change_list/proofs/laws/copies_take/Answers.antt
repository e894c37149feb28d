use Rattle.change_list.proofs.CopyLaws.{copies_take}
use Rattle.change_list.proofs.laws.copies_take.Goals as goal

pub returns : goal.returns
returns g c = copies_take
