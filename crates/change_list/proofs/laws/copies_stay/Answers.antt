use Rattle.change_list.proofs.CopyLaws.{copies_stay}
use Rattle.change_list.proofs.laws.copies_stay.Goals as goal

pub returns : goal.returns
returns g c = copies_stay
