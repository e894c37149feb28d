use Rattle.change_list.proofs.CopyLaws.{empty_copy}
use Rattle.change_list.proofs.laws.empty_copy.Goals as goal

pub returns : goal.returns
returns g c = empty_copy
