use Rattle.change_list.proofs.CopyLaws.{copies_follow}
use Rattle.change_list.proofs.laws.copies_follow.Goals as goal

pub returns : goal.returns
returns g c = copies_follow
