use Rattle.change_list.proofs.CopyLaws.{steps_keep}
use Rattle.change_list.proofs.laws.steps_keep_copies.Goals as goal

pub returns : goal.returns
returns g c = steps_keep
