use Rattle.change_list.proofs.CopyLaws.{steps_end}
use Rattle.change_list.proofs.laws.steps_end_in_last_map.Goals as goal

pub returns : goal.returns
returns g c = steps_end
