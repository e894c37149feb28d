use Rattle.change_list.proofs.Growth.{history_has_maps}
use Rattle.change_list.proofs.laws.history_has_maps.Goals as goal

pub returns : goal.returns
returns g c = history_has_maps
