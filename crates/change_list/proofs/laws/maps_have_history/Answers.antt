use Rattle.change_list.proofs.Growth.{maps_have_history}
use Rattle.change_list.proofs.laws.maps_have_history.Goals as goal

pub returns : goal.returns
returns g c = maps_have_history
