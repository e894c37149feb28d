use Rattle.served_maps.proofs.Between.{ever_below}
use Rattle.served_maps.proofs.laws.ids_stay_below.Goals as goal

pub returns : goal.returns
returns g c = ever_below
