use Rattle.served_maps.proofs.StandsOn.{past_on}
use Rattle.served_maps.proofs.laws.pasts_go_on.Goals as goal

pub returns : goal.returns
returns g c = past_on
