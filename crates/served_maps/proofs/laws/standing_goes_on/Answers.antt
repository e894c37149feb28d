use Rattle.served_maps.proofs.StandsOn.{stands_on}
use Rattle.served_maps.proofs.laws.standing_goes_on.Goals as goal

pub returns : goal.returns
returns g c = stands_on
