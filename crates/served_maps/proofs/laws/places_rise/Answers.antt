use Rattle.served_maps.proofs.StandsOn.{rises}
use Rattle.served_maps.proofs.laws.places_rise.Goals as goal

pub returns : goal.returns
returns g c = rises
