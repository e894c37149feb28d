use Rattle.served_maps.proofs.StandsOn.{stays}
use Rattle.served_maps.proofs.laws.places_stay.Goals as goal

pub returns : goal.returns
returns g c = stays
