use Rattle.change_list.proofs.MapLaws.{touched_tells}
use Rattle.change_list.proofs.laws.touched_tells_maps.Goals as goal

pub returns : goal.returns
returns g c = touched_tells
