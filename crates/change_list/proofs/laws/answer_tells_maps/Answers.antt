use Rattle.change_list.proofs.MapLaws.{tells_maps}
use Rattle.change_list.proofs.laws.answer_tells_maps.Goals as goal

pub returns : goal.returns
returns g c = tells_maps
