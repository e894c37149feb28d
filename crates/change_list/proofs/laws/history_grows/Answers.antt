use Rattle.change_list.proofs.Growth.{history_grows}
use Rattle.change_list.proofs.laws.history_grows.Goals as goal

pub returns : goal.returns
returns g c = history_grows
