use Rattle.gate_machine.proofs.Going.{keeps_maps, keeps_touches}
use Rattle.gate_machine.proofs.laws.touches_stay.Goals as goal

pub returns : goal.returns
returns c = record { touches = λ h after gone. keeps_touches gone; maps = λ h after gone. keeps_maps gone }
