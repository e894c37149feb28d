use Rattle.gate_serving.proofs.Needs.{no_life}
use Rattle.gate_serving.proofs.laws.no_life_without_need.Goals as goal

pub returns : goal.returns
returns c = no_life
