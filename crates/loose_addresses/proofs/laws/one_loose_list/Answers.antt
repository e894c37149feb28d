use Rattle.loose_addresses.proofs.LooseLemmas.{one_loose}
use Rattle.loose_addresses.proofs.laws.one_loose_list.Goals as goal

pub returns : goal.returns
returns c = λ one other t g h. one_loose one other t g h
