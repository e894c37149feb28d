use Rattle.std.proofs.Common.{◌∷◌}
use Rattle.loose_addresses.proofs.ShapeLemmas.{start_told}
use Rattle.loose_addresses.proofs.word_shape.behind_start.Goals as goal

pub returns-in-None : goal.returns-in-None
returns-in-None c = λ r e. c.in-None.ensures (63 ∷ r) e

pub returns-in-Some : goal.returns-in-Some
returns-in-Some c = start_told c.args.text.now c.in-Some.rest.now c.behind-in-Some.result c.in-Some.ensures c.behind-in-Some.ensures
