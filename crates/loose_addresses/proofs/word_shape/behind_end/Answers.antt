use Rattle.std.proofs.Common.{◌∷◌}
use Rattle.loose_addresses.proofs.ShapeLemmas.{end_told}
use Rattle.loose_addresses.proofs.word_shape.behind_end.Goals as goal

pub returns-in-None : goal.returns-in-None
returns-in-None c = λ r h. c.in-None.ensures (61 ∷ r) h

pub returns-in-Some : goal.returns-in-Some
returns-in-Some c = end_told c.in-Some.rest.now c.args.text.now c.behind.result c.in-Some.ensures c.behind.ensures
