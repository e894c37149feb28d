use Rattle.loose_addresses.proofs.ShapeLemmas.{three_none, three_told}
use Rattle.loose_addresses.proofs.word_shape.behind_three.Goals as goal

pub returns-in-None : goal.returns-in-None
returns-in-None c = three_none c.args.text.now c.in-None.ensures

pub returns-in-Some : goal.returns-in-Some
returns-in-Some c = three_told c.in-Some.rest.now c.args.text.now c.behind_part.result c.in-Some.ensures c.behind_part.ensures
