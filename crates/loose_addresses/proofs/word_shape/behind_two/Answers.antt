use Rattle.loose_addresses.proofs.ShapeLemmas.{two_none, two_told}
use Rattle.loose_addresses.proofs.word_shape.behind_two.Goals as goal

pub returns-in-None : goal.returns-in-None
returns-in-None c = two_none c.args.text.now c.in-None.ensures

pub returns-in-Some : goal.returns-in-Some
returns-in-Some c = two_told c.in-Some.rest.now c.args.text.now c.behind_part-in-Some.result c.in-Some.ensures c.behind_part-in-Some.ensures
