use Rattle.loose_addresses.proofs.ShapeLemmas.{part_told}
use Rattle.loose_addresses.proofs.word_shape.behind_part.Goals as goal

pub returns : goal.returns
returns c = part_told c.args.text.now c.cut.result.1.now c.behind.result c.cut.ensures.back c.behind.ensures
