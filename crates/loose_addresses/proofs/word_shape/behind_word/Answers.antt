use Rattle.loose_addresses.proofs.ShapeLemmas.{word_none, word_told}
use Rattle.loose_addresses.proofs.word_shape.behind_word.Goals as goal

pub returns-in-None : goal.returns-in-None
returns-in-None c = word_none c.args.text.now c.in-None.ensures

pub returns-in-Some : goal.returns-in-Some
returns-in-Some c = word_told c.args.text.now c.in-Some.inner.now c.behind_end.result c.in-Some.ensures c.behind_end.ensures
