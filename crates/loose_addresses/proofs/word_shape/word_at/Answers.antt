use Rattle.loose_addresses.proofs.ShapeLemmas.{shape_word, word_split}
use Rattle.loose_addresses.proofs.word_shape.word_at.Goals as goal

pub returns-in-None : goal.returns-in-None
returns-in-None c = λ x y s e. c.in-None.ensures y (shape_word x y c.args.text.now s e)

pub returns-in-Some : goal.returns-in-Some
returns-in-Some c =
    word_split c.in-Some.rest.now c.args.text.now c.split_at.result.0.now c.split_at.result.1.now c.in-Some.ensures c.split_at.ensures.front c.split_at.ensures.back
