use Rattle.loose_addresses.proofs.TornLemmas.{word_told}
use Rattle.loose_addresses.proofs.torn.begins_torn.Goals as goal

pub returns-in-None : goal.returns-in-None
returns-in-None c = λ b. c.in-None.ensures b.word b.rest b.shape b.whole

pub returns-in-Some : goal.returns-in-Some
returns-in-Some c = word_told c.args.text.now c.in-Some.word.now c.in-Some.field-0-1.now c.are_all.result c.in-Some.ensures.0 c.in-Some.ensures.1 c.are_all.ensures.test
