use Rattle.head_laws.proofs.Looking as lemmas
use Rattle.head_laws.proofs.laws.whole_heads_are_read.Goals as goal

pub returns-clause-whole : goal.returns-clause-whole
returns-clause-whole c = λ octets is. lemmas.whole_is_read octets is

pub returns-clause-part : goal.returns-clause-part
returns-clause-part c = λ octets isnt goes_on. lemmas.part_is_missing octets isnt goes_on
