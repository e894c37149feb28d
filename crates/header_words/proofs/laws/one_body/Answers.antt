use Rattle.header_words.proofs.PrintableLemmas as lemmas
use Rattle.header_words.proofs.laws.one_body.Goals as goal

pub returns-clause-octets : goal.returns-clause-octets
returns-clause-octets c = λ e s t b p q g h. (lemmas.one_body e s t b p q g h).0

pub returns-clause-problem : goal.returns-clause-problem
returns-clause-problem c = λ e s t b p q g h. (lemmas.one_body e s t b p q g h).1
