use Rattle.header_words.proofs.PrintableLemmas as lemmas
use Rattle.mime_tree.proofs.laws.one_body.Goals as goal

pub returns-clause-octets : goal.returns-clause-octets
returns-clause-octets c = λ p b s t x y g h. (lemmas.one_body _ s t _ x y g h).0

pub returns-clause-problem : goal.returns-clause-problem
returns-clause-problem c = λ p b s t x y g h. (lemmas.one_body _ s t _ x y g h).1
