use Rattle.header_words.proofs.WordListLemmas as words
use Rattle.header_words.proofs.laws.one_writing.Goals as goal

pub returns : goal.returns
returns c = λ text s t a b. words.one_writing text s t a b
