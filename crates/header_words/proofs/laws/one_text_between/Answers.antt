use Rattle.std.proofs.Common.{false}
use Rattle.header_words.proofs.WordLemmas as words
use Rattle.header_words.proofs.laws.one_text_between.Goals as goal

pub returns : goal.returns
returns c = λ edges value s t g h. words.one_text_between edges false value s t g h
