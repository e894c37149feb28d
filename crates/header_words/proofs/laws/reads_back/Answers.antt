use Rattle.header_words.proofs.WrittenWords as words
use Rattle.header_words.proofs.laws.reads_back.Goals as goal

pub returns-clause-written : goal.returns-clause-written
returns-clause-written c = λ text value w. words.written_reads text value w

pub returns-clause-joined : goal.returns-clause-joined
returns-clause-joined c = λ between text ws r a. words.words_read between ws text r a
