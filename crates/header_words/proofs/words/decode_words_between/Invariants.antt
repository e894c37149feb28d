use Rattle.std.proofs.Common.{length}
use Rattle.header_words.proofs.WordLemmas.{Goes}
use Rattle.header_words.proofs.words.decode_words_between.Given as goal

abbrev pub invariant-loop-spans : goal.invariant-loop-spans
invariant-loop-spans l = Goes l.edges l.behind_word l.rest l.spans l.value

abbrev pub decreases-loop-spans : goal.decreases-loop-spans
decreases-loop-spans l = length l.rest
