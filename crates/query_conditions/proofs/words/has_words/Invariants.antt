use Rattle.std.proofs.Common.{ℕ, List}
use Rattle.query_conditions.specs.Words.{HasWord}
use Rattle.query_conditions.proofs.WordLemmas.{RestDecides}
use Rattle.query_conditions.proofs.words.has_words.Given as goal

-- each of the words stands in the text where each of those that are left does
abbrev pub invariant-loop-word : goal.invariant-loop-word
invariant-loop-word l = RestDecides (λ (word : List ℕ). HasWord word l.text) l.word-items l.word-index
