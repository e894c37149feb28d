use Rattle.std.proofs.Common.{ℕ, ◌+◌, ◌<◌, length, slice_range}
use Rattle.text_words.specs.Octets.{SameText}
use Rattle.query_conditions.proofs.words.has_word.Given as goal

-- the word stands at no place so far
abbrev pub invariant-loop-at : goal.invariant-loop-at
invariant-loop-at l = (k : ℕ) → k < l.at → SameText (slice_range l.text k (k + length l.word)) l.word → ⊥
