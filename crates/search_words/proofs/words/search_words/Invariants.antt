use Rattle.std.proofs.Common.{◌≡◌, ◌≤◌, ◌++◌, length}
use Rattle.search_words.specs.SearchWords as spec
use Rattle.search_words.specs.reading.OpenMarks.{AreOpen}
use Rattle.search_words.proofs.words.search_words.Given as goal

-- the words so far, and those of what is left
abbrev pub invariant-loop-octet : goal.invariant-loop-octet
invariant-loop-octet l = record {
  same : spec.search_words l.fn.text ≡ l.words ++ spec.search_words l.left;
  few : length l.words ≤ 100;
  known : AreOpen l.unclosed l.left;
}

abbrev pub decreases-loop-octet : goal.decreases-loop-octet
decreases-loop-octet l = length l.left
