use Rattle.std.proofs.Common.{◌≡◌, length}
use Rattle.message_lines.specs.Subjects.{has_word_mark}
use Rattle.message_lines.proofs.subjects.has_word_mark.Given as goal

abbrev pub invariant-loop-rest : goal.invariant-loop-rest
invariant-loop-rest l = has_word_mark l.rest ≡ has_word_mark l.text

abbrev pub decreases-loop-rest : goal.decreases-loop-rest
decreases-loop-rest l = length l.rest
