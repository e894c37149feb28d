use Rattle.std.proofs.Common.{◌≡◌, ◌++◌, length}
use Rattle.imap_values.specs.Sets as reading
use Rattle.imap_values.proofs.sets.words_in.Given as goal

abbrev pub invariant-loop-left : goal.invariant-loop-left
invariant-loop-left l = l.names ++ reading.words_in l.left l.rest ≡ reading.words_in (length l.fn.bytes) l.fn.bytes

abbrev pub decreases-loop-left : goal.decreases-loop-left
decreases-loop-left l = l.left
