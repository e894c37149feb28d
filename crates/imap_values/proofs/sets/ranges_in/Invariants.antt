use Rattle.std.proofs.Common.{◌≡◌, ◌++◌}
use Rattle.imap_values.specs.Sets as reading
use Rattle.imap_values.proofs.sets.ranges_in.Given as goal

abbrev pub invariant-loop-left : goal.invariant-loop-left
invariant-loop-left l = l.ranges.items ++ reading.ranges_read l.left l.rest ≡ reading.ranges_read l.fn.most l.fn.bytes

abbrev pub decreases-loop-left : goal.decreases-loop-left
decreases-loop-left l = l.left
