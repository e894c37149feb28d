use Rattle.std.proofs.Common.{◌≡◌, [], length, map}
use Rattle.imap_values.specs.Spans as reading
use Rattle.imap_values.proofs.flags.names_in.Given as goal

abbrev pub invariant-loop-left : goal.invariant-loop-left
invariant-loop-left l = reading.names_in l.left (map (λ v. v.items) l.set.keys) l.rest ≡ reading.names_in (length l.fn.bytes) [] l.fn.bytes

abbrev pub decreases-loop-left : goal.decreases-loop-left
decreases-loop-left l = l.left
