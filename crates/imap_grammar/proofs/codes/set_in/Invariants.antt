use Rattle.std.proofs.Common.{◌≡◌, length}
use Rattle.imap_types.specs.reading.CodeReading as reading
use Rattle.imap_grammar.specs.reading.Codes.{put_ranges}
use Rattle.imap_grammar.proofs.codes.set_in.Given as goal

abbrev pub invariant-loop-left : goal.invariant-loop-left
invariant-loop-left l = put_ranges l.ranges.items (reading.ranges_in l.left l.rest) ≡ reading.ranges_in (length l.fn.text) l.fn.text

abbrev pub decreases-loop-left : goal.decreases-loop-left
decreases-loop-left l = l.left
