use Rattle.std.proofs.Common.{◌≡◌, length}
use Rattle.imap_types.specs.Folders.{no_counts}
use Rattle.imap_grammar.specs.reading.FolderReading as reading
use Rattle.imap_grammar.proofs.folders.counts_in.Given as goal

abbrev pub invariant-loop-left : goal.invariant-loop-left
invariant-loop-left l = reading.status_counts l.left l.items l.rest ≡ reading.status_counts (length l.fn.bytes) no_counts l.fn.bytes

abbrev pub decreases-loop-left : goal.decreases-loop-left
decreases-loop-left l = l.left
