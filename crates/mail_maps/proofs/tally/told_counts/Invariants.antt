use Rattle.std.proofs.Common.{◌≡◌, ◌++◌}
use Rattle.mail_maps.proofs.Tallied.{told_rows}
use Rattle.mail_maps.proofs.tally.told_counts.Given as goal

abbrev pub invariant-loop-folder : goal.invariant-loop-folder
invariant-loop-folder l = l.counts.entries ++ told_rows l.unread l.folder-iterator ≡ told_rows l.unread l.folders.entries
