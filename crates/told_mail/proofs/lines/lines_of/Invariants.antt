use Rattle.std.proofs.Common.{◌≤◌, length}
use Rattle.told_mail.specs.reading.Lines.{AreLinesFrom}
use Rattle.told_mail.proofs.lines.lines_of.Given as goal

abbrev pub invariant-loop-at : goal.invariant-loop-at
invariant-loop-at l = record { within : l.at ≤ length l.responses; lines : AreLinesFrom l.responses l.at l.lines }

abbrev pub decreases-loop-at : goal.decreases-loop-at
decreases-loop-at l = l.at
