use Rattle.std.proofs.Common.{◌≡◌, drop}
use Rattle.told_folder.specs.reading.Loops.{closed}
use Rattle.told_folder.proofs.select.after_closed.Given as goal

abbrev pub invariant-loop-at : goal.invariant-loop-at
invariant-loop-at l = closed l.after (drop l.at l.responses) ≡ closed l.responses l.responses
