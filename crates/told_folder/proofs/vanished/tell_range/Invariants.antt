use Rattle.std.proofs.Common.{length}
use Rattle.told_folder.specs.Tell.{is_in}
use Rattle.told_folder.proofs.LostLemmas.{IsLosing}
use Rattle.told_folder.proofs.vanished.tell_range.Given as goal

abbrev pub invariant-loop-uid : goal.invariant-loop-uid
invariant-loop-uid l = IsLosing (is_in l.range) l.initial.work l.work

abbrev pub decreases-loop-uid : goal.decreases-loop-uid
decreases-loop-uid l = length l.work.messages
