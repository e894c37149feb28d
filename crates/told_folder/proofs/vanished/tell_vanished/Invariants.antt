use Rattle.told_folder.proofs.LostLemmas.{IsLost}
use Rattle.told_folder.proofs.vanished.tell_vanished.Given as goal

abbrev pub invariant-loop-range : goal.invariant-loop-range
invariant-loop-range l = IsLost l.ranges l.range-index l.initial.work l.work
