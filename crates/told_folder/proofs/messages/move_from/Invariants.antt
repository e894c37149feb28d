use Rattle.std.proofs.Common.{◌≡◌, take, vec_len}
use Rattle.told_folder.specs.reading.Parts.{all_of, IsParted}
use Rattle.told_folder.proofs.messages.move_from.Given as goal

abbrev pub invariant-loop-before : goal.invariant-loop-before
invariant-loop-before l = record {
  parted : IsParted l.before l.after;
  same : all_of l.before l.after ≡ all_of l.initial.before l.initial.after;
  moved : take l.at l.before.items ≡ take l.at l.initial.before.items;
}

abbrev pub decreases-loop-before : goal.decreases-loop-before
decreases-loop-before l = vec_len l.before
