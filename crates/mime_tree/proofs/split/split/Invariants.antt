use Rattle.std.proofs.Common.{◌-◌, ◌≤◌, length}
use Rattle.mime_tree.proofs.SplitLemmas.{Split, HasRoom}
use Rattle.mime_tree.proofs.split.split.Given as goal

abbrev pub invariant-loop-at : goal.invariant-loop-at
invariant-loop-at l = record {
  within : l.at ≤ length l.bytes;
  split : Split l.begun l.bytes l.boundary l.pieces.items l.at;
  room : HasRoom l.most l.begun l.pieces.items;
}

abbrev pub decreases-loop-at : goal.decreases-loop-at
decreases-loop-at l = length l.bytes - l.at
