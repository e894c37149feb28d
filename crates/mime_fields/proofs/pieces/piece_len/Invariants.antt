use Rattle.std.proofs.Common.{◌-◌, ◌≤◌, length}
use Rattle.mime_fields.proofs.PieceLemmas.{PieceOf}
use Rattle.mime_fields.proofs.pieces.piece_len.Given as goal

abbrev pub invariant-loop-at : goal.invariant-loop-at
invariant-loop-at l = record {
  within : l.at ≤ length l.text;
  piece : PieceOf l.at l.text;
}

abbrev pub decreases-loop-at : goal.decreases-loop-at
decreases-loop-at l = length l.text - l.at
