use Rattle.std.proofs.Common.{◌≡◌, ◌≤◌, length, drop}
use Rattle.header_tokens.specs.reading.ClosingCounts.{closings}
use Rattle.header_tokens.specs.reading.ClosingSteps.{AreEnds}
use Rattle.header_tokens.proofs.closings.closings.Given as goal

abbrev pub invariant-loop-at : goal.invariant-loop-at
invariant-loop-at l = record {
  within : l.at ≤ length l.text;
  closed : l.closed.items ≡ closings (drop l.at l.text);
  ends : AreEnds l.ends (drop l.at l.text);
}

abbrev pub decreases-loop-at : goal.decreases-loop-at
decreases-loop-at l = l.at
