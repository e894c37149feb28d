use Rattle.std.proofs.Common.{◌≤◌, length, drop}
use Rattle.loose_addresses.specs.Angles.{NoAngle}
use Rattle.loose_addresses.specs.reading.AngleSteps.{Tells}
use Rattle.loose_addresses.proofs.angles.last_open.Given as goal

abbrev pub invariant-loop-at : goal.invariant-loop-at
invariant-loop-at l = record {
  within : l.at ≤ length l.text;
  tells : Tells l.scan (drop l.at l.text);
  none : NoAngle (drop l.at l.text);
}

abbrev pub decreases-loop-at : goal.decreases-loop-at
decreases-loop-at l = l.at
