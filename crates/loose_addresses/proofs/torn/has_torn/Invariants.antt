use Rattle.std.proofs.Common.{◌-◌, ◌≤◌, length}
use Rattle.loose_addresses.specs.reading.TornSteps.{NoneBefore}
use Rattle.loose_addresses.proofs.torn.has_torn.Given as goal

abbrev pub invariant-loop-at : goal.invariant-loop-at
invariant-loop-at l = record {
  within : l.at ≤ length l.text;
  none : NoneBefore l.at l.text;
}

abbrev pub decreases-loop-at : goal.decreases-loop-at
decreases-loop-at l = length l.text - l.at
