use Rattle.std.proofs.Common.{◌-◌, ◌≤◌, length}
use Rattle.loose_addresses.specs.reading.ElementSteps.{FoundBefore}
use Rattle.loose_addresses.proofs.outside.last_outside.Given as goal

abbrev pub invariant-loop-at : goal.invariant-loop-at
invariant-loop-at l = record {
  within : l.at ≤ length l.text;
  found : FoundBefore l.at l.found l.text;
}

abbrev pub decreases-loop-at : goal.decreases-loop-at
decreases-loop-at l = length l.text - l.at
