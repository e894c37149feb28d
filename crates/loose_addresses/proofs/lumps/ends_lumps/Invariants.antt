use Rattle.std.proofs.Common.{◌-◌, ◌≤◌}
use Rattle.loose_addresses.specs.reading.ElementSteps.{EndsLumps}
use Rattle.loose_addresses.proofs.lumps.ends_lumps.Given as goal

abbrev pub invariant-loop-at : goal.invariant-loop-at
invariant-loop-at l = record {
  within : l.at ≤ l.place;
  lumps : EndsLumps l.at l.text;
}

abbrev pub decreases-loop-at : goal.decreases-loop-at
decreases-loop-at l = l.place - l.at
