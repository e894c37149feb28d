use Rattle.std.proofs.Common.{◌-◌, ◌≤◌, length}
use Rattle.loose_addresses.proofs.ElementLemmas.{ElementOf}
use Rattle.loose_addresses.proofs.elements.element_len.Given as goal

abbrev pub invariant-loop-at : goal.invariant-loop-at
invariant-loop-at l = record {
  within : l.at ≤ length l.text;
  element : ElementOf l.at l.text;
}

abbrev pub decreases-loop-at : goal.decreases-loop-at
decreases-loop-at l = length l.text - l.at
