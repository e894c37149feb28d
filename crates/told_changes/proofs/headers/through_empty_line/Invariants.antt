use Rattle.std.proofs.Common.{◌≡◌, ◌≤◌, ◌++◌, length, take, drop}
use Rattle.told_changes.specs.Headers as headers
use Rattle.told_changes.proofs.headers.through_empty_line.Given as goal

abbrev pub invariant-loop-rest : goal.invariant-loop-rest
invariant-loop-rest l = record {
  within : l.at ≤ length l.octets;
  rest_is : l.rest ≡ drop l.at l.octets;
  so_far : take l.at l.octets ++ headers.through_empty_line l.rest ≡ headers.through_empty_line l.octets;
}

abbrev pub decreases-loop-rest : goal.decreases-loop-rest
decreases-loop-rest l = length l.rest
