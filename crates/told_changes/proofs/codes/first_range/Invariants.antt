use Rattle.std.proofs.Common.{◌≡◌, drop}
use Rattle.std.specs.Prelude.{find}
use Rattle.told_changes.specs.Landings.{holds_some}
use Rattle.told_changes.proofs.codes.first_range.Given as goal

abbrev pub invariant-loop-range : goal.invariant-loop-range
invariant-loop-range l = find holds_some (drop l.range-index l.ranges) ≡ find holds_some l.ranges
