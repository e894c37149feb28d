use Rattle.std.proofs.Common.{◌≡◌, ◌≤◌, drop}
use Rattle.header_dates.specs.Dates.{value_from}
use Rattle.header_dates.proofs.dates.value_of_digits.Given as goal

abbrev pub invariant-loop-digit : goal.invariant-loop-digit
invariant-loop-digit l = record {
  same : value_from l.value (drop l.digit-index l.digits) ≡ value_from 0 l.digits;
  none : l.digit-index ≤ 0 → l.value ≤ 0;
  one : l.digit-index ≤ 1 → l.value ≤ 207;
  two : l.digit-index ≤ 2 → l.value ≤ 2277;
  three : l.digit-index ≤ 3 → l.value ≤ 22977;
  four : l.value ≤ 229977;
}
