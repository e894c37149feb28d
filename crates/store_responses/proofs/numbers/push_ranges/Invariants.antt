use Rattle.std.proofs.Common.{◌≡◌, ◌++◌, drop}
use Rattle.store_responses.specs.ResponseTexts as texts
use Rattle.store_responses.proofs.numbers.push_ranges.Given as goal

abbrev pub invariant-loop-range : goal.invariant-loop-range
invariant-loop-range l = l.out.items ++ texts.more_ranges_text (drop l.range-index l.more) ≡ l.fn.out.items ++ texts.ranges_text l.ranges
