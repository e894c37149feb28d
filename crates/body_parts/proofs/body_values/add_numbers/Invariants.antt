use Rattle.std.proofs.Common.{◌≡◌, ℕ, ◌||◌, take, nat_cmp}
use Rattle.std.specs.BTreeSet.{contains}
use Rattle.body_parts.specs.BodyValues.{is_listed}
use Rattle.body_parts.proofs.body_values.add_numbers.Given as goal

abbrev pub invariant-loop-number : goal.invariant-loop-number
invariant-loop-number l = (n : ℕ) → contains nat_cmp l.fetched n ≡ (contains nat_cmp l.fn.fetched n || is_listed (take l.number-index l.numbers) n)
