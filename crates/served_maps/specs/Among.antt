-- Rows that differ at some ids alone: at these the next map has what is fresh, and elsewhere what it had.
use Rattle.std.specs.Prelude.{ℕ, List, cond, Option}
use Rattle.std.specs.BTreeSet.{BTreeSet, contains}
use Rattle.std.specs.Ordering.{nat_cmp}
use Rattle.change_list.specs.Advance.{row_at}

-- what an id has then
abbrev pub then_at : {R : Type 0} → BTreeSet ℕ → List (ℕ × R) → List (ℕ × R) → ℕ → Option R
then_at ids old fresh q = cond (contains nat_cmp ids q) (row_at fresh q) (row_at old q)
