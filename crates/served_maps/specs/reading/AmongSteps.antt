-- Single touches of a step in which rows differ at some ids alone.
use Rattle.std.specs.Prelude.{ℕ, ◌==◌, List, [], ◌∷◌, Bool, false, not, ◌&&◌, if◌then◌else◌, is_some, Option, Some, None}
use Rattle.change_list.specs.Advance.{row_at, counts_if, differs}
use Rattle.change_list.specs.declared.entries.Entry.{Entry}
use Rattle.change_list.specs.declared.entries.Kind.TheVariants.{Added, Changed, Removed}

module _ {R : Type 0} where
  -- whether the id is in the one map, and not in the other
  abbrev pub goes : List (ℕ × R) → List (ℕ × R) → ℕ → Bool
  goes old fresh q = is_some (row_at old q) && not (is_some (row_at fresh q))

  -- by a test of the row before and the row then, where both are there
  abbrev pub tested : (Option R → R → Bool) → Option R → Option R → Bool
  tested test o None = false
  tested test o (Some v) = test o v

  abbrev pub is_other : (R → R → Bool) → List (ℕ × R) → List (ℕ × R) → ℕ → Bool
  is_other same old fresh q = tested (differs same) (row_at old q) (row_at fresh q)

  abbrev pub change_at : (R → R → Bool) → List (ℕ × R) → List (ℕ × R) → ℕ → Entry
  change_at counts old fresh q = record { id = q; kind = Changed; counts_only = tested (counts_if counts) (row_at old q) (row_at fresh q) }

abbrev pub removal_at : ℕ → Entry
removal_at q = record { id = q; kind = Removed; counts_only = false }

abbrev pub addition_at : ℕ → Entry
addition_at q = record { id = q; kind = Added; counts_only = false }

-- what an id has after these rows were put in one after the other
abbrev pub value_put : {R : Type 0} → Option R → List (ℕ × R) → ℕ → Option R
value_put was [] q = was
value_put was (e ∷ es) q = value_put (if e.0 == q then Some e.1 else was) es q
