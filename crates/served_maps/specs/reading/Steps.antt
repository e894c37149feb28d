-- The touches of a step, as entries: what is added, changed or removed.
use Rattle.std.specs.Prelude.{ℕ, List, Bool, false}
use Rattle.change_list.specs.Advance.{row_at, counts_if}
use Rattle.change_list.specs.declared.entries.Entry.{Entry}
use Rattle.change_list.specs.declared.entries.Kind.TheVariants.{Added, Changed, Removed}

module _ {R : Type 0} where
  abbrev pub removed : ℕ × R → Entry
  removed e = record { id = e.0; kind = Removed; counts_only = false }

  -- with whether counts alone differ from what the old map has
  abbrev pub changed : (R → R → Bool) → List (ℕ × R) → ℕ × R → Entry
  changed but_for_counts old e = record { id = e.0; kind = Changed; counts_only = counts_if but_for_counts (row_at old e.0) e.1 }

  abbrev pub added : ℕ × R → Entry
  added e = record { id = e.0; kind = Added; counts_only = false }
