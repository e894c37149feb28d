-- The first row of each group, as Threads are collapsed (RFC 8621 section 4.4.3).
use Rattle.std.specs.Prelude.{ℕ, ◌==◌, Bool, not, List, [], ◌∷◌, filter}
use Rattle.query_lists.specs.declared.groups.GroupedRow.{GroupedRow}

-- of another group than this
abbrev pub is_of_other : ℕ → GroupedRow → Bool
is_of_other group row = not (group == row.group)

-- each group by the row that stands first
abbrev pub first_of_each : List GroupedRow → List GroupedRow
first_of_each [] = []
first_of_each (row ∷ rows) = row ∷ filter (is_of_other row.group) (first_of_each rows)
