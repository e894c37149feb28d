-- The list that a query gives of a map (RFC 8620 section 5.5): the rows that its filter takes, ascending.
use Rattle.std.specs.Prelude.{◌≡◌, ◌↔◌, ℕ, List, Contains, map, Some}
use Rattle.std.specs.List.Sorted.{IsStrictlySortedBy}
use Rattle.std.specs.declared.cmp.Ordering.{Ordering}
use Rattle.std.specs.Ordering.{nat_cmp, ordering_then}
use Rattle.change_list.specs.Advance.{row_at}

module _ {V : Type 0} where
  -- by the order of their values, and where that doesn't tell them apart by number
  abbrev pub row_cmp : (V → V → Ordering) → ℕ × V → ℕ × V → Ordering
  row_cmp cmp a b = ordering_then (cmp a.1 b.1) (nat_cmp a.0 b.0)

  -- the rows of the map that are taken, and no others, in strictly ascending order
  pub record IsQueryList (rows : List (ℕ × V)) (Takes : ℕ × V → Type 0) (cmp : V → V → Ordering) (list : List (ℕ × V)) : Type 0 where
    pub ascends : IsStrictlySortedBy (row_cmp cmp) list
    pub members : (e : ℕ × V) → Contains list e ↔ ((row_at rows e.0 ≡ Some e.1) × Takes e)

  abbrev pub numbers_of : List (ℕ × V) → List ℕ
  numbers_of list = map (λ (e : ℕ × V). e.0) list

  -- the rows stand by number, each once
  abbrev pub AscendByNumber : List (ℕ × V) → Type 0
  AscendByNumber rows = IsStrictlySortedBy nat_cmp (numbers_of rows)
