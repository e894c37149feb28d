-- Stable sorts, and values that are sorted by keys.
use Rattle.std.specs.Prelude.{◌≡◌, Bool, List, Contains, IsPermutation, IsSorted, map}
use Rattle.std.specs.List.{zip}
use Rattle.std.specs.List.Sorted.{IsStable}
use Rattle.std.specs.declared.cmp.Ordering.{Ordering}
use Rattle.query_orders.specs.Directions.{directed}

-- the order of the values that a key gives, in this direction
abbrev pub by_key : {X K : Type 0} → Bool → (K → K → Ordering) → (X → K) → X → X → Ordering
by_key is_ascending cmp key a b = directed is_ascending (cmp (key a) (key b))

-- the new rows are in order, and those that the order doesn't tell apart stand as they did among the old ones
pub record IsStableSort {X : Type 0} (cmp : X → X → Ordering) (old new : List X) : Type 0 where
  pub ascends : IsSorted cmp new
  pub stays : IsStable cmp old new

-- the values of a stable sort by keys; keys and values stand in pairs, and the rest of the longer list has no part
pub record IsSortedByKeys {K V : Type 0} (is_ascending : Bool) (cmp : K → K → Ordering) (keys : List K) (values sorted : List V) : Type 0 where
  pub pairs : List (K × V)
  pub permutes : IsPermutation (zip keys values) pairs
  pub sorts : IsStableSort (by_key is_ascending cmp (λ (p : K × V). p.0)) (zip keys values) pairs
  pub are : sorted ≡ map (λ (p : K × V). p.1) pairs

-- no two of the rows have one value
abbrev pub IsOneToOne : {X V : Type 0} → (X → V) → List X → Type 0
IsOneToOne {X} of rows = (a b : X) → Contains rows a → Contains rows b → of a ≡ of b → a ≡ b

-- the values of a stable sort of rows; which of equal values is whose isn't told, so it is one where no two rows have one value
pub record AreInOrder {X V : Type 0} (cmp : X → X → Ordering) (of : X → V) (rows : List X) (values : List V) : Type 0 where
  pub sorted : List X
  pub permutes : IsPermutation rows sorted
  pub sorts : IsOneToOne of rows → IsStableSort cmp rows sorted
  pub are : values ≡ map of sorted
