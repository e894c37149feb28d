-- Values of rows, in the rows' order.
use Rattle.std.specs.Prelude.{◌≡◌, List, IsPermutation, map}
use Rattle.std.specs.List.Sorted.{IsStrictlySortedBy}
use Rattle.std.specs.declared.cmp.Ordering.{Ordering}

-- the values of all rows, in the order in which the rows strictly ascend
pub record IsListed {X V : Type 0} (cmp : X → X → Ordering) (of : X → V) (rows : List X) (values : List V) : Type 0 where
  pub sorted : List X
  pub permutes : IsPermutation rows sorted
  pub ascends : IsStrictlySortedBy cmp sorted
  pub are : values ≡ map of sorted
