-- Numbers in the order asked, as the code makes them of the rows that are kept.
use Rattle.std.specs.Prelude.{◌≡◌, ℕ, List, Bool, IsPermutation}
use Rattle.std.specs.List.Sorted.{IsStrictlySortedBy}
use Rattle.mail_maps.specs.Serve.{Email}
use Rattle.query_orders.specs.Emails.{email_cmp}
use Rattle.query_orders.specs.declared.comparators.EmailComparator.{EmailComparator}
use Rattle.query_lists.specs.Ordered.{row_cmp}
use Rattle.query_core.specs.Lists.{collapsed_if}

-- of all rows, or of each Thread the first
pub record AreNumbersAsked (emails : List (ℕ × Email)) (comparators : List EmailComparator) (collapses : Bool) (rows : List (ℕ × Email)) (numbers : List ℕ) : Type 0 where
  pub sorted : List (ℕ × Email)
  pub permutes : IsPermutation rows sorted
  pub ascends : IsStrictlySortedBy (row_cmp (email_cmp emails comparators)) sorted
  pub are : numbers ≡ collapsed_if collapses sorted
