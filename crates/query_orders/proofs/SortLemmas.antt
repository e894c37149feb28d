-- Stable sorts one after the other.
use Rattle.std.proofs.Common.{◌≡◌, ℕ, suc, ◌<◌, ◌≤◌, List, [], ◌∷◌, length, get_or, filter, map, Bool, true, false, not, ◌&&◌, cond}
use Rattle.std.proofs.Common.{refl, sym, ap, subst, ◌∙◌, arith, Ordering, Less, Equal, Greater, is_lt}
use Rattle.std.specs.Cmp.{IsTotalOrder}
use Rattle.std.specs.List.{AllByRecursion}
use Rattle.std.specs.List.Sorted.{IsStrictlySortedBy, ties}
use Rattle.std.specs.Ordering.{ordering_reverse, ordering_then, then_cmp}
use Rattle.std.proofs.lemmas.Cmp.{tied_itself}
use Rattle.std.proofs.lemmas.List.Elements.{recursion_from_All}
use Rattle.std.proofs.lemmas.List.Kept.{IsStrictlySortedBy-filter}
use Rattle.std.proofs.lemmas.List.Sorted.{ranks_by, sorted_far}
use Rattle.query_orders.specs.reading.Keys.{IsStableSort}

module _ {X : Type 0} (first next : X → X → Ordering) (total : IsTotalOrder first) where
  abbrev is_before : X → X → Bool
  is_before x y = is_lt (first x y)

  -- no later one comes before an earlier one
  abbrev Ascends : List X → Type 0
  Ascends [] = Unit {0}
  Ascends (x ∷ xs) = AllByRecursion (λ y. is_before y x ≡ false) xs × Ascends xs

  ascends : (xs : List X) → ((i j : ℕ) (d : X) → i ≤ j → j < length xs → is_before (get_or xs j d) (get_or xs i d) ≡ false) → Ascends xs
  ascends [] h = tt
  ascends (x ∷ xs) h = (
    recursion_from_All (λ y. is_before y x ≡ false) xs (λ k d p. h 0 (suc k) d (omega arith) (omega arith)),
    ascends xs (λ i j d p q. h (suc i) (suc j) d (omega arith) (omega arith)),
  )

  -- one that is no earlier is later, or ties, and then the next order decides
  one_more : (y z : X) (kept : List X) (o : Ordering) → first y z ≡ o → is_before z y ≡ false
      → AllByRecursion (λ e. next y e ≡ Less) (cond (ties is_before y z) (z ∷ kept) kept)
      → (ordering_then o (next y z) ≡ Less) × AllByRecursion (λ e. next y e ≡ Less) kept
  one_more y z kept Less is low h =
      (refl, subst (λ b. AllByRecursion (λ e. next y e ≡ Less) (cond b (z ∷ kept) kept)) (λ i. not (is_lt (is i)) && not (is_before z y)) h)
  one_more y z kept Equal is low h =
      subst (λ b. AllByRecursion (λ e. next y e ≡ Less) (cond b (z ∷ kept) kept)) (λ i. not (is_lt (is i)) && not (low i)) h
  one_more y z kept Greater is low h =
      absurd (let e : false ≡ true = sym low ∙ ap is_lt (total.antisymm z y) ∙ ap (λ o. is_lt (ordering_reverse o)) is in cc)

  behind_head : (y : X) (ys : List X) → AllByRecursion (λ z. is_before z y ≡ false) ys → AllByRecursion (λ z. next y z ≡ Less) (filter (ties is_before y) ys)
      → AllByRecursion (λ z. then_cmp first next y z ≡ Less) ys
  behind_head y [] low h = tt
  behind_head y (z ∷ ys) low h =
      let both = one_more y z (filter (ties is_before y) ys) (first y z) refl low.0 h in
      (both.0, behind_head y ys low.1 both.1)

  ties_itself : (y : X) → ties is_before y y ≡ true
  ties_itself y = ap (λ o. not (is_lt o) && not (is_lt o)) (tied_itself total y)

  head_of : (y : X) (kept : List X) (b : Bool) → b ≡ true → IsStrictlySortedBy next (cond b (y ∷ kept) kept) → AllByRecursion (λ z. next y z ≡ Less) kept
  unfolding IsStrictlySortedBy
  head_of y kept true is h = h.0
  head_of y kept false is h = absurd (cc)

  rest_of : (y : X) (kept : List X) (b : Bool) → IsStrictlySortedBy next (cond b (y ∷ kept) kept) → IsStrictlySortedBy next kept
  unfolding IsStrictlySortedBy
  rest_of y kept true h = h.1
  rest_of y kept false h = h

  by_both : (ys : List X) → Ascends ys → ((x : X) → IsStrictlySortedBy next (filter (ties is_before x) ys)) → IsStrictlySortedBy (then_cmp first next) ys
  unfolding IsStrictlySortedBy
  by_both [] up h = tt
  by_both (y ∷ ys) up h = (
    behind_head y ys up.0 (head_of y (filter (ties is_before y) ys) (ties is_before y y) (ties_itself y) (h y)),
    by_both ys up.1 (λ x. rest_of y (filter (ties is_before x) ys) (ties is_before x y) (h x)),
  )

  -- what was in strict order is so by the first order and then by that one, after a stable sort by the first
  pub then_sorted : (xs ys : List X) → IsStrictlySortedBy next xs → IsStableSort first xs ys → IsStrictlySortedBy (then_cmp first next) ys
  then_sorted xs ys was sort =
      by_both ys (ascends ys (sorted_far is_before (ranks_by total (λ (x : X). x)) ys sort.ascends))
      (λ x. subst (IsStrictlySortedBy next) (sym (sort.stays x)) (IsStrictlySortedBy-filter next (ties is_before x) xs was))

-- of three orders, one after the other
pub then_assoc : (a b c : Ordering) → ordering_then (ordering_then a b) c ≡ ordering_then a (ordering_then b c)
then_assoc Less b c = refl
then_assoc Equal b c = refl
then_assoc Greater b c = refl

module _ {X Y : Type 0} (f : X → Y) where
  all_mapped : (P : Y → Type 0) (xs : List X) → AllByRecursion (λ x. P (f x)) xs → AllByRecursion P (map f xs)
  all_mapped P [] h = tt
  all_mapped P (x ∷ xs) h = (h.0, all_mapped P xs h.1)

  all_before : (P : Y → Type 0) (xs : List X) → AllByRecursion P (map f xs) → AllByRecursion (λ x. P (f x)) xs
  all_before P [] h = tt
  all_before P (x ∷ xs) h = (h.0, all_before P xs h.1)

  -- what is in order by its values has the values in order, and the other way round
  pub sorted_mapped : (cmp : Y → Y → Ordering) (xs : List X) → IsStrictlySortedBy (λ (a b : X). cmp (f a) (f b)) xs → IsStrictlySortedBy cmp (map f xs)
  unfolding IsStrictlySortedBy
  sorted_mapped cmp [] h = tt
  sorted_mapped cmp (x ∷ xs) h = (all_mapped (λ y. cmp (f x) y ≡ Less) xs h.0, sorted_mapped cmp xs h.1)

  pub sorted_before : (cmp : Y → Y → Ordering) (xs : List X) → IsStrictlySortedBy cmp (map f xs) → IsStrictlySortedBy (λ (a b : X). cmp (f a) (f b)) xs
  unfolding IsStrictlySortedBy
  sorted_before cmp [] h = tt
  sorted_before cmp (x ∷ xs) h = (all_before (λ y. cmp (f x) y ≡ Less) xs h.0, sorted_before cmp xs h.1)
