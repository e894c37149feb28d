-- Values that are sorted by keys.
use Rattle.std.proofs.Common.{◌≡◌, ℕ, ◌+◌, List, [], ◌∷◌, length, get_or, set, filter, map, Bool, true, false, cond, Contains, IsPermutation, All}
use Rattle.std.proofs.Common.{refl, sym, ap, subst, ◌∙◌, arith, Ordering, is_lt}
use Rattle.std.specs.Cmp.{IsTotalOrder}
use Rattle.std.specs.List.{zip, swap}
use Rattle.std.specs.List.Sorted.{ties}
use Rattle.std.proofs.lemmas.List.{length-map}
use Rattle.std.proofs.lemmas.List.Elements.{All-contains_itself, All-filter, All-head, All-tail}
use Rattle.std.proofs.lemmas.List.Sorted.{All-permutation, IsPermutation-keeps, IsPermutation-map, IsPermutation-swap, IsPermutation-trans}
use Rattle.std.proofs.lemmas.Simd.{map-map}
use Rattle.std.proofs.Math.ListN.{get_or-map}
use Rattle.std.proofs.Math.Seq.{map-set}
use Rattle.query_orders.specs.Directions.{directed}
use Rattle.query_orders.specs.reading.Keys.{AreInOrder, IsOneToOne, IsSortedByKeys, IsStableSort, by_key}

pub ascending : {X K : Type 0} (cmp : K → K → Ordering) (key : X → K) (is_ascending : Bool) → is_ascending ≡ true
    → (λ (x y : X). cmp (key x) (key y)) ≡ by_key is_ascending cmp key
ascending cmp key true is = refl
ascending cmp key false is = absurd (cc)

-- the keys' order the other way round is the descending one
pub descending : {X K : Type 0} (cmp : K → K → Ordering) → IsTotalOrder cmp → (key : X → K) (is_ascending : Bool) → is_ascending ≡ false
    → (λ (x y : X). cmp (key y) (key x)) ≡ by_key is_ascending cmp key
descending cmp total key true is = absurd (cc)
descending cmp total key false is = λ i x y. total.antisymm (key y) (key x) i

pub zip_none : {X Y : Type 0} (xs : List X) → zip {X = Y} xs [] ≡ []
zip_none [] = refl
zip_none (x ∷ xs) = refl

abbrev rest : {X : Type 0} → List X → List X
rest [] = []
rest (x ∷ xs) = xs

module _ {X Y : Type 0} (f : X → Y) where
  map_filtered : (p : Y → Bool) (xs : List X) → filter p (map f xs) ≡ map f (filter (λ x. p (f x)) xs)
  map_filtered p [] = refl
  map_filtered p (x ∷ xs) = elim (p (f x)) as (λ b. cond b (f x ∷ filter p (map f xs)) (filter p (map f xs)) ≡ map f (cond b (x ∷ filter (λ y. p (f y)) xs) (filter (λ y. p (f y)) xs))) [
    | true ↦ ap (λ ys. f x ∷ ys) (map_filtered p xs)
    | false ↦ map_filtered p xs
  ]

  map_swapped : (xs : List X) (i j : ℕ) → map f (swap xs i j) ≡ swap (map f xs) i j
  map_swapped [] i j = refl
  map_swapped (d ∷ ys) i j =
      let xs : List X = d ∷ ys in
      map-set f (set xs i (get_or xs j d)) j (get_or xs i d)
      ∙ (λ t. set ((map-set f xs i (get_or xs j d) ∙ ap (set (map f xs) i) (sym (get_or-map f xs j d))) t) j (sym (get_or-map f xs i d) t))

  -- a permutation of values is one of what has them
  permuted_before : (xs : List X) (ys : List Y) → IsPermutation (map f xs) ys → (zs : List X) × (IsPermutation xs zs × (ys ≡ map f zs))
  permuted_before xs ys moved =
      IsPermutation-keeps (map f xs) (λ (l : List Y). (zs : List X) × (IsPermutation xs zs × (l ≡ map f zs)))
      (xs, (record { moves = []; below = tt; is = refl }, refl))
      (λ l i j p q had.
      let zs : List X = had.0 in
      let long : length l ≡ length zs = ap length had.1.1 ∙ length-map zs f in (
        swap zs i j,
        (
          IsPermutation-trans xs zs (swap zs i j) had.1.0 (IsPermutation-swap zs (swap zs i j) i j (omega (arith, p, long)) (omega (arith, q, long)) refl),
          ap (λ (m : List Y). swap m i j) had.1.1 ∙ sym (map_swapped zs i j),
        ),
      )) ys moved

  -- lists of elements of which no two have one value
  same_before : (all : List X) → IsOneToOne f all → (xs ys : List X) → All (Contains all) xs → All (Contains all) ys → map f xs ≡ map f ys → xs ≡ ys
  same_before all one [] [] a b e = refl
  same_before all one [] (y ∷ ys) a b e = absurd (cc)
  same_before all one (x ∷ xs) [] a b e = absurd (cc)
  same_before all one (x ∷ xs) (y ∷ ys) a b e =
      let heads : x ≡ y = one x y (All-head (Contains all) x xs a) (All-head (Contains all) y ys b) (ap (λ (l : List Y). get_or l 0 (f x)) e) in
      let tails : xs ≡ ys = same_before all one xs ys (All-tail (Contains all) x xs a) (All-tail (Contains all) y ys b) (ap rest e) in
      λ i. heads i ∷ tails i

module _ {X K V : Type 0} (cmp : K → K → Ordering) (k : X → K) (p : X → V) where
  abbrev paired : X → K × V
  paired x = (k x, p x)

  zip_mapped : (rows : List X) → zip (map k rows) (map p rows) ≡ map paired rows
  zip_mapped [] = refl
  zip_mapped (x ∷ xs) = ap (λ ps. paired x ∷ ps) (zip_mapped xs)

  stable_before : (is_ascending : Bool) (rows sorted : List X) → IsOneToOne p rows → IsPermutation rows sorted
      → IsStableSort (by_key is_ascending cmp (λ (q : K × V). q.0)) (map paired rows) (map paired sorted) → IsStableSort (by_key is_ascending cmp k) rows sorted
  stable_before is_ascending rows sorted one moved sort =
      let before : X → X → Bool = λ x y. is_lt (by_key is_ascending cmp k x y) in
      let inside : All (Contains rows) sorted = All-permutation (Contains rows) rows sorted moved (All-contains_itself rows) in record {
        ascends = λ j d low high.
            let same : is_lt (by_key is_ascending cmp (λ (q : K × V). q.0) (get_or (map paired sorted) (j + 1) (paired d)) (get_or (map paired sorted) j (paired d)))
            ≡ is_lt (by_key is_ascending cmp k (get_or sorted (j + 1) d) (get_or sorted j d)) =
            λ i. is_lt (directed is_ascending (cmp (get_or-map paired sorted (j + 1) d i).0 (get_or-map paired sorted j d i).0)) in
            sym same ∙ sort.ascends j (paired d) low (omega (arith, high, length-map sorted paired));
        stays = λ x.
            let tied : X → Bool = ties before x in
            same_before p rows one (filter tied sorted) (filter tied rows) (All-filter tied (Contains rows) sorted inside) (All-filter tied (Contains rows) rows (All-contains_itself rows))
            (sym (map-map (λ (q : K × V). q.1) paired (filter tied sorted))
            ∙ ap (map (λ (q : K × V). q.1)) (sym (map_filtered paired (ties (λ u v. is_lt (by_key is_ascending cmp (λ (q : K × V). q.0) u v)) (paired x)) sorted)
            ∙ sort.stays (paired x) ∙ map_filtered paired (ties (λ u v. is_lt (by_key is_ascending cmp (λ (q : K × V). q.0) u v)) (paired x)) rows)
            ∙ map-map (λ (q : K × V). q.1) paired (filter tied rows));
      }

  -- values that are sorted by the keys of rows are in the order of the rows
  pub in_order : (is_ascending : Bool) (rows : List X) (values sorted : List V) → values ≡ map p rows
      → IsSortedByKeys is_ascending cmp (map k rows) values sorted → AreInOrder (by_key is_ascending cmp k) p rows sorted
  in_order is_ascending rows values sorted are sort =
      let pairs : zip (map k rows) values ≡ map paired rows = ap (zip (map k rows)) are ∙ zip_mapped rows in
      let found = permuted_before paired rows sort.pairs (subst (λ ps. IsPermutation ps sort.pairs) pairs sort.permutes) in record {
        sorted = found.0;
        permutes = found.1.0;
        sorts = λ one. stable_before is_ascending rows found.0 one found.1.0
            (subst (λ ps. IsStableSort (by_key is_ascending cmp (λ (q : K × V). q.0)) (map paired rows) ps) found.1.1
            (subst (λ ps. IsStableSort (by_key is_ascending cmp (λ (q : K × V). q.0)) ps sort.pairs) pairs sort.sorts));
        are = sort.are ∙ ap (map (λ (q : K × V). q.1)) found.1.1 ∙ map-map (λ (q : K × V). q.1) paired found.0;
      }

map_itself : {X : Type 0} (xs : List X) → map (λ (x : X). x) xs ≡ xs
map_itself [] = refl
map_itself (x ∷ xs) = ap (λ ys. x ∷ ys) (map_itself xs)

-- where the values are the rows themselves
pub rows_in_order : {X : Type 0} (cmp : X → X → Ordering) (rows values : List X) → AreInOrder cmp (λ (x : X). x) rows values
    → IsPermutation rows values × IsStableSort cmp rows values
rows_in_order cmp rows values are =
    let same : are.sorted ≡ values = sym (are.are ∙ map_itself are.sorted) in
    (subst (λ ys. IsPermutation rows ys) same are.permutes, subst (λ ys. IsStableSort cmp rows ys) same (are.sorts (λ a b has_a has_b e. e)))

pub themselves : {X : Type 0} (rows : List X) → rows ≡ map (λ (x : X). x) rows
themselves rows = sym (map_itself rows)

-- values in another order are the same
pub values_permuted : {X V : Type 0} (cmp : X → X → Ordering) (of : X → V) (rows : List X) (old new : List V) → old ≡ map of rows → AreInOrder cmp of rows new → IsPermutation old new
values_permuted cmp of rows old new is are =
    subst (λ (ys : List _). IsPermutation old ys) (sym are.are) (subst (λ (xs : List _). IsPermutation xs (map of are.sorted)) (sym is) (IsPermutation-map of rows are.sorted are.permutes))
