-- What holds of lists that ascend by their keys.
use Rattle.std.proofs.Common.{◌≡◌, ◌≢◌, ◌⊎◌, ℕ, ◌<◌, ◌≤◌, zero, suc, Bool, true, false, List, [], ◌∷◌, ◌++◌, Option, Some, None, length, get_or, set, take, drop, refl, sym, ap}
use Rattle.std.proofs.Common.{◌∙◌, subst, arith, not, ltb, ltb-true, ltb-false, eq-eqb, ne_eqb, eqb, eqb-true, inl, inr, if◌then◌else◌}
use Rattle.std.proofs.Math.Nat.{eq-or-lt_of_le}
use Rattle.std.proofs.lemmas.Bool.{eqb-false}
use Rattle.std.specs.List.Sorted.{IsNonDecreasingBy}
use Rattle.told_folder.specs.Keyed.{AllAbove, Ascends, with_key, put_keyed, cut_keyed}
use Rattle.told_folder.specs.Places.{IsPlace, IsHeldAt, IsFreeAt}

-- Some of a value isn't None
pub some_is_not_none : {X : Type 0} (x : X) → Some x ≡ None → ⊥
some_is_not_none x e = cc

-- what is set is what was there, where the list stays
pub set_stays : {X : Type 0} (xs : List X) (i : ℕ) (x y : X) → i < length xs → x ≡ get_or xs i x → set xs i y ≡ xs → y ≡ x
set_stays [] i x y h is e = absurd (omega arith)
set_stays (z ∷ zs) zero x y h is e = let heads : y ≡ z = cc in heads ∙ sym is
set_stays (z ∷ zs) (suc i) x y h is e = let tails : set zs i y ≡ zs = cc in set_stays zs i x y (omega arith) is tails

-- two values are equal where Some of them are
pub some_same : {A : Type 0} (x y : A) → Some x ≡ Some y → x ≡ y
some_same x y e = cc

-- a number is below another, above it or equal to it
pub lt_same_gt : (m n : ℕ) → (m < n) ⊎ ((n < m) ⊎ (m ≡ n))
lt_same_gt m n =
    elim (ltb m n) as (λ b. ltb m n ≡ b → (m < n) ⊎ ((n < m) ⊎ (m ≡ n))) [
      | true ↦ λ e. inl (ltb-true _ _ e)
      | false ↦ λ e. let ge : n ≤ m = ltb-false _ _ e in elim (eq-or-lt_of_le ge) [ inl same ↦ inr (inr (sym same)) | inr less ↦ inr (inl less) ]
    ] refl

-- None in both cases is None
pub none_either : {A : Type 0} (b : Bool) → ◌≡◌ {A = Option A} None (if b then None else None)
none_either {A = A} b = elim b as (λ v. ◌≡◌ {A = Option A} None (if v then None else None)) [ true ↦ refl | false ↦ refl ]

-- an element that is read within a list is read with itself as the default, too
pub get_or-defaults : {X : Type 0} (xs : List X) (i : ℕ) (d : X) → i < length xs → get_or xs i d ≡ get_or xs i (get_or xs i d)
get_or-defaults [] i d h = absurd (omega arith)
get_or-defaults (x ∷ xs) zero d h = refl
get_or-defaults (x ∷ xs) (suc i) d h = get_or-defaults xs i d (omega arith)

module _ {X : Type 0} (key : X → ℕ) where
  -- a number below all keys is below the key at each place
  pub above_at : (k : ℕ) (xs : List X) → AllAbove key k xs → (i : ℕ) (d : X) → i < length xs → k < key (get_or xs i d)
  above_at k [] a i d h = absurd (omega arith)
  above_at k (x ∷ xs) a zero d h = a.0
  above_at k (x ∷ xs) a (suc i) d h = above_at k xs a.1 i d (omega arith)

  -- where keys ascend, the key at a place is below that at a later place
  pub ascends_at : (xs : List X) → Ascends key xs → (i j : ℕ) (d : X) → i < j → j < length xs → key (get_or xs i d) < key (get_or xs j d)
  ascends_at [] a i j d h l = absurd (omega arith)
  ascends_at (x ∷ xs) a i zero d h l = absurd (omega arith)
  ascends_at (x ∷ xs) a zero (suc j) d h l = above_at (key x) xs a.0 j d (omega arith)
  ascends_at (x ∷ xs) a (suc i) (suc j) d h l = ascends_at xs a.1 i j d (omega arith) (omega arith)

  -- keys that ascend never decrease
  pub non_decreasing : (xs : List X) → Ascends key xs → IsNonDecreasingBy key xs
  non_decreasing xs a i j d h l =
      elim (eq-or-lt_of_le h) [
        | inl same ↦ omega (arith, ap (λ n. key (get_or xs n d)) same)
        | inr less ↦ omega (arith, ascends_at xs a i j d less l)
      ]

  -- ---- what is found

  -- a key below all isn't found
  pub none_above : (k : ℕ) (xs : List X) → AllAbove key k xs → with_key key k xs ≡ None
  none_above k [] a = refl
  none_above k (x ∷ xs) a = let rest = none_above k xs a.1 in let above : k < key x = a.0 in grind (arith, rest)

  -- a number that is no more than one below all keys is below all keys
  pub above_more : (j k : ℕ) (xs : List X) → j ≤ k → AllAbove key k xs → AllAbove key j xs
  above_more j k [] h a = tt
  above_more j k (x ∷ xs) h a = (omega (arith, a.0), above_more j k xs h a.1)

  -- the element at a place where the key is
  pub held_at : (k : ℕ) (xs : List X) → (at : ℕ) → ((i : ℕ) (d : X) → i < at → key (get_or xs i d) < k) → at < length xs → (x : X) → x ≡ get_or xs at x → key x ≡ k
      → Some x ≡ with_key key k xs
  held_at k [] at before h x is same = absurd (omega arith)
  held_at k (y ∷ ys) zero before h x is same = let here : x ≡ y = is in let at_y : key y ≡ k = sym (ap key here) ∙ same in grind (arith)
  held_at k (y ∷ ys) (suc at) before h x is same =
      let below : key y < k = before 0 x (omega arith) in
      let rest : Some x ≡ with_key key k ys = held_at k ys at (λ i d l. before (suc i) d (omega arith)) (omega arith) x is same in
      grind (arith)

  -- where keys ascend, the element at its key's place is found by the key
  pub held_found : (k : ℕ) (xs : List X) → Ascends key xs → (at : ℕ) → IsHeldAt key k xs at → (x : X) → x ≡ get_or xs at x → Some x ≡ with_key key k xs
  held_found k xs a at h x is = held_at k xs at h.place.before h.within x is (ap key is ∙ h.same x)

  -- where keys ascend, those before a place are below a key and the one at it is above, the key isn't found
  pub free_at : (k : ℕ) (xs : List X) → Ascends key xs → (at : ℕ) → ((i : ℕ) (d : X) → i < at → key (get_or xs i d) < k) → ((d : X) → at < length xs → k < key (get_or xs at d))
      → None ≡ with_key key k xs
  free_at k [] a at before above = refl
  free_at k (y ∷ ys) a zero before above = let up : k < key y = above y (omega arith) in
      let rest : with_key key k ys ≡ None = none_above k ys (above_more k (key y) ys (omega arith) a.0) in grind (arith)
  free_at k (y ∷ ys) a (suc at) before above =
      let below : key y < k = before 0 y (omega arith) in
      let rest : None ≡ with_key key k ys = free_at k ys a.1 at (λ i d l. before (suc i) d (omega arith)) (λ d l. above d (omega arith)) in
      grind (arith)

  -- where keys ascend, a key that has a free place isn't found
  pub free_found : (k : ℕ) (xs : List X) → Ascends key xs → (at : ℕ) → IsFreeAt key k xs at → None ≡ with_key key k xs
  free_found k xs a at f = free_at k xs a at f.place.before f.above

  -- ---- what is put

  -- a number below all keys, and below an element's, is below all when the element is put
  pub above_put : (k : ℕ) (x : X) (xs : List X) → k < key x → AllAbove key k xs → AllAbove key k (put_keyed key x xs)
  above_put k x [] h a = (h, tt)
  above_put k x (y ∷ ys) h a =
      let P : List X → Type 0 = λ zs. AllAbove key k zs in
      elim (ltb (key x) (key y)) as (λ b. P (if b then x ∷ (y ∷ ys) else (if eqb (key x) (key y) then x ∷ ys else y ∷ put_keyed key x ys))) [
        | true ↦ (h, a)
        | false ↦ elim (eqb (key x) (key y)) as (λ b. P (if b then x ∷ ys else y ∷ put_keyed key x ys)) [
          | true ↦ (h, a.1)
          | false ↦ (a.0, above_put k x ys h a.1)
        ]
      ]

  -- keys still ascend when an element is put
  pub ascends_put : (x : X) (xs : List X) → Ascends key xs → Ascends key (put_keyed key x xs)
  ascends_put x [] a = (tt, tt)
  ascends_put x (y ∷ ys) a =
      let P : List X → Type 0 = λ zs. Ascends key zs in
      elim (ltb (key x) (key y)) as (λ b. ltb (key x) (key y) ≡ b → P (if b then x ∷ (y ∷ ys) else (if eqb (key x) (key y) then x ∷ ys else y ∷ put_keyed key x ys))) [
        | true ↦ λ e. let lt : key x < key y = ltb-true _ _ e in ((lt, above_more (key x) (key y) ys (omega arith) a.0), a)
        | false ↦ λ e. let ge : key y ≤ key x = ltb-false _ _ e in
            elim (eqb (key x) (key y)) as (λ b. eqb (key x) (key y) ≡ b → P (if b then x ∷ ys else y ∷ put_keyed key x ys)) [
              | true ↦ λ f. let same : key x ≡ key y = eqb-true _ _ f in (above_more (key x) (key y) ys (omega arith) a.0, a.1)
              | false ↦ λ f. let apart : key x ≢ key y = eqb-false _ _ f in (above_put (key y) x ys (omega arith) a.0, ascends_put x ys a.1)
            ] refl
      ] refl

  -- what is found after a put
  pub found_put : (k : ℕ) (x : X) (xs : List X) → Ascends key xs → with_key key k (put_keyed key x xs) ≡ (if eqb (key x) k then Some x else with_key key k xs)
  found_put k x [] a = refl
  found_put k x (y ∷ ys) a =
      let P : List X → Type 0 = λ zs. with_key key k zs ≡ (if eqb (key x) k then Some x else with_key key k (y ∷ ys)) in
      elim (ltb (key x) (key y)) as (λ b. P (if b then x ∷ (y ∷ ys) else (if eqb (key x) (key y) then x ∷ ys else y ∷ put_keyed key x ys))) [
        | true ↦ refl
        | false ↦ elim (eqb (key x) (key y)) as (λ b. eqb (key x) (key y) ≡ b → P (if b then x ∷ ys else y ∷ put_keyed key x ys)) [
          | true ↦ λ f. let same : key x ≡ key y = eqb-true _ _ f in grind (arith)
          | false ↦ λ f. let apart : key x ≢ key y = eqb-false _ _ f in
              let rest : with_key key k (put_keyed key x ys) ≡ (if eqb (key x) k then Some x else with_key key k ys) = found_put k x ys a.1 in grind (arith)
        ] refl
      ]

  -- a put where no element has the key
  pub put_free : (x : X) (xs : List X) (at : ℕ) → at ≤ length xs → ((i : ℕ) (d : X) → i < at → key (get_or xs i d) < key x)
      → ((d : X) → at < length xs → key x < key (get_or xs at d)) → put_keyed key x xs ≡ take at xs ++ x ∷ drop at xs
  put_free x [] zero w before above = refl
  put_free x [] (suc at) w before above = absurd (omega arith)
  put_free x (y ∷ ys) zero w before above = let up : key x < key y = above y (omega arith) in grind (arith)
  put_free x (y ∷ ys) (suc at) w before above =
      let below : key y < key x = before 0 y (omega arith) in
      let rest : put_keyed key x ys ≡ take at ys ++ x ∷ drop at ys = put_free x ys at (omega arith) (λ i d l. before (suc i) d (omega arith)) (λ d l. above d (omega arith)) in
      grind (arith)

  -- an element whose key isn't found is put at the key's place
  pub put_at_place : (x : X) (xs : List X) (at : ℕ) → IsPlace key (key x) xs at → with_key key (key x) xs ≡ None → put_keyed key x xs ≡ take at xs ++ x ∷ drop at xs
  put_at_place x xs at p none =
      put_free x xs at p.within p.before (λ d w. elim (eq-or-lt_of_le (p.from at d (omega arith) w)) [
        | inl same ↦ let found : Some (get_or xs at d) ≡ with_key key (key x) xs = held_at (key x) xs at p.before w (get_or xs at d) (get_or-defaults xs at d w) (sym same) in
            absurd (some_is_not_none _ (found ∙ none))
        | inr less ↦ less
      ])

  -- ---- what is cut

  -- a number below all keys is below those left when a key is cut
  pub above_cut : (k q : ℕ) (xs : List X) → AllAbove key k xs → AllAbove key k (cut_keyed key q xs)
  above_cut k q [] a = tt
  above_cut k q (x ∷ xs) a =
      elim (eqb (key x) q) as (λ b. AllAbove key k (if not b then x ∷ cut_keyed key q xs else cut_keyed key q xs)) [
        | true ↦ above_cut k q xs a.1
        | false ↦ (a.0, above_cut k q xs a.1)
      ]

  -- keys still ascend when one is cut
  pub ascends_cut : (q : ℕ) (xs : List X) → Ascends key xs → Ascends key (cut_keyed key q xs)
  ascends_cut q [] a = tt
  ascends_cut q (x ∷ xs) a =
      elim (eqb (key x) q) as (λ b. Ascends key (if not b then x ∷ cut_keyed key q xs else cut_keyed key q xs)) [
        | true ↦ ascends_cut q xs a.1
        | false ↦ (above_cut (key x) q xs a.0, ascends_cut q xs a.1)
      ]

  -- a key that is cut isn't found, and every other key is found as before
  pub found_cut : (k q : ℕ) (xs : List X) → with_key key k (cut_keyed key q xs) ≡ (if eqb q k then None else with_key key k xs)
  found_cut k q [] = none_either (eqb q k)
  found_cut k q (x ∷ xs) =
      let rest : with_key key k (cut_keyed key q xs) ≡ (if eqb q k then None else with_key key k xs) = found_cut k q xs in
      elim (eqb (key x) q) as (λ b. eqb (key x) q ≡ b → with_key key k (if not b then x ∷ cut_keyed key q xs else cut_keyed key q xs)
      ≡ (if eqb q k then None else with_key key k (x ∷ xs))) [
        | true ↦ λ e. grind arith
        | false ↦ λ e. grind arith
      ] refl

  -- the first element is found by its key
  pub found_head : (x : X) (xs : List X) → Some x ≡ with_key key (key x) (x ∷ xs)
  found_head x xs = grind arith

  -- two lists with the same first element, whose key is below all others, have the same after it at a key where they have the same
  pub tail_same : (x y : X) (xs ys : List X) (k : ℕ) → x ≡ y → AllAbove key (key x) xs → AllAbove key (key y) ys → with_key key k (x ∷ xs) ≡ with_key key k (y ∷ ys)
      → with_key key k xs ≡ with_key key k ys
  tail_same x y xs ys k heads a b h =
      let keys : key x ≡ key y = ap key heads in
      elim (eqb (key x) k) as (λ v. eqb (key x) k ≡ v → with_key key k xs ≡ with_key key k ys) [
        | true ↦ λ e. let same : key x ≡ k = eqb-true _ _ e in none_above k xs (subst (λ n. AllAbove key n xs) same a)
            ∙ sym (none_above k ys (subst (λ n. AllAbove key n ys) (sym keys ∙ same) b))
        | false ↦ λ e. let apart : key x ≢ k = eqb-false _ _ e in grind arith
      ] refl

  -- two lists in which the same is found are one list
  pub same_found : (xs ys : List X) → Ascends key xs → Ascends key ys → ((k : ℕ) → with_key key k xs ≡ with_key key k ys) → xs ≡ ys
  same_found [] [] a b h = refl
  same_found [] (y ∷ ys) a b h = let found : Some y ≡ with_key key (key y) (y ∷ ys) = grind arith in absurd (some_is_not_none _ (found ∙ sym (h (key y))))
  same_found (x ∷ xs) [] a b h = let found : Some x ≡ with_key key (key x) (x ∷ xs) = grind arith in absurd (some_is_not_none _ (found ∙ h (key x)))
  same_found (x ∷ xs) (y ∷ ys) a b h =
      let at_x : Some x ≡ with_key key (key x) (y ∷ ys) = found_head x xs ∙ h (key x) in
      let at_y : Some y ≡ with_key key (key y) (x ∷ xs) = found_head y ys ∙ sym (h (key y)) in
      elim (lt_same_gt (key x) (key y)) [
        | inl less ↦ absurd (some_is_not_none _ (at_x ∙ none_above (key x) (y ∷ ys) (less, above_more (key x) (key y) ys (omega arith) b.0)))
        | inr more ↦ elim more [
          | inl greater ↦ absurd (some_is_not_none _ (at_y ∙ none_above (key y) (x ∷ xs) (greater, above_more (key y) (key x) xs (omega arith) a.0)))
          | inr same ↦
              let heads : x ≡ y = some_same x y (at_x ∙ ap (λ k. with_key key k (y ∷ ys)) same ∙ sym (found_head y ys)) in
              let tails : xs ≡ ys = same_found xs ys a.1 b.1 (λ k. tail_same x y xs ys k heads a.0 b.0 (h k)) in
              cc
        ]
      ]

  -- ---- what is at a place

  -- at each place within a list there is an element
  pub item_at : (xs : List X) (at : ℕ) → at < length xs → (x : X) × (x ≡ get_or xs at x)
  item_at [] at h = absurd (omega arith)
  item_at (x ∷ xs) zero h = (x, refl)
  item_at (x ∷ xs) (suc at) h = item_at xs at (omega arith)

  -- where keys before a place are below an element's and the one at it is the same, putting the element is setting it there
  pub put_over : (x : X) (xs : List X) (at : ℕ) → ((i : ℕ) (d : X) → i < at → key (get_or xs i d) < key x) → at < length xs → ((d : X) → key (get_or xs at d) ≡ key x)
      → put_keyed key x xs ≡ set xs at x
  put_over x [] at before w same = absurd (omega arith)
  put_over x (y ∷ ys) zero before w same = let here : key y ≡ key x = same y in grind (arith)
  put_over x (y ∷ ys) (suc at) before w same =
      let below : key y < key x = before 0 y (omega arith) in
      let rest : put_keyed key x ys ≡ set ys at x = put_over x ys at (λ i d l. before (suc i) d (omega arith)) (omega arith) same in
      grind (arith)

  -- an element of the same key in its place
  pub put_held : (k : ℕ) (x : X) (xs : List X) (at : ℕ) → IsHeldAt key k xs at → key x ≡ k → put_keyed key x xs ≡ set xs at x
  put_held k x xs at h is = put_over x xs at (λ i d l. subst (λ n. key (get_or xs i d) < n) (sym is) (h.place.before i d l)) h.within (λ d. h.same d ∙ sym is)

  -- ---- what is cut at a place

  -- cutting a key below all changes nothing
  pub cut_above : (k : ℕ) (xs : List X) → AllAbove key k xs → cut_keyed key k xs ≡ xs
  cut_above k [] a = refl
  cut_above k (x ∷ xs) a = let rest : cut_keyed key k xs ≡ xs = cut_above k xs a.1 in let above : k < key x = a.0 in grind (arith, rest)

  -- where keys ascend, those before a place are below a key and the one at it is the same, cutting the key takes out that element
  pub cut_there : (k : ℕ) (xs : List X) → Ascends key xs → (at : ℕ) → ((i : ℕ) (d : X) → i < at → key (get_or xs i d) < k) → at < length xs → ((d : X) → key (get_or xs at d) ≡ k)
      → cut_keyed key k xs ≡ take at xs ++ drop (suc at) xs
  cut_there k [] a at before w same = absurd (omega arith)
  cut_there k (x ∷ xs) a zero before w same =
      let here : key x ≡ k = same x in
      let rest : cut_keyed key k xs ≡ xs = cut_above k xs (subst (λ n. AllAbove key n xs) here a.0) in
      ap (λ b. if not b then x ∷ cut_keyed key k xs else cut_keyed key k xs) (eq-eqb _ _ here) ∙ rest
  cut_there k (x ∷ xs) a (suc at) before w same =
      let below : key x < k = before 0 x (omega arith) in
      let rest : cut_keyed key k xs ≡ take at xs ++ drop (suc at) xs = cut_there k xs a.1 at (λ i d l. before (suc i) d (omega arith)) (omega arith) same in
      ap (λ b. if not b then x ∷ cut_keyed key k xs else cut_keyed key k xs) (ne_eqb _ _ (λ e. omega (arith, e, below))) ∙ ap (λ zs. x ∷ zs) rest

  -- where keys ascend, cutting a key takes out the element at its place
  pub cut_held : (k : ℕ) (xs : List X) → Ascends key xs → (at : ℕ) → IsHeldAt key k xs at → cut_keyed key k xs ≡ take at xs ++ drop (suc at) xs
  cut_held k xs a at h = cut_there k xs a at h.place.before h.within h.same
