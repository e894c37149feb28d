-- Lists of which one element alone passes a test, by its place.
use Rattle.std.proofs.Common.{◌≡◌, ℕ, zero, suc, ◌<◌, Bool, true, false, not, cond, List, []}
use Rattle.std.proofs.Common.{◌∷◌, length, map, filter, set, get_or, refl, sym, ap, subst, arith, if◌then◌else◌, AllPairs}
use Rattle.std.specs.List.{AllByRecursion, remove}
use Rattle.std.proofs.lemmas.List.Elements.{recursion_from_All}

abbrev pub NonePasses : {X : Type 0} → (X → Bool) → List X → Type 0
NonePasses t [] = Unit {0}
NonePasses t (x ∷ xs) = (t x ≡ false) × NonePasses t xs

-- the element at the place passes, and no other
abbrev pub OnlyPasses : {X : Type 0} → (X → Bool) → List X → ℕ → Type 0
OnlyPasses t [] n = ⊥
OnlyPasses t (x ∷ xs) zero = (t x ≡ true) × NonePasses t xs
OnlyPasses t (x ∷ xs) (suc n) = (t x ≡ false) × OnlyPasses t xs n

-- ---- what a change of those that pass is

pub map_none : {X : Type 0} (t : X → Bool) (h : X → X) (xs : List X) → NonePasses t xs → map (λ x. if t x then h x else x) xs ≡ xs
map_none t h [] n = refl
map_none t h (x ∷ xs) n = subst (λ (b : Bool). (if b then h x else x) ∷ map (λ y. if t y then h y else y) xs ≡ x ∷ xs) (sym n.0) (ap (λ ys. x ∷ ys) (map_none t h xs n.1))

pub map_only : {X : Type 0} (t : X → Bool) (h : X → X) (xs : List X) (n : ℕ) (d : X) → OnlyPasses t xs n
    → map (λ x. if t x then h x else x) xs ≡ set xs n (h (get_or xs n d))
map_only t h [] n d o = absurd o
map_only t h (x ∷ xs) zero d o = subst (λ (b : Bool). (if b then h x else x) ∷ map (λ y. if t y then h y else y) xs ≡ h x ∷ xs) (sym o.0)
    (ap (λ ys. h x ∷ ys) (map_none t h xs o.1))
map_only t h (x ∷ xs) (suc n) d o = subst (λ (b : Bool). (if b then h x else x) ∷ map (λ y. if t y then h y else y) xs ≡ x ∷ set xs n (h (get_or xs n d))) (sym o.0)
    (ap (λ ys. x ∷ ys) (map_only t h xs n d o.1))

filter_none : {X : Type 0} (t : X → Bool) (xs : List X) → NonePasses t xs → filter (λ x. not (t x)) xs ≡ xs
filter_none t [] n = refl
filter_none t (x ∷ xs) n = subst (λ (b : Bool). cond (not b) (x ∷ filter (λ y. not (t y)) xs) (filter (λ y. not (t y)) xs) ≡ x ∷ xs) (sym n.0)
    (ap (λ ys. x ∷ ys) (filter_none t xs n.1))

pub filter_only : {X : Type 0} (t : X → Bool) (xs : List X) (n : ℕ) → OnlyPasses t xs n → filter (λ x. not (t x)) xs ≡ remove xs n
filter_only t [] n o = absurd o
filter_only t (x ∷ xs) zero o = subst (λ (b : Bool). cond (not b) (x ∷ filter (λ y. not (t y)) xs) (filter (λ y. not (t y)) xs) ≡ xs) (sym o.0) (filter_none t xs o.1)
filter_only t (x ∷ xs) (suc n) o = subst (λ (b : Bool). cond (not b) (x ∷ filter (λ y. not (t y)) xs) (filter (λ y. not (t y)) xs) ≡ x ∷ remove xs n) (sym o.0)
    (ap (λ ys. x ∷ ys) (filter_only t xs n o.1))

-- ---- where it is so

none_map : {X : Type 0} (t : X → Bool) (h : X → X) → ((x : X) → t (h x) ≡ t x) → (xs : List X) → NonePasses t xs → NonePasses t (map h xs)
none_map t h same [] n = tt
none_map t h same (x ∷ xs) n = (subst (λ (b : Bool). b ≡ false) (sym (same x)) n.0, none_map t h same xs n.1)

-- where a change leaves who passes
pub only_map : {X : Type 0} (t : X → Bool) (h : X → X) → ((x : X) → t (h x) ≡ t x) → (xs : List X) (n : ℕ) → OnlyPasses t xs n → OnlyPasses t (map h xs) n
only_map t h same [] n o = absurd o
only_map t h same (x ∷ xs) zero o = (subst (λ (b : Bool). b ≡ true) (sym (same x)) o.0, none_map t h same xs o.1)
only_map t h same (x ∷ xs) (suc n) o = (subst (λ (b : Bool). b ≡ false) (sym (same x)) o.0, only_map t h same xs n o.1)

-- where elements are apart in pairs, and a test tells those that are apart
module _ {X : Type 0} (same : X → X → Bool) (R : X → X → Type 0) (itself : (x : X) → same x x ≡ true) (before : (x y : X) → R x y → same x y ≡ false)
    (behind : (x y : X) → R x y → same y x ≡ false) where
  none_behind : (y : X) (xs : List X) → AllByRecursion (R y) xs → NonePasses (λ x. same x y) xs
  none_behind y [] h = tt
  none_behind y (x ∷ xs) h = (behind y x h.0, none_behind y xs h.1)

  pub only_apart : (xs : List X) (n : ℕ) (d : X) → AllPairs R xs → n < length xs → OnlyPasses (λ x. same x (get_or xs n d)) xs n
  only_apart [] n d h l = absurd (omega (arith, l))
  only_apart (x ∷ xs) zero d h l = (itself x, none_behind x xs (recursion_from_All (R x) xs (λ k e m. h 0 (suc k) e (omega arith) (omega (arith, m)))))
  only_apart (x ∷ xs) (suc n) d h l = (
    before x (get_or xs n d) (h 0 (suc n) d (omega arith) (omega (arith, l))),
    only_apart xs n d (λ i j e less within. h (suc i) (suc j) e (omega (arith, less)) (omega (arith, within))) (omega (arith, l)),
  )
