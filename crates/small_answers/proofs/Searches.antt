-- What a search finds, and what it finds in a list that was changed.
use Rattle.std.proofs.Common.{◌≡◌, suc, Bool, true, false, cond, List, [], ◌∷◌, Some, None, map, find, option_map, refl, sym, ◌∙◌, ap, subst, arith, All, Any}
use Rattle.std.proofs.Common.{AllPairs}
use Rattle.std.specs.List.{AllByRecursion}
use Rattle.std.proofs.lemmas.List.Elements.{recursion_from_All}
use Rattle.std.proofs.lemmas.Option.{none-some, same_Some}
use Rattle.small_answers.proofs.Elements.{any_head, any_tail, each_both}

-- ---- pairs

pub pairs_first : {X : Type 0} (R : X → X → Type 0) (x : X) (xs : List X) → AllPairs R (x ∷ xs) → All (R x) xs
pairs_first R x xs h k d l = h 0 (suc k) d (omega arith) (omega (arith, l))

pub pairs_rest : {X : Type 0} (R : X → X → Type 0) (x : X) (xs : List X) → AllPairs R (x ∷ xs) → AllPairs R xs
pairs_rest R x xs h i j d l m = h (suc i) (suc j) d (omega (arith, l)) (omega (arith, m))

-- ---- what is found

-- what is so of each element is so of the one that is found
pub found_is : {X : Type 0} (P : X → Type 0) (test : X → Bool) (xs : List X) (x : X) → AllByRecursion P xs → find test xs ≡ Some x → P x
found_is P test [] x all e = absurd (none-some x e)
found_is P test (y ∷ ys) x all e = by (test y) e (λ later. found_is P test ys x all.1 later)
  where
    by : (b : Bool) → cond b (Some y) (find test ys) ≡ Some x → (find test ys ≡ Some x → P x) → P x
    by true same on = subst P (same_Some y x same) all.0
    by false later on = on later

pub found_passes : {X : Type 0} (test : X → Bool) (xs : List X) (x : X) → find test xs ≡ Some x → test x ≡ true
found_passes test [] x e = absurd (none-some x e)
found_passes test (y ∷ ys) x e = by (test y) refl e (λ later. found_passes test ys x later)
  where
    by : (b : Bool) → test y ≡ b → cond b (Some y) (find test ys) ≡ Some x → (find test ys ≡ Some x → test x ≡ true) → test x ≡ true
    by true passes same on = subst (λ z. test z ≡ true) (same_Some y x same) passes
    by false fails later on = on later

pub any_found : {X : Type 0} (P : X → Type 0) (test : X → Bool) (xs : List X) (x : X) → find test xs ≡ Some x → P x → Any P xs
any_found P test [] x e p = absurd (none-some x e)
any_found P test (y ∷ ys) x e p = by (test y) e (λ later. any_found P test ys x later p)
  where
    by : (b : Bool) → cond b (Some y) (find test ys) ≡ Some x → (find test ys ≡ Some x → Any P ys) → Any P (y ∷ ys)
    by true same on = any_head P y ys (subst P (sym (same_Some y x same)) p)
    by false later on = any_tail P y ys (on later)

pub nothing_found : {X : Type 0} (test : X → Bool) (xs : List X) → find test xs ≡ None → AllByRecursion (λ x. test x ≡ false) xs
nothing_found test [] e = tt
nothing_found test (x ∷ xs) e = by (test x) refl e (λ later. nothing_found test xs later)
  where
    by : (b : Bool) → test x ≡ b → cond b (Some x) (find test xs) ≡ None → (find test xs ≡ None → AllByRecursion (λ y. test y ≡ false) xs)
        → (test x ≡ false) × AllByRecursion (λ y. test y ≡ false) xs
    by true passes same on = absurd (none-some x (sym same))
    by false fails later on = (fails, on later)

-- ---- in a list of changed elements

-- where the change leaves who passes
pub found_mapped : {X : Type 0} (test : X → Bool) (h : X → X) (xs : List X) → AllByRecursion (λ x. test (h x) ≡ test x) xs → find test (map h xs) ≡ option_map h (find test xs)
found_mapped test h [] same = refl
found_mapped test h (x ∷ xs) same =
    ap (λ (b : Bool). cond b (Some (h x)) (find test (map h xs))) same.0 ∙ (ap (cond (test x) (Some (h x))) (found_mapped test h xs same.1) ∙ by (test x))
  where
    by : (b : Bool) → cond b (Some (h x)) (option_map h (find test xs)) ≡ option_map h (cond b (Some x) (find test xs))
    by true = refl
    by false = refl

-- ---- where elements are apart

-- each element is the one that a search for it finds
module _ {X : Type 0} (same : X → X → Bool) (R : X → X → Type 0) (itself : (x : X) → same x x ≡ true) (apart : (x y : X) → R x y → same x y ≡ false) where
  pub each_finds_itself : (xs : List X) → AllPairs R xs → AllByRecursion (λ x. find (λ y. same y x) xs ≡ Some x) xs
  each_finds_itself [] h = tt
  each_finds_itself (x ∷ xs) h = (
    subst (λ (b : Bool). cond b (Some x) (find (λ y. same y x) xs) ≡ Some x) (sym (itself x)) refl,
    each_both (R x) (λ z. find (λ y. same y z) xs ≡ Some z) (λ z. find (λ y. same y z) (x ∷ xs) ≡ Some z)
        (λ z other e. subst (λ (b : Bool). cond b (Some x) (find (λ y. same y z) xs) ≡ Some z) (sym (apart x z other)) e) xs
        (recursion_from_All (R x) xs (pairs_first R x xs h)) (each_finds_itself xs (pairs_rest R x xs h)),
  )
