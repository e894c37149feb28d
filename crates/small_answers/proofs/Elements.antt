-- Elements of lists: one of which something is so, and each of which it is.
use Rattle.std.proofs.Common.{◌≡◌, ℕ, zero, suc, ◌<◌, Bool, true, false, cond, List, [], ◌∷◌, ◌++◌, map, filter, length, get_or, refl, sym, ◌∙◌, subst, arith, Any, AllPairs}
use Rattle.std.proofs.Common.{Contains, length-append}
use Rattle.std.specs.List.{AllByRecursion, flat_map}
use Rattle.std.proofs.Math.ListN.{get_or-append}
use Rattle.std.proofs.lemmas.List.Elements.{All-contains_itself, Contains-append_left, Contains-append_right, recursion_from_All}

-- ---- some element

pub any_head : {X : Type 0} (P : X → Type 0) (x : X) (xs : List X) → P x → Any P (x ∷ xs)
any_head P x xs p = (0, x, omega arith, refl, p)

pub any_tail : {X : Type 0} (P : X → Type 0) (x : X) (xs : List X) → Any P xs → Any P (x ∷ xs)
any_tail P x xs h = (suc h.0, h.1, omega (arith, h.2), h.3, h.4)

pub any_left : {X : Type 0} (P : X → Type 0) (xs ys : List X) → Any P xs → Any P (xs ++ ys)
any_left P xs ys h = (h.0, h.1, omega (arith, length-append xs ys, h.2), get_or-append xs ys h.1 h.0 h.2 ∙ h.3, h.4)

pub any_right : {X : Type 0} (P : X → Type 0) (xs ys : List X) → Any P ys → Any P (xs ++ ys)
any_right P [] ys h = h
any_right P (x ∷ xs) ys h = any_tail P x (xs ++ ys) (any_right P xs ys h)

pub any_of_none : {X : Type 0} (P : X → Type 0) → Any P [] → ⊥
any_of_none P h = omega (arith, h.2)

-- ---- each element

pub each_weaker : {X : Type 0} (P Q : X → Type 0) → ((x : X) → P x → Q x) → (xs : List X) → AllByRecursion P xs → AllByRecursion Q xs
each_weaker P Q f [] h = tt
each_weaker P Q f (x ∷ xs) h = (f x h.0, each_weaker P Q f xs h.1)

pub each_both : {X : Type 0} (P Q R : X → Type 0) → ((x : X) → P x → Q x → R x) → (xs : List X) → AllByRecursion P xs → AllByRecursion Q xs → AllByRecursion R xs
each_both P Q R f [] h k = tt
each_both P Q R f (x ∷ xs) h k = (f x h.0 k.0, each_both P Q R f xs h.1 k.1)

pub each_of : {X : Type 0} (P : X → Type 0) → ((x : X) → P x) → (xs : List X) → AllByRecursion P xs
each_of P f [] = tt
each_of P f (x ∷ xs) = (f x, each_of P f xs)

pub each_append : {X : Type 0} (P : X → Type 0) (xs ys : List X) → AllByRecursion P xs → AllByRecursion P ys → AllByRecursion P (xs ++ ys)
each_append P [] ys h k = k
each_append P (x ∷ xs) ys h k = (h.0, each_append P xs ys h.1 k)

each_left : {X : Type 0} (P : X → Type 0) (xs ys : List X) → AllByRecursion P (xs ++ ys) → AllByRecursion P xs
each_left P [] ys h = tt
each_left P (x ∷ xs) ys h = (h.0, each_left P xs ys h.1)

each_right : {X : Type 0} (P : X → Type 0) (xs ys : List X) → AllByRecursion P (xs ++ ys) → AllByRecursion P ys
each_right P [] ys h = h
each_right P (x ∷ xs) ys h = each_right P xs ys h.1

pub each_joined : {X Y : Type 0} (f : X → List Y) (P : Y → Type 0) (xs : List X) → AllByRecursion (λ x. AllByRecursion P (f x)) xs → AllByRecursion P (flat_map f xs)
each_joined f P [] all = tt
each_joined f P (x ∷ xs) all = each_append P (f x) (flat_map f xs) all.0 (each_joined f P xs all.1)

pub each_parted : {X Y : Type 0} (f : X → List Y) (P : Y → Type 0) (xs : List X) → AllByRecursion P (flat_map f xs) → AllByRecursion (λ x. AllByRecursion P (f x)) xs
each_parted f P [] all = tt
each_parted f P (x ∷ xs) all = (each_left P (f x) (flat_map f xs) all, each_parted f P xs (each_right P (f x) (flat_map f xs) all))

-- each of the lists' elements is one of all together
pub each_in_joined : {X Y : Type 0} (f : X → List Y) (xs : List X) → AllByRecursion (λ x. AllByRecursion (Contains (flat_map f xs)) (f x)) xs
each_in_joined f [] = tt
each_in_joined f (x ∷ xs) = (
  each_weaker (Contains (f x)) (Contains (flat_map f (x ∷ xs))) (λ y among. Contains-append_left (f x) (flat_map f xs) y among) (f x)
      (recursion_from_All (Contains (f x)) (f x) (All-contains_itself (f x))),
  each_weaker (λ z. AllByRecursion (Contains (flat_map f xs)) (f z)) (λ z. AllByRecursion (Contains (flat_map f (x ∷ xs))) (f z))
      (λ z all. each_weaker (Contains (flat_map f xs)) (Contains (flat_map f (x ∷ xs))) (λ y among. Contains-append_right (f x) (flat_map f xs) y among) (f z) all) xs
      (each_in_joined f xs),
)

-- where there is none of which something is so
pub each_not_any : {X : Type 0} (P Q : X → Type 0) → ((x : X) → (P x → ⊥) → Q x) → (xs : List X) → (Any P xs → ⊥) → AllByRecursion Q xs
each_not_any P Q f [] none = tt
each_not_any P Q f (x ∷ xs) none = (f x (λ p. none (any_head P x xs p)), each_not_any P Q f xs (λ any. none (any_tail P x xs any)))

-- ---- what is told of elements

told_more : {X Y : Type 0} (tell : X → Y) (Q : Y → Type 0) (b : Bool) (x : X) (xs : List X) → Any Q (map tell xs) → Any Q (map tell (cond b (x ∷ xs) xs))
told_more tell Q true x xs h = any_tail Q (tell x) (map tell xs) h
told_more tell Q false x xs h = h

-- each element that passes is told of
pub told_each : {X Y : Type 0} (test : X → Bool) (tell : X → Y) (P : X → Y → Type 0) → ((x : X) → P x (tell x)) → (xs : List X)
    → AllByRecursion (λ x. test x ≡ true → Any (P x) (map tell (filter test xs))) xs
told_each test tell P tells [] = tt
told_each test tell P tells (x ∷ xs) = (
  λ passes. subst (λ (b : Bool). Any (P x) (map tell (cond b (x ∷ filter test xs) (filter test xs)))) (sym passes)
      (any_head (P x) (tell x) (map tell (filter test xs)) (tells x)),
  each_weaker (λ y. test y ≡ true → Any (P y) (map tell (filter test xs))) (λ y. test y ≡ true → Any (P y) (map tell (filter test (x ∷ xs))))
      (λ y h passes. told_more tell (P y) (test x) x (filter test xs) (h passes)) xs (told_each test tell P tells xs),
)

told_all_of : {X Y : Type 0} (tell : X → Y) (T : Y → Type 0) (b : Bool) (x : X) (xs : List X) → T (tell x) → AllByRecursion T (map tell xs)
    → AllByRecursion T (map tell (cond b (x ∷ xs) xs))
told_all_of tell T true x xs h k = (h, k)
told_all_of tell T false x xs h k = k

-- of what is told of the elements that pass, each is so
pub told_all : {X Y : Type 0} (test : X → Bool) (tell : X → Y) (T : Y → Type 0) (xs : List X) → AllByRecursion (λ x. T (tell x)) xs
    → AllByRecursion T (map tell (filter test xs))
told_all test tell T [] h = tt
told_all test tell T (x ∷ xs) h = told_all_of tell T (test x) x (filter test xs) h.0 (told_all test tell T xs h.1)

pub told_of_each : {X Y : Type 0} (tell : X → Y) (P : X → Y → Type 0) → ((x : X) → P x (tell x)) → (xs : List X) → AllByRecursion (λ x. Any (P x) (map tell xs)) xs
told_of_each tell P tells [] = tt
told_of_each tell P tells (x ∷ xs) = (
  any_head (P x) (tell x) (map tell xs) (tells x),
  each_weaker (λ y. Any (P y) (map tell xs)) (λ y. Any (P y) (map tell (x ∷ xs))) (λ y h. any_tail (P y) (tell x) (map tell xs) h) xs (told_of_each tell P tells xs),
)

-- each of what is told is told of an element
pub told_among : {X Y : Type 0} (tell : X → Y) (P : X → Y → Type 0) → ((x : X) → P x (tell x)) → (xs : List X) → AllByRecursion (λ y. Any (λ x. P x y) xs) (map tell xs)
told_among tell P tells [] = tt
told_among tell P tells (x ∷ xs) = (
  any_head (λ z. P z (tell x)) x xs (tells x),
  each_weaker (λ y. Any (λ z. P z y) xs) (λ y. Any (λ z. P z y) (x ∷ xs)) (λ y h. any_tail (λ z. P z y) x xs h) (map tell xs) (told_among tell P tells xs),
)

-- what is so of all that elements become
pub each_mapped : {X Y : Type 0} (h : X → Y) (P : Y → Type 0) (xs : List X) → AllByRecursion (λ x. P (h x)) xs → AllByRecursion P (map h xs)
each_mapped h P [] all = tt
each_mapped h P (x ∷ xs) all = (all.0, each_mapped h P xs all.1)

pub each_told : {X Y : Type 0} (tell : X → Y) (T : Y → Type 0) → ((x : X) → T (tell x)) → (xs : List X) → AllByRecursion T (map tell xs)
each_told tell T tells [] = tt
each_told tell T tells (x ∷ xs) = (tells x, each_told tell T tells xs)

-- ---- pairs

read_map : {X Y : Type 0} (f : X → Y) (xs : List X) (n : ℕ) (e : Y) → n < length xs → (x : X) × (get_or (map f xs) n e ≡ f x) × ((d : X) → get_or xs n d ≡ x)
read_map f [] n e l = absurd (omega (arith, l))
read_map f (x ∷ xs) zero e l = (x, refl, λ d. refl)
read_map f (x ∷ xs) (suc n) e l = read_map f xs n e (omega (arith, l))

length_map : {X Y : Type 0} (f : X → Y) (xs : List X) → length (map f xs) ≡ length xs
length_map f [] = refl
length_map f (x ∷ xs) = λ i. suc (length_map f xs i)

pub pairs_map : {X Y : Type 0} (f : X → Y) (R : Y → Y → Type 0) (xs : List X) → AllPairs (λ a b. R (f a) (f b)) xs → AllPairs R (map f xs)
pairs_map f R xs h i j e before within =
    let j_in : j < length xs = omega (arith, length_map f xs, within) in
    let at_i = read_map f xs i e (omega (arith, before, j_in)) in let at_j = read_map f xs j e j_in in
    subst (λ y. R y (get_or (map f xs) j e)) (sym at_i.1) (subst (λ y. R (f at_i.0) y) (sym at_j.1)
    (subst (λ x. R (f x) (f at_j.0)) (at_i.2 at_i.0) (subst (λ x. R (f (get_or xs i at_i.0)) (f x)) (at_j.2 at_i.0) (h i j at_i.0 before j_in))))
