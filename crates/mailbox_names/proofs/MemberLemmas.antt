-- Elements of lists that pass a test.
use Rattle.std.proofs.Common.{◌≡◌, ◌⊎◌, Bool, true, false, ◌||◌, List, [], ◌∷◌, Option, Some, None, refl, sym, ap, ◌∙◌, inl, inr}
use Rattle.std.specs.List.{list_any, filter_map, cons_option}

abbrev pub IsIn : {A : Type 0} → A → List A → Type 0
IsIn x [] = ⊥
IsIn x (y ∷ ys) = (y ≡ x) ⊎ IsIn x ys

-- two tests that hold where the other does have one answer
pub same_truth : (a b : Bool) → (a ≡ true → b ≡ true) → (b ≡ true → a ≡ true) → a ≡ b
same_truth true b f g = sym (f refl)
same_truth false true f g = g refl
same_truth false false f g = refl

or_left : (a b : Bool) → a ≡ true → (a || b) ≡ true
or_left true b e = refl
or_left false b e = absurd (let f : false ≡ true = e in cc)

or_right : (a b : Bool) → b ≡ true → (a || b) ≡ true
or_right true b e = refl
or_right false b e = e

-- one that passes is enough
pub one_passes : {A : Type 0} (p : A → Bool) (x : A) (xs : List A) → IsIn x xs → p x ≡ true → list_any p xs ≡ true
one_passes p x [] i t = absurd i
one_passes p x (y ∷ ys) (inl e) t = or_left (p y) (list_any p ys) (ap p e ∙ t)
one_passes p x (y ∷ ys) (inr i) t = or_right (p y) (list_any p ys) (one_passes p x ys i t)

-- one that passes
pub record Passes {A : Type 0} (p : A → Bool) (xs : List A) : Type 0 where
  pub one : A
  pub there : IsIn one xs
  pub passes : p one ≡ true

pub passing : {A : Type 0} (p : A → Bool) (xs : List A) → list_any p xs ≡ true → Passes p xs
passing p [] e = absurd (let f : false ≡ true = e in cc)
passing {A} p (y ∷ ys) e =
    elim (p y) as (λ b. p y ≡ b → (b || list_any p ys) ≡ true → Passes p (y ∷ ys)) [
      | true ↦ λ t f. record { one = y; there = inl refl; passes = t }
      | false ↦ λ t f. let r : Passes p ys = passing p ys f in record { one = r.one; there = inr r.there; passes = r.passes }
    ] refl e

-- ---- values of a function that gives some

in_more : {B : Type 0} (o : Option B) (y : B) (ys : List B) → IsIn y ys → IsIn y (cons_option o ys)
in_more None y ys i = i
in_more (Some z) y ys i = inr i

in_first : {B : Type 0} (o : Option B) (y : B) (ys : List B) → o ≡ Some y → IsIn y (cons_option o ys)
in_first None y ys e = absurd (let f : None ≡ Some y = e in cc)
in_first (Some z) y ys e = inl (let f : z ≡ y = cc in f)

pub given_in : {A B : Type 0} (f : A → Option B) (x : A) (y : B) (xs : List A) → IsIn x xs → f x ≡ Some y → IsIn y (filter_map f xs)
given_in f x y [] i e = absurd i
given_in f x y (z ∷ zs) (inl same) e = in_first (f z) y (filter_map f zs) (ap f same ∙ e)
given_in f x y (z ∷ zs) (inr i) e = in_more (f z) y (filter_map f zs) (given_in f x y zs i e)

pub record GivenBy {A B : Type 0} (f : A → Option B) (xs : List A) (y : B) : Type 0 where
  pub one : A
  pub there : IsIn one xs
  pub gives : f one ≡ Some y

pub in_given : {A B : Type 0} (f : A → Option B) (xs : List A) (y : B) → IsIn y (filter_map f xs) → GivenBy f xs y
in_given f [] y i = absurd i
in_given {A} {B} f (x ∷ xs) y i =
    elim (f x) as (λ (o : Option B). f x ≡ o → IsIn y (cons_option o (filter_map f xs)) → GivenBy f (x ∷ xs) y) [
      | None ↦ λ e j. let r : GivenBy f xs y = in_given f xs y j in record { one = r.one; there = inr r.there; gives = r.gives }
      | Some z ↦ λ e j. elim j [
        | inl same ↦ record { one = x; there = inl refl; gives = e ∙ ap (λ (b : B). Some b) same }
        | inr later ↦ (let r : GivenBy f xs y = in_given f xs y later in record { one = r.one; there = inr r.there; gives = r.gives })
      ]
    ] refl i
