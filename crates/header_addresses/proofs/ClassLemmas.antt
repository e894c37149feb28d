-- Tokens are cut as what they spell is.
use Rattle.std.proofs.Common.{◌≡◌, ◌≤◌, Bool, true, false, ◌&&◌, List, [], ◌∷◌, map, length, cond, refl, ap, arith}
use Rattle.std.proofs.lemmas.List.{length-append, length-map}
use Rattle.text_words.proofs.CutLemmas.{front_back}
use Rattle.std.specs.List.{list_all}
use Rattle.text_words.specs.Cuts.{front, back}

-- the front of a list by a test of what each element maps to is mapped to the front of the mapped list
pub map_front : {A B : Type 0} (f : A → B) (p : B → Bool) (t : List A) → map f (front (λ x. p (f x)) t) ≡ front p (map f t)
unfolding front
map_front f p [] = refl
map_front {A} {B} f p (x ∷ t) = by (p (f x)) (map_front f p t)
  where
    by : (q : Bool) → map f (front (λ x. p (f x)) t) ≡ front p (map f t) → map f (cond q (x ∷ front (λ x. p (f x)) t) []) ≡ cond q (f x ∷ front p (map f t)) []
    by true e = ap (λ (u : List B). f x ∷ u) e
    by false e = refl

-- what a test of what each element maps to cuts off a list is mapped to what is cut off the mapped list
pub map_back : {A B : Type 0} (f : A → B) (p : B → Bool) (t : List A) → map f (back (λ x. p (f x)) t) ≡ back p (map f t)
unfolding back
map_back f p [] = refl
map_back {A} {B} f p (x ∷ t) = by (p (f x)) (map_back f p t)
  where
    by : (q : Bool) → map f (back (λ x. p (f x)) t) ≡ back p (map f t) → map f (cond q (back (λ x. p (f x)) t) (x ∷ t)) ≡ cond q (back p (map f t)) (f x ∷ map f t)
    by true e = e
    by false e = refl

-- all elements of a list pass a test of what they map to exactly where all of the mapped list pass it
pub map_all : {A B : Type 0} (f : A → B) (p : B → Bool) (t : List A) → list_all (λ x. p (f x)) t ≡ list_all p (map f t)
map_all f p [] = refl
map_all f p (x ∷ t) = ap (λ (q : Bool). p (f x) && q) (map_all f p t)

-- what is cut off is no longer
pub back_shorter : {A : Type 0} (p : A → Bool) (t : List A) → length (back p t) ≤ length t
back_shorter p t = omega (arith, ap length (front_back p t), length-append (front p t) (back p t))

-- a list that is mapped to what is cut off another mapped list is no longer than that other list
pub viewed_shorter : {A B : Type 0} (f : A → B) (p : B → Bool) (x t : List A) → map f x ≡ back p (map f t) → length x ≤ length t
viewed_shorter f p x t e = omega (arith, length-map x f, length-map t f, ap length e, back_shorter p (map f t))
