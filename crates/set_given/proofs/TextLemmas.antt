-- Tests of texts.
use Rattle.std.proofs.Common.{◌≡◌, ℕ, List, Bool, true, false, bytes_eq, refl, sym}
use Rattle.std.proofs.lemmas.Slice.Eq.{bytes_eq-Decides}

-- two tests of one fact are equal
pub same_truth : (a b : Bool) → (a ≡ true → b ≡ true) → (b ≡ true → a ≡ true) → a ≡ b
same_truth true true f g = refl
same_truth true false f g = sym (f refl)
same_truth false true f g = g refl
same_truth false false f g = refl

pub turned : (a b : List ℕ) → bytes_eq a b ≡ bytes_eq b a
turned a b =
    same_truth (bytes_eq a b) (bytes_eq b a)
    (λ same. (bytes_eq-Decides b a).1 (sym ((bytes_eq-Decides a b).0 same)))
    (λ same. (bytes_eq-Decides a b).1 (sym ((bytes_eq-Decides b a).0 same)))
