-- Octets that are given of two texts, one after the other.
use Rattle.std.proofs.Common.{◌≡◌, ◌⊎◌, inl, inr, ℕ, ◌+◌, ◌≤◌, List, ◌++◌, length, take, drop, sym, ap, ◌∙◌, arith, length-take}
use Rattle.std.proofs.lemmas.Grind.{common_steps}
use Rattle.std.proofs.lemmas.List.{take-append-le, drop-append-le}
use Rattle.std.proofs.Math.Seq.{take-append-add, drop-append-add}

-- all of the first text is given, or nothing of the second
take_both : (n m : ℕ) (g t : List ℕ) → n ≤ length g → (n ≡ length g) ⊎ (m ≡ 0) → take (n + m) (g ++ t) ≡ take n g ++ take m t
take_both n m g t within (inl all) = grind (arith, common_steps, take-append-add g t m)
take_both n m g t within (inr none) = grind (arith, common_steps, take-append-le n g t)

pub drop_both : (n m : ℕ) (g t : List ℕ) → n ≤ length g → (n ≡ length g) ⊎ (m ≡ 0) → drop (n + m) (g ++ t) ≡ drop n g ++ drop m t
drop_both n m g t within (inl all) = grind (arith, common_steps, drop-append-add g t m)
drop_both n m g t within (inr none) = grind (arith, common_steps, drop-append-le n g t)

-- the first text's octets were put at the front of the room, and then the second's
pub put_both : (n m : ℕ) (g t x i y z : List ℕ) → n ≤ length g → x ≡ take n g → m ≤ length y → take m y ≡ take m t → (n ≡ length g) ⊎ (m ≡ 0)
    → take (n + m) (take n (x ++ i) ++ (y ++ z)) ≡ take (n + m) (g ++ t)
put_both n m g t x i y z within copied room given which =
    let long : length (take n g) ≡ n = grind (arith, length-take n g) in
    let front : take n (x ++ i) ≡ take n g = grind (arith, common_steps, take-append-le n (take n g) i) in
    let all : take (n + m) (take n g ++ (y ++ z)) ≡ take n g ++ take m (y ++ z) = grind (arith, take-append-add (take n g) (y ++ z) m) in
    let rest : take m (y ++ z) ≡ take m t = take-append-le m y z room ∙ given in
    ap (λ (l : List ℕ). take (n + m) (l ++ (y ++ z))) front ∙ all ∙ ap (λ (l : List ℕ). take n g ++ l) rest ∙ sym (take_both n m g t within which)
