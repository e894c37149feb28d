-- Texts at the places of what has them.
use Rattle.std.proofs.Common.{◌≡◌, ℕ, zero, suc, ◌<◌, List, [], ◌∷◌, length, get_or, map, sym, ap, ◌∙◌, arith}

abbrev first_or : {Z : Type 0} → Z → List Z → Z
first_or z [] = z
first_or z (x ∷ xs) = x

abbrev rest_of : {Z : Type 0} → List Z → List Z
rest_of [] = []
rest_of (x ∷ xs) = xs

-- where one list is the other by what both have, it is so at each place
pub same_at : {X Y Z : Type 0} (f : X → Z) (g : Y → Z) (xs : List X) (ys : List Y) (i : ℕ) (d : X) (y : Y) → map f xs ≡ map g ys → i < length ys
    → y ≡ get_or ys i y → f (get_or xs i d) ≡ g y
same_at f g [] [] i d y same within at_y = absurd (omega (arith, within))
same_at f g [] (b ∷ ys) i d y same within at_y = absurd (cc)
same_at f g (a ∷ xs) [] i d y same within at_y = absurd (cc)
same_at f g (a ∷ xs) (b ∷ ys) zero d y same within at_y = ap (first_or (f a)) same ∙ ap g (sym at_y)
same_at f g (a ∷ xs) (b ∷ ys) (suc i) d y same within at_y = same_at f g xs ys i d y (ap rest_of same) (omega (arith, within)) at_y
