-- Names in kept form, and a filter of them.
use Rattle.std.proofs.Common.{◌≡◌, ℕ, ◌+◌, ◌<◌, Bool, true, false, cond, List, [], ◌∷◌, ◌++◌, filter, length, drop, get_or, refl, sym, ap, ◌∙◌}
use Rattle.std.specs.Prelude.{◌||◌}
use Rattle.std.proofs.lemmas.List.{append_assoc, at_drop_more}
use Rattle.imap_types.specs.Items.{add_name, kept_from}
use Rattle.imap_types.specs.Octets.{lower}
use Rattle.std.specs.Prelude.{map}

-- names are added one after another
pub kept_from-append : (so_far xs ys : List (List ℕ)) → kept_from so_far (xs ++ ys) ≡ kept_from (kept_from so_far xs) ys
kept_from-append so_far [] ys = refl
kept_from-append so_far (x ∷ xs) ys = kept_from-append (add_name so_far (map lower x)) xs ys

-- a filter, one element on
pub filter_more : {X : Type 0} (T : X → Bool) (xs left more : List X) (i : ℕ) (x : X) → i < length xs → x ≡ get_or xs i x
    → left ++ filter T (drop i xs) ≡ filter T xs → (T x ≡ true → more ≡ left ++ x ∷ []) → (T x ≡ false → more ≡ left)
    → more ++ filter T (drop (i + 1) xs) ≡ filter T xs
filter_more T xs left more i x l is so_far taken passed = by (T x) refl
  where
    step : (b : Bool) → T x ≡ b → filter T (drop i xs) ≡ cond b (x ∷ filter T (drop (i + 1) xs)) (filter T (drop (i + 1) xs))
    step b e = at_drop_more (filter T) xs i x l ∙ (ap (λ y. cond (T y) (y ∷ filter T (drop (i + 1) xs)) (filter T (drop (i + 1) xs))) (sym is)
        ∙ ap (λ c. cond c (x ∷ filter T (drop (i + 1) xs)) (filter T (drop (i + 1) xs))) e)

    by : (b : Bool) → T x ≡ b → more ++ filter T (drop (i + 1) xs) ≡ filter T xs
    by true e = ap (λ ys. ys ++ filter T (drop (i + 1) xs)) (taken e)
        ∙ (append_assoc left (x ∷ []) (filter T (drop (i + 1) xs)) ∙ (sym (ap (λ ys. left ++ ys) (step true e)) ∙ so_far))
    by false e = ap (λ ys. ys ++ filter T (drop (i + 1) xs)) (passed e) ∙ (sym (ap (λ ys. left ++ ys) (step false e)) ∙ so_far)

pub or_none : (b : Bool) → (b || false) ≡ b
or_none true = refl
or_none false = refl
