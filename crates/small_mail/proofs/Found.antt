-- A search from the front of a list on, one element after another.
use Rattle.std.proofs.Common.{◌≡◌, ℕ, ◌+◌, ◌<◌, ◌≤◌, Bool, true, false, cond, List, [], ◌∷◌, length, find, drop, get_or, Option, Some, None, refl, sym, ap, subst, ◌∙◌}
use Rattle.std.specs.List.{slice_get}
use Rattle.std.proofs.lemmas.List.{at_drop_more, at_drop_all}
use Rattle.std.proofs.lemmas.Option.{slice_get_read, none-some, same_Some}
use Rattle.small_mail.proofs.Only.{NonePasses}

module _ {X : Type 0} (t : X → Bool) (xs : List X) (i : ℕ) where
  step : (x : X) → i < length xs → x ≡ get_or xs i x → find t (drop i xs) ≡ cond (t x) (Some x) (find t (drop (i + 1) xs))
  step x l is = at_drop_more (find t) xs i x l ∙ ap (λ y. cond (t y) (Some y) (find t (drop (i + 1) xs))) (sym is)

  -- the element passes
  pub found_here : (x : X) → i < length xs → x ≡ get_or xs i x → find t (drop i xs) ≡ find t xs → t x ≡ true → (slice_get xs i ≡ Some x) × (find t xs ≡ Some x)
  found_here x l is so_far passes =
      (slice_get_read xs (length xs) i x refl l is, sym so_far ∙ (step x l is ∙ ap (λ b. cond b (Some x) (find t (drop (i + 1) xs))) passes))

  -- it doesn't
  pub found_later : (x : X) → i < length xs → x ≡ get_or xs i x → find t (drop i xs) ≡ find t xs → t x ≡ false → find t (drop (i + 1) xs) ≡ find t xs
  found_later x l is so_far fails = sym (step x l is ∙ ap (λ b. cond b (Some x) (find t (drop (i + 1) xs))) fails) ∙ so_far

  -- no element is left
  pub found_none : length xs ≤ i → find t (drop i xs) ≡ find t xs → find t xs ≡ None
  found_none l so_far = sym so_far ∙ at_drop_all (find t) xs i l

-- ---- what a search says

passes_by : {X : Type 0} (t : X → Bool) (y x : X) (later : Option X) (b : Bool) → t y ≡ b → (later ≡ Some x → t x ≡ true) → cond b (Some y) later ≡ Some x → t x ≡ true
passes_by t y x later true passes there e = subst (λ z. t z ≡ true) (same_Some y x e) passes
passes_by t y x later false fails there e = there e

pub found_passes : {X : Type 0} (t : X → Bool) (xs : List X) (x : X) → find t xs ≡ Some x → t x ≡ true
found_passes t [] x e = absurd (none-some x e)
found_passes t (y ∷ xs) x e = passes_by t y x (find t xs) (t y) refl (found_passes t xs x) e

fails_by : {X : Type 0} (t : X → Bool) (x : X) (xs : List X) (later : Option X) (b : Bool) → t x ≡ b → (later ≡ None → NonePasses t xs) → cond b (Some x) later ≡ None
    → (t x ≡ false) × NonePasses t xs
fails_by t x xs later true passes there e = absurd (none-some x (sym e))
fails_by t x xs later false fails there e = (fails, there e)

pub not_found : {X : Type 0} (t : X → Bool) (xs : List X) → find t xs ≡ None → NonePasses t xs
not_found t [] e = tt
not_found t (x ∷ xs) e = fails_by t x xs (find t xs) (t x) refl (not_found t xs) e
