-- What is read at a place of a list stands there.
use Rattle.std.proofs.Common.{◌≡◌, ℕ, ◌<◌, List, Some, length, get_or, refl, ap, ◌∙◌}
use Rattle.std.specs.List.{slice_get}
use Rattle.std.proofs.lemmas.Option.{get_or_from_slice_get, slice_get_read}

module _ {X : Type 0} (shown xs : List X) (same : shown ≡ xs) (place : ℕ) where
  pub read_is : (x y : X) → x ≡ get_or shown place x → slice_get xs place ≡ Some y → x ≡ y
  read_is x y x_is at = x_is ∙ (ap (λ (zs : List X). get_or zs place x) same ∙ get_or_from_slice_get xs place y x at)

  pub read_at : (x : X) → place < length xs → x ≡ get_or shown place x → slice_get xs place ≡ Some x
  read_at x within x_is = slice_get_read xs (length xs) place x refl within (x_is ∙ ap (λ (zs : List X). get_or zs place x) same)
