-- Steps that may give nothing, and texts that are equal or not.
use Rattle.std.proofs.Common.{◌≡◌, ◌⊎◌, inl, inr, ℕ, List, true, false, Option, Some, None, option_map, option_and_then, refl}
use Rattle.std.specs.Str.{bytes_eq}
use Rattle.std.proofs.lemmas.Option.{none-some, same_Some}
use Rattle.std.proofs.lemmas.Slice.Eq.{bytes_eq-Decides}

-- what two steps gave came of what the first gave
pub and_then-some : {A B : Type 0} (f : A → Option B) (o : Option A) (y : B) → option_and_then f o ≡ Some y → (x : A) × (o ≡ Some x) × (f x ≡ Some y)
and_then-some f None y is = absurd (none-some y is)
and_then-some f (Some x) y is = (x, refl, is)

-- what a map gave is the image of a value that was there
pub map-some : {A B : Type 0} (f : A → B) (o : Option A) (y : B) → option_map f o ≡ Some y → (x : A) × (o ≡ Some x) × (f x ≡ y)
map-some f None y is = absurd (none-some y is)
map-some f (Some x) y is = (x, refl, same_Some (f x) y is)

-- two texts are equal, or the test says that they aren't
pub is_or_not : (a b : List ℕ) → (a ≡ b) ⊎ (bytes_eq a b ≡ false)
is_or_not a b = elim (bytes_eq a b) as (λ t. bytes_eq a b ≡ t → (a ≡ b) ⊎ (t ≡ false)) [ true ↦ λ is. inl ((bytes_eq-Decides a b).0 is) | false ↦ λ is. inr refl ] refl
