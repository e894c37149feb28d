-- How the code reads the units of a Content-ID.
use Rattle.std.specs.Prelude.{◌≡◌, ℕ, Bool, true, List, [], ◌∷◌, ◌++◌}
use Rattle.mime_fields.specs.ContentIds.{is_opener, IsUnit}

abbrev pub BeginsWithOpener : Bool → List ℕ → Type 0
BeginsWithOpener comments [] = ⊥
BeginsWithOpener comments (c ∷ t) = is_opener comments c ≡ true

-- what is kept of the unit at the front of the text was added, and rest follows the unit
pub record TakesUnit (comments : Bool) (text rest old new : List ℕ) : Type 0 where
  pub kept : List ℕ
  pub unit : List ℕ
  pub whole : text ≡ unit ++ rest
  pub is : IsUnit comments kept unit rest
  pub added : new ≡ old ++ kept
