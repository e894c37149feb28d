-- How the code looks for an encoded word that the grammar would tear.
use Rattle.std.specs.Prelude.{◌≡◌, ℕ, Bool, true, false, not, List, [], ◌∷◌, ◌++◌, length, drop, Option, Some, None}
use Rattle.std.specs.List.{list_any}
use Rattle.loose_addresses.specs.Lumps.{IsWordShape, IsLump}
use Rattle.loose_addresses.specs.Torn.{is_special, AreBefore}

abbrev pub is_no_special : ℕ → Bool
is_no_special c = not (is_special c)

-- the text begins with an encoded word that has a special
pub record BeginsTorn (t : List ℕ) : Type 0 where
  pub word : List ℕ
  pub rest : List ℕ
  pub whole : t ≡ word ++ rest
  pub shape : IsWordShape word
  pub special : list_any is_special word ≡ true

-- the text begins with a lump or a separator of n octets
pub record HasUnit (n : ℕ) (t : List ℕ) : Type 0 where
  pub value : Option (List ℕ)
  pub unit : List ℕ
  pub rest : List ℕ
  pub whole : t ≡ unit ++ rest
  pub is : IsLump value unit rest
  pub counted : n ≡ length unit

-- no encoded word among these lumps has a special
abbrev pub AreUntorn : List (Option (List ℕ)) → Type 0
AreUntorn [] = Unit {0}
AreUntorn (None ∷ vs) = AreUntorn vs
AreUntorn (Some u ∷ vs) = (IsWordShape u → list_any is_special u ≡ false) × AreUntorn vs

-- none up to the place n has one
pub record NoneBefore (n : ℕ) (t : List ℕ) : Type 0 where
  pub units : List (Option (List ℕ))
  pub are : AreBefore units (drop n t) t
  pub none : AreUntorn units
