-- How the code reads pieces.
use Rattle.std.specs.Prelude.{◌≡◌, ℕ, List, [], ◌∷◌, ◌++◌, length}
use Rattle.mime_fields.specs.Pieces.{IsClosedUnit}

-- the text begins with a unit of n octets
pub record UnitOf (n : ℕ) (t : List ℕ) : Type 0 where
  pub unit : List ℕ
  pub rest : List ℕ
  pub whole : t ≡ unit ++ rest
  pub is : IsClosedUnit unit unit rest
  pub counted : n ≡ length unit

-- nothing follows a piece, or a semicolon
abbrev pub EndsPiece : List ℕ → Type 0
EndsPiece [] = Unit {0}
EndsPiece (c ∷ t) = c ≡ 59
