-- Encoded words that the grammar of addresses would tear: they have an octet that is a mark, a bracket or a quotation mark to it.
use Rattle.std.specs.Prelude.{◌≡◌, ℕ, Bool, true, ◌||◌, ◌==◌, List, [], ◌∷◌, ◌++◌, Option}
use Rattle.std.specs.List.{list_any}
use Rattle.text_words.specs.Sequence.{Starts}
use Rattle.loose_addresses.specs.Lumps.{IsWordShape, IsLump}

-- A special of RFC 5322 section 3.2.3 but "." and the backslash: a quotation mark, ( ) , : ; < > @ [ ]. No encoded word of a
-- phrase may have one (RFC 2047 section 5).
abbrev pub is_special : ℕ → Bool
is_special c = c == 34 || c == 40 || c == 41 || c == 44 || c == 58 || c == 59 || c == 60 || c == 62 || c == 64 || c == 91 || c == 93

-- lumps and separators stand at the front of the text, and rest follows them
abbrev pub AreBefore : List (Option (List ℕ)) → List ℕ → List ℕ → Type 0
AreBefore [] rest t = t ≡ rest
AreBefore (v ∷ vs) rest t = Starts IsLump v (AreBefore vs rest) t

-- an encoded word that is a lump of the text has such an octet
pub record IsTorn (t : List ℕ) : Type 0 where
  pub front : List (Option (List ℕ))
  pub word : List ℕ
  pub rest : List ℕ
  pub are : AreBefore front (word ++ rest) t
  pub shape : IsWordShape word
  pub special : list_any is_special word ≡ true

abbrev pub IsUntorn : List ℕ → Type 0
IsUntorn t = IsTorn t → ⊥
