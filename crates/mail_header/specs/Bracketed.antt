-- Pieces in angle brackets: message ids (RFC 5322 section 3.6.4) and the URLs of list fields (RFC 2369).
use Rattle.std.specs.Prelude.{◌≡◌, ◌≢◌, ℕ, Bool, not, ◌||◌, ◌==◌, List, [], ◌∷◌, ◌++◌, Option, Some, None, option_to_list}
use Rattle.std.specs.List.{flat_map}
use Rattle.text_words.specs.Cuts.{IsRun}
use Rattle.text_words.specs.Octets.{is_white}
use Rattle.text_words.specs.Sequence.{Sequence}
use Rattle.mail_header.specs.RawForms.{raw_form}

-- neither an angle bracket nor white space
abbrev pub is_bracketed_octet : ℕ → Bool
is_bracketed_octet c = not (c == 60 || c == 62 || is_white c)

-- "<", one or more inner octets and ">" are a piece; an octet that begins none is passed over
pub data IsBracketPiece : Option (List ℕ) → List ℕ → List ℕ → Type 0 where
  InBrackets : (x rest : List ℕ) → IsRun is_bracketed_octet x → IsBracketPiece (Some x) (60 ∷ (x ++ 62 ∷ [])) rest
  Passed : (c : ℕ) (rest : List ℕ) → ((x y : List ℕ) → IsRun is_bracketed_octet x → c ∷ rest ≢ 60 ∷ (x ++ 62 ∷ y)) → IsBracketPiece None (c ∷ []) rest

-- the pieces in brackets that a text has
pub record HasPieces (names : List (List ℕ)) (t : List ℕ) : Type 0 where
  pub pieces : List (Option (List ℕ))
  pub are : Sequence IsBracketPiece pieces t
  pub names_are : names ≡ flat_map option_to_list pieces

-- the pieces of a raw value; there is no reading where there are none
abbrev pub IsNamesForm : Option (List (List ℕ)) → List ℕ → Type 0
IsNamesForm None raw = HasPieces [] (raw_form raw)
IsNamesForm (Some names) raw = (names ≢ []) × HasPieces names (raw_form raw)
