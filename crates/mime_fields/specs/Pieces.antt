-- The pieces of a value of MIME: it is cut at each semicolon outside quoted texts and comments that are closed (RFC 2045
-- section 5.1). A quotation mark or a parenthesis that nothing closes, as wrong senders write it, is an octet like others.
use Rattle.std.specs.Prelude.{◌≡◌, ℕ, Bool, false, ◌==◌, List, [], ◌∷◌, ◌++◌, Option, Some, None}
use Rattle.text_words.specs.Sequence.{Starts}
use Rattle.header_tokens.specs.Tokens.{IsComment, IsQuoted}
use Rattle.mime_fields.specs.ContentIds.{IsUnclosed}

-- a quoted text or a comment, or an octet that begins neither
pub data IsClosedUnit : List ℕ → List ℕ → List ℕ → Type 0 where
  QuotedText : (x rest : List ℕ) → IsQuoted x → IsClosedUnit x x rest
  CommentText : (x rest : List ℕ) → IsComment x → IsClosedUnit x x rest
  OneOctet : (c : ℕ) (rest : List ℕ) → IsUnclosed (c ∷ rest) → IsClosedUnit (c ∷ []) (c ∷ []) rest

-- the unit is a semicolon
abbrev pub is_semicolon : List ℕ → Bool
is_semicolon [] = false
is_semicolon (c ∷ []) = c == 59
is_semicolon (c ∷ d ∷ t) = false

-- the text is these units, none of which is a semicolon, and rest follows them
abbrev pub ArePieceUnits : List (List ℕ) → List ℕ → List ℕ → Type 0
ArePieceUnits [] rest t = t ≡ rest
ArePieceUnits (u ∷ us) rest t = (is_semicolon u ≡ false) × Starts IsClosedUnit u (ArePieceUnits us rest) t

-- the text is the octets of a piece, and rest follows them
pub record IsPieceBefore (piece rest t : List ℕ) : Type 0 where
  pub units : List (List ℕ)
  pub are : ArePieceUnits units rest t
  pub whole : t ≡ piece ++ rest

-- The text begins with the piece. A semicolon follows it, and then more; or nothing does.
abbrev pub BeginsWithPiece : List ℕ → Option (List ℕ) → List ℕ → Type 0
BeginsWithPiece piece None t = IsPieceBefore piece [] t
BeginsWithPiece piece (Some more) t = IsPieceBefore piece (59 ∷ more) t
