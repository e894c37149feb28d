-- The quoted-printable encoding (RFC 2045 section 6.7).
use Rattle.std.specs.Prelude.{◌≡◌, ◌≢◌, ℕ, ◌+◌, ◌*◌, Bool, true, false, ◌&&◌, ◌||◌, ◌==◌, List, [], ◌∷◌, ◌++◌, length, Some}
use Rattle.std.specs.List.{flat_map, list_any}
use Rattle.text_words.specs.Cuts.{Each, IsRun, Stops}
use Rattle.text_words.specs.LineEnds.{IsLineEnd, begins_with_lf}
use Rattle.text_words.specs.Octets.{is_blank, hex_value}
use Rattle.text_words.specs.Sequence.{Sequence}

-- what a piece of a text stands for, and whether it is a wrong "="
pub record Piece : Type 0 where
  pub octets : List ℕ
  pub wrong : Bool

abbrev pub right : List ℕ → Piece
right octets = record { octets = octets; wrong = false }

-- white space and the end of the line
pub record IsSoft (t : List ℕ) : Type 0 where
  pub blanks : List ℕ
  pub end : List ℕ
  pub whole : t ≡ blanks ++ end
  pub are_blank : Each is_blank blanks
  pub is_end : IsLineEnd end

-- two hexadecimal digits, and what each is worth
pub record HexDigits : Type 0 where
  pub high : ℕ
  pub low : ℕ
  pub high_value : ℕ
  pub low_value : ℕ
  pub high_is : hex_value high ≡ Some high_value
  pub low_is : hex_value low ≡ Some low_value

-- the octet that they spell
abbrev pub hex_octet : HexDigits → ℕ
hex_octet digits = 16 * digits.high_value + digits.low_value

-- the text begins with two hexadecimal digits
pub record BeginsWithHex (t : List ℕ) : Type 0 where
  pub digits : HexDigits
  pub rest : List ℕ
  pub whole : t ≡ digits.high ∷ digits.low ∷ rest

-- the text begins with white space, which may be none, and the end of the line
pub record BeginsWithSoft (t : List ℕ) : Type 0 where
  pub break : List ℕ
  pub rest : List ℕ
  pub whole : t ≡ break ++ rest
  pub soft : IsSoft break

-- nothing follows in the line
abbrev pub ends_line : List ℕ → Bool
ends_line [] = true
ends_line (c ∷ t) = c == 10 || (c == 13 && begins_with_lf t)

-- A piece of a text, and what follows it.
pub data IsPiece : Piece → List ℕ → List ℕ → Type 0 where
  Hex : (digits : HexDigits) (rest : List ℕ) → IsPiece (right (hex_octet digits ∷ [])) (61 ∷ digits.high ∷ digits.low ∷ []) rest
  SoftBreak : (break rest : List ℕ) → IsSoft break → IsPiece (right []) (61 ∷ break) rest
  WrongSign : (rest : List ℕ) → (BeginsWithHex rest → ⊥) → (BeginsWithSoft rest → ⊥) → IsPiece (record { octets = 61 ∷ []; wrong = true }) (61 ∷ []) rest
  Trailing : (blanks rest : List ℕ) → IsRun is_blank blanks → ends_line rest ≡ true → IsPiece (right []) blanks rest
  Blanks : (blanks rest : List ℕ) → IsRun is_blank blanks → Stops is_blank rest → ends_line rest ≡ false → IsPiece (right blanks) blanks rest
  Itself : (c : ℕ) (rest : List ℕ) → c ≢ 61 → is_blank c ≡ false → IsPiece (right (c ∷ [])) (c ∷ []) rest

-- the octets that a text spells, and whether it has a wrong "="
pub record IsPrintable (octets : List ℕ) (problem : Bool) (t : List ℕ) : Type 0 where
  pub pieces : List Piece
  pub are : Sequence IsPiece pieces t
  pub spelled : octets ≡ flat_map (λ (p : Piece). p.octets) pieces
  pub wrong : problem ≡ list_any (λ (p : Piece). p.wrong) pieces

-- the text spells n octets
pub record HasPrintableLen (n : ℕ) (t : List ℕ) : Type 0 where
  pub octets : List ℕ
  pub problem : Bool
  pub is : IsPrintable octets problem t
  pub counted : n ≡ length octets
