-- The "Q" encoding of encoded words (RFC 2047 section 4.2).
use Rattle.std.specs.Prelude.{◌≢◌, ℕ, List, [], ◌∷◌}
use Rattle.text_words.specs.Sequence.{Sequence}
use Rattle.header_words.specs.QuotedPrintable.{HexDigits, hex_octet}

-- one octet: "_" is a space, "=XX" the octet of that number, any other octet but "=" itself
pub data IsQUnit : ℕ → List ℕ → List ℕ → Type 0 where
  Space : (rest : List ℕ) → IsQUnit 32 (95 ∷ []) rest
  Hex : (digits : HexDigits) (rest : List ℕ) → IsQUnit (hex_octet digits) (61 ∷ digits.high ∷ digits.low ∷ []) rest
  Itself : (c : ℕ) (rest : List ℕ) → c ≢ 95 → c ≢ 61 → IsQUnit c (c ∷ []) rest

-- the octets that a text in "Q" spells
abbrev pub IsQText : List ℕ → List ℕ → Type 0
IsQText octets t = Sequence IsQUnit octets t
