-- Ids of messages as they are written (RFC 5322 section 3.6.4).
use Rattle.std.specs.Prelude.{◌≡◌, ℕ, ◌+◌, ◌/◌, ◌%◌, zero, suc, nat_le, if◌then◌else◌, List, [], ◌∷◌, ◌++◌, map, codes}
use Rattle.message_lines.specs.Folding.{FieldPiece, plain_piece}

abbrev pub bracketed : List ℕ → List ℕ
bracketed id = 60 ∷ (id ++ 62 ∷ [])

abbrev pub id_piece : List ℕ → FieldPiece
id_piece id = plain_piece (bracketed id)

abbrev pub AreIdTexts : List (List ℕ) → List FieldPiece → Type 0
AreIdTexts ids pieces = pieces ≡ map id_piece ids

-- 0 to 9, a to f
abbrev pub hex_digit : ℕ → ℕ
hex_digit n = if nat_le n 9 then 48 + n else 87 + n

-- so many hexadecimal digits of the number, the last ones
abbrev pub hex_digits : ℕ → ℕ → List ℕ
hex_digits zero n = []
hex_digits (suc k) n = hex_digits k (n / 16) ++ hex_digit (n % 16) ∷ []

-- the id of a message whose draft has none: the 16 digits of the word that was drawn for it, in a domain that no host has
-- (RFC 2606 section 2)
abbrev pub drawn_id : ℕ → List ℕ
drawn_id word = hex_digits 16 word ++ codes "@jmapgate.invalid"
