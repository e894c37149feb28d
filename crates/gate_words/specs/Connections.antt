-- How many connections are served.
use Rattle.std.specs.Prelude.{◌≡◌, ◌≤◌, ◌&&◌, ℕ, List, [], ◌∷◌, Bool, false, IsTrue, nat_le}
use Rattle.std.specs.Str.Parse.{IsNumeral, digits_value}
use Rattle.gate_words.specs.declared.connections.TheConstants.{MAX_CONNECTIONS}

-- the first octet is one of `1` to `9`
abbrev pub begins_with_nonzero_digit : List ℕ → Bool
begins_with_nonzero_digit [] = false
begins_with_nonzero_digit (octet ∷ octets) = nat_le 49 octet && nat_le octet 57

-- The text is the number in decimal digits, without a sign or a leading zero; so the number is 1 at least.
pub record IsCount (text : List ℕ) (count : ℕ) : Type 0 where
  pub first : IsTrue (begins_with_nonzero_digit text)
  pub digits : IsNumeral 10 text
  pub value : count ≡ digits_value 10 text
  pub within : count ≤ MAX_CONNECTIONS

-- the number that the values of the option `--connections` are: `MAX_CONNECTIONS` where there is none
abbrev pub CountsConnections : List (List ℕ) → ℕ → Type 0
CountsConnections [] count = count ≡ MAX_CONNECTIONS
CountsConnections (text ∷ []) count = IsCount text count
CountsConnections (text ∷ further ∷ texts) count = ⊥
