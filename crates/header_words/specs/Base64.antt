-- Base64 (RFC 4648 section 4).
use Rattle.std.specs.Prelude.{◌≡◌, ◌≢◌, ℕ, ◌+◌, ◌-◌, ◌*◌, ◌/◌, ◌%◌, ◌≤◌, Bool, ◌||◌, ◌==◌, if◌then◌else◌, List, [], ◌∷◌, ◌++◌, length, map}
use Rattle.text_words.specs.Cuts.{Each}
use Rattle.text_words.specs.Octets.{is_between, is_digit, is_alpha}

-- A to Z, a to z, 0 to 9, + and /
abbrev pub is_symbol : ℕ → Bool
is_symbol c = is_alpha c || is_digit c || c == 43 || c == 47

-- the six bits of a symbol
abbrev pub symbol_value : ℕ → ℕ
symbol_value c =
    if is_between 65 90 c then c - 65
    else if is_between 97 122 c then c - 71
    else if is_digit c then c + 4
    else if c == 43 then 62
    else 63

-- The octets whose bits stand one after another in these groups of six bits. Bits left over are dropped.
abbrev pub octets_of_groups : List ℕ → List ℕ
octets_of_groups [] = []
octets_of_groups (a ∷ []) = []
octets_of_groups (a ∷ b ∷ []) = (a * 4 + b / 16) ∷ []
octets_of_groups (a ∷ b ∷ c ∷ []) = (a * 4 + b / 16) ∷ (b % 16 * 16 + c / 4) ∷ []
octets_of_groups (a ∷ b ∷ c ∷ d ∷ t) = (a * 4 + b / 16) ∷ (b % 16 * 16 + c / 4) ∷ (c % 4 * 64 + d) ∷ octets_of_groups t

-- the octets that symbols spell
abbrev pub spelled_octets : List ℕ → List ℕ
spelled_octets symbols = octets_of_groups (map symbol_value symbols)

abbrev pub is_equals_sign : ℕ → Bool
is_equals_sign c = c == 61

-- symbols, with up to two "=" after them
pub record IsBase64 (octets t : List ℕ) : Type 0 where
  pub symbols : List ℕ
  pub padding : List ℕ
  pub whole : t ≡ symbols ++ padding
  pub alphabet : Each is_symbol symbols
  pub equals : Each is_equals_sign padding
  pub few : length padding ≤ 2
  pub complete : length symbols % 4 ≢ 1
  pub are : octets ≡ spelled_octets symbols
