-- How names are shown.
use Rattle.std.specs.Prelude.{ℕ, Bool, ◌&&◌, ◌/◌, ◌%◌, ◌+◌, ◌==◌, List, [], ◌∷◌, not, nat_lt, if◌then◌else◌}
use Rattle.std.specs.List.{flat_map}

-- a visible octet of ASCII, or a space, but no backslash
abbrev pub is_plain : ℕ → Bool
is_plain octet = nat_lt 31 octet && nat_lt octet 127 && not (octet == 92)

-- 0 to 9, A to F
abbrev pub hex_digit : ℕ → ℕ
hex_digit value = if nat_lt value 10 then value + 48 else value + 55

-- a plain octet is shown as it is, another one as `\x` and two digits
abbrev pub shown_octet : ℕ → List ℕ
shown_octet octet = if is_plain octet then octet ∷ [] else 92 ∷ 120 ∷ hex_digit (octet / 16) ∷ hex_digit (octet % 16) ∷ []

abbrev pub shown : List ℕ → List ℕ
shown octets = flat_map shown_octet octets
