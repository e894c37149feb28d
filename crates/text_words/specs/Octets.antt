-- Classes of octets, and texts that are equal but for the case of their letters.
use Rattle.std.specs.Prelude.{◌≡◌, ℕ, ◌-◌, Bool, ◌&&◌, ◌||◌, ◌==◌, nat_le, if◌then◌else◌, List, map, Option, Some, None}
use Rattle.std.specs.Char.{to_ascii_lowercase}
use Rattle.std.specs.Str.{bytes_eq}

-- a space or a tab
abbrev pub is_blank : ℕ → Bool
is_blank c = c == 32 || c == 9

-- a space, a tab, a CR or an LF
abbrev pub is_white : ℕ → Bool
is_white c = c == 32 || c == 9 || c == 13 || c == 10

abbrev pub is_between : ℕ → ℕ → ℕ → Bool
is_between low high c = nat_le low c && nat_le c high

abbrev pub is_digit : ℕ → Bool
is_digit c = is_between 48 57 c

-- A to Z and a to z
abbrev pub is_alpha : ℕ → Bool
is_alpha c = is_between 65 90 c || is_between 97 122 c

-- what a hexadecimal digit counts
abbrev pub hex_value : ℕ → Option ℕ
hex_value c =
    if is_between 48 57 c then Some (c - 48)
    else if is_between 65 70 c then Some (c - 55)
    else if is_between 97 102 c then Some (c - 87)
    else None

-- the texts are equal where A to Z count as a to z
abbrev pub SameText : List ℕ → List ℕ → Type 0
SameText s t = map to_ascii_lowercase s ≡ map to_ascii_lowercase t

-- the same as a test
abbrev pub is_same_text : List ℕ → List ℕ → Bool
is_same_text s t = bytes_eq (map to_ascii_lowercase s) (map to_ascii_lowercase t)
