-- Classes of octets (RFC 9051 section 9). An octet that stands within a literal is written 256 above itself, so no
-- class has it.
use Rattle.std.specs.Prelude.{ℕ, ◌+◌, Bool, not, ◌&&◌, ◌||◌, nat_lt, nat_le, ◌==◌, if◌then◌else◌}

abbrev pub is_digit : ℕ → Bool
is_digit c = nat_le 48 c && nat_le c 57

abbrev pub is_alnum : ℕ → Bool
is_alnum c = is_digit c || (nat_le 65 c && nat_le c 90) || (nat_le 97 c && nat_le c 122)

-- any octet but 0, CR and LF
abbrev pub is_text : ℕ → Bool
is_text c = nat_lt 0 c && nat_lt c 256 && not (c == 13) && not (c == 10)

-- an octet of a word: no space, no control character, ASCII
abbrev pub is_word : ℕ → Bool
is_word c = nat_le 33 c && nat_le c 126

-- an octet of a word of a STATUS
abbrev pub is_status_word : ℕ → Bool
is_status_word c = is_word c && not (c == 40) && not (c == 41)

-- an octet of a word other than `(`, `)`, `{`, `"`, `\`
abbrev pub is_atom : ℕ → Bool
is_atom c = is_word c && not (c == 40) && not (c == 41) && not (c == 123) && not (c == 34) && not (c == 92)

-- an octet within a literal
abbrev pub is_inside : ℕ → Bool
is_inside c = nat_le 256 c && nat_lt c 512

abbrev pub lower : ℕ → ℕ
lower c = if nat_le 65 c && nat_le c 90 then c + 32 else c
