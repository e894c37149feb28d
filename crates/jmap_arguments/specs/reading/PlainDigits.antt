-- Decimal digits as a number is written.
use Rattle.std.specs.Prelude.{ℕ, List, Bool, length, get_or, not, ◌==◌, ◌&&◌, ◌||◌, nat_le}
use Rattle.std.specs.Str.{all_ascii_digits}

-- digits alone, and no zero before another one
abbrev pub is_plain : List ℕ → Bool
is_plain octets = all_ascii_digits octets && (nat_le (length octets) 1 || not (get_or octets 0 0 == 48))
