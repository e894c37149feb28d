-- num = 1*10digit up to 2^32 - 1, nz the same without the value 0, long = 1*19digit up to 2^63 - 1 (RFC 9051: number,
-- nz-number, number64; RFC 7162: mod-sequence-valzer).
use Rattle.std.specs.Prelude.{◌≡◌, ℕ, ◌+◌, ◌-◌, ◌*◌, ◌<◌, ◌≤◌, List, [], ◌∷◌, length}
use Rattle.imap_types.specs.Octets.{is_digit}
use Rattle.imap_types.specs.Texts.{Each}

-- the number that the digits go on to make from value
abbrev pub value_from : ℕ → List ℕ → ℕ
value_from value [] = value
value_from value (c ∷ t) = value_from (10 * value + (c - 48)) t

pub record IsNumber (n : ℕ) (t : List ℕ) : Type 0 where
  pub digits : Each is_digit t
  pub some : 0 < length t
  pub few : length t ≤ 10
  pub value : n ≡ value_from 0 t
  pub most : n ≤ 4294967295

abbrev pub IsNonZero : ℕ → List ℕ → Type 0
IsNonZero n t = IsNumber n t × (0 < n)

pub record IsLong (n : ℕ) (t : List ℕ) : Type 0 where
  pub digits : Each is_digit t
  pub some : 0 < length t
  pub few : length t ≤ 19
  pub value : n ≡ value_from 0 t
  pub most : n ≤ 9223372036854775807
