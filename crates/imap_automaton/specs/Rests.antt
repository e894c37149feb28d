-- What is left of numbers, and of the octets of a literal.
use Rattle.std.specs.Prelude.{◌≡◌, ℕ, ◌+◌, ◌<◌, ◌≤◌, List, ◌∷◌, length}
use Rattle.imap_types.specs.Octets.{is_digit, is_inside}
use Rattle.imap_types.specs.Texts.{Each}
use Rattle.imap_types.specs.Numbers.{value_from}

pub record OctetsRest (n : ℕ) (t : List ℕ) : Type 0 where
  pub counted : length t ≡ n
  pub inside : Each is_inside t

-- the rest of a number that isn't 0, of which `digits` digits made `value`
pub record NumberRest (value digits : ℕ) (t : List ℕ) : Type 0 where
  pub each : Each is_digit t
  pub some : 0 < digits + length t
  pub few : digits + length t ≤ 10
  pub most : value_from value t ≤ 4294967295
  pub not_zero : 0 < value_from value t

-- the rest of a long number, of which `digits` digits made `value`
pub record LongRest (value digits : ℕ) (t : List ℕ) : Type 0 where
  pub each : Each is_digit t
  pub some : 0 < digits + length t
  pub few : digits + length t ≤ 19
  pub most : value_from value t ≤ 9223372036854775807

abbrev pub IsSpaced : (List ℕ → Type 0) → List ℕ → Type 0
IsSpaced L t = (rest : List ℕ) × (t ≡ 32 ∷ rest) × L rest
