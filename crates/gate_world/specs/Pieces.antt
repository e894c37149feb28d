-- Texts that are given a piece at a time.
use Rattle.std.specs.Prelude.{◌≡◌, ℕ, List, [], length, take, drop, min, max, Option, Some, None}

-- what stands there, and no octets where nothing does
abbrev pub octets_of : Option (List ℕ) → List ℕ
octets_of None = []
octets_of (Some octets) = octets

-- octets were given off the front of what stands there
abbrev pub without : ℕ → Option (List ℕ) → Option (List ℕ)
without count None = None
without count (Some octets) = Some (drop count octets)

-- This many octets of the text were put at the front of the room: all that there are, or a piece, or as many as the room has.
pub record Gives (piece : ℕ) (text room : List ℕ) (count : ℕ) : Type 0 where
  pub count_is : count ≡ min (min (length text) (max piece 1)) (length room)
  pub octets : take count room ≡ take count text
