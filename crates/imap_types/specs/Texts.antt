-- Texts: lists of octets in which those of literals show, and the words by which the grammar puts them together.
use Rattle.std.specs.Prelude.{◌≡◌, ℕ, ◌+◌, ◌-◌, Bool, true, nat_lt, if◌then◌else◌, List, [], ◌∷◌, ◌++◌, map}
use Rattle.imap_types.specs.Octets.{lower}

-- each octet is of the class
abbrev pub Each : (ℕ → Bool) → List ℕ → Type 0
Each p [] = Unit {0}
Each p (c ∷ t) = (p c ≡ true) × Each p t

-- a text of A, and then one of B
pub record Then (A B : List ℕ → Type 0) (t : List ℕ) : Type 0 where
  pub front : List ℕ
  pub back : List ℕ
  pub whole : t ≡ front ++ back
  pub first : A front
  pub second : B back

abbrev pub crlf : List ℕ
crlf = 13 ∷ 10 ∷ []

abbrev pub IsCrlf : List ℕ → Type 0
IsCrlf t = t ≡ crlf

-- the word, whatever the case of its letters
abbrev pub IsWord : List ℕ → List ℕ → Type 0
IsWord word t = map lower t ≡ word

abbrev pub plain_of : ℕ → ℕ
plain_of c = if nat_lt c 256 then c else c - 256

-- the octets of a text, whether in a literal or not
abbrev pub plain_octets : List ℕ → List ℕ
plain_octets t = map plain_of t

-- how many of its octets stand outside literals
abbrev pub outside : List ℕ → ℕ
outside [] = 0
outside (c ∷ t) = (if nat_lt c 256 then 1 else 0) + outside t

-- the octets that one response may have outside literals
abbrev pub limit : ℕ
limit = 8388608

-- the octets that a literal may have
abbrev pub literal_limit : ℕ
literal_limit = 50000000
