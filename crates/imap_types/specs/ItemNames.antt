-- The names of items (RFC 9051 sections 6.4.5 and 9, msg-att-static and section), other than those that are told:
--
--   name    = 1*plain / *plain section
--   section = "[" *(inner / quoted) "]" ["<" 1*DIGIT ">"]
--
-- The first `[` of a name opens its section, which goes to the next `]` outside a quoted text.
use Rattle.std.specs.Prelude.{◌≡◌, ◌⊎◌, ℕ, ◌<◌, Bool, true, not, ◌&&◌, ◌||◌, ◌==◌, List, [], ◌∷◌, ◌++◌, length, map, codes, Contains}
use Rattle.imap_types.specs.Octets.{is_digit, is_atom, lower}
use Rattle.imap_types.specs.Texts.{Each, Then}
use Rattle.imap_types.specs.Strings.{IsQuoted}
use Rattle.imap_types.specs.Values.{AllOf}

-- an octet of a name before its section: of an atom, but not `[`
abbrev pub is_plain : ℕ → Bool
is_plain c = is_atom c && not (c == 91)

-- an octet of a section outside quoted texts: of an atom, but not `]`, or a space, `(` or `)`
abbrev pub is_inner : ℕ → Bool
is_inner c = (is_atom c && not (c == 93)) || c == 32 || c == 40 || c == 41

-- such an octet, or a quoted text
abbrev pub IsUnit : List ℕ → Type 0
IsUnit t = ((c : ℕ) × (t ≡ c ∷ []) × (is_inner c ≡ true)) ⊎ ((s : List ℕ) × IsQuoted s t)

-- one after another
abbrev pub concat : List (List ℕ) → List ℕ
concat [] = []
concat (u ∷ us) = u ++ concat us

-- ["<" 1*DIGIT ">"]
abbrev pub IsPartial : List ℕ → Type 0
IsPartial t = (t ≡ []) ⊎ ((digits : List ℕ) × (t ≡ 60 ∷ digits ++ 62 ∷ []) × Each is_digit digits × (0 < length digits))

pub record IsSection (t : List ℕ) : Type 0 where
  pub units : List (List ℕ)
  pub rest : List ℕ
  pub whole : t ≡ 91 ∷ concat units ++ 93 ∷ rest
  pub units_are : AllOf IsUnit units
  pub rest_is : IsPartial rest

abbrev pub IsFormed : List ℕ → Type 0
IsFormed t = (Each is_plain t × (0 < length t)) ⊎ Then (Each is_plain) IsSection t

-- the names of the items that are told
abbrev pub told_names : List (List ℕ)
told_names =
    codes "uid" ∷ codes "flags" ∷ codes "modseq" ∷ codes "internaldate" ∷ codes "rfc822.size" ∷ codes "body[header]"
    ∷ codes "body[header]<0>" ∷ codes "body[]" ∷ codes "body[]<0>" ∷ []

abbrev pub IsOtherName : List ℕ → Type 0
IsOtherName t = IsFormed t × (Contains told_names (map lower t) → ⊥)
