-- Strings (RFC 9051 sections 4.3 and 9):
--
--   quoted  = DQUOTE *quoted-char DQUOTE
--   literal = ["~"] "{" 1*8digit "}" CRLF *octet
--   nstring = "NIL" / quoted / literal
--   astring = atom / quoted / literal
use Rattle.std.specs.Prelude.{◌≡◌, ◌⊎◌, ℕ, ◌<◌, ◌≤◌, ◌||◌, ◌==◌, if◌then◌else◌, List, [], ◌∷◌, ◌++◌, length, codes}
use Rattle.imap_types.specs.Octets.{is_digit, is_text, is_atom, is_inside}
use Rattle.imap_types.specs.Texts.{Each, IsWord, plain_octets, literal_limit}
use Rattle.imap_types.specs.Numbers.{value_from}

abbrev pub IsAtom : List ℕ → Type 0
IsAtom t = Each is_atom t × (0 < length t)

-- ---- quoted texts

-- `\` before each `"` and `\`
abbrev pub escaped : List ℕ → List ℕ
escaped [] = []
escaped (c ∷ t) = if c == 34 || c == 92 then 92 ∷ c ∷ escaped t else c ∷ escaped t

abbrev pub quoted : List ℕ → List ℕ
quoted t = 34 ∷ escaped t ++ 34 ∷ []

-- any octets but 0, CR and LF
abbrev pub IsQuoted : List ℕ → List ℕ → Type 0
IsQuoted s t = Each is_text s × (t ≡ quoted s)

-- ---- literals

-- "{" 1*8digit "}" CRLF, and n octets
pub record IsCounted (s t : List ℕ) : Type 0 where
  pub digits : List ℕ
  pub octets : List ℕ
  pub whole : t ≡ 123 ∷ digits ++ 125 ∷ 13 ∷ 10 ∷ octets
  pub are_digits : Each is_digit digits
  pub some : 0 < length digits
  pub few : length digits ≤ 8
  pub counted : length octets ≡ value_from 0 digits
  pub most : length octets ≤ literal_limit
  pub inside : Each is_inside octets
  pub string : s ≡ plain_octets octets

abbrev pub IsLiteral : List ℕ → List ℕ → Type 0
IsLiteral s t = IsCounted s t ⊎ ((rest : List ℕ) × (t ≡ 126 ∷ rest) × IsCounted s rest)

-- ---- strings

-- NIL is the empty text
abbrev pub IsNString : List ℕ → List ℕ → Type 0
IsNString s t = ((s ≡ []) × IsWord (codes "nil") t) ⊎ (IsQuoted s t ⊎ IsLiteral s t)

-- NIL is an atom
abbrev pub IsAString : List ℕ → List ℕ → Type 0
IsAString s t = (IsAtom t × (s ≡ t)) ⊎ (IsQuoted s t ⊎ IsLiteral s t)
