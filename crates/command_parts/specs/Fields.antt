-- What the arguments of a command are: of the spellings of RFC 9051 section 9 these.
--
--   tag          = 1*32(ALPHA / DIGIT)
--   plain-number = "0" / digit-nz *DIGIT, as a command's number is written
--   folder-name  = atom / quoted, no literal; an atom may have "%" and "*"
--   credential   = atom / quoted / literal, which waits for a continuation
--   flag-list    = "(" [flag *(SP flag)] ")"
--
-- In a text an octet that stands within a literal is written 256 above itself; plain_octets gives it back.
use Rattle.std.specs.Prelude.{◌≡◌, ◌⊎◌, ℕ, ◌<◌, ◌≤◌, Bool, nat_lt, List, [], ◌∷◌, ◌++◌, length}
use Rattle.std.specs.Fmt.{decimal}
use Rattle.imap_types.specs.Octets.{is_digit, is_alnum}
use Rattle.imap_types.specs.Texts.{Each, Then, crlf}
use Rattle.imap_types.specs.Strings.{IsAtom, IsQuoted, IsCounted}
use Rattle.imap_types.specs.Items.{IsNames, kept}

-- a text of A, and then one of B
infixr 10 ◌▷◌
abbrev pub ◌▷◌ : (List ℕ → Type 0) → (List ℕ → Type 0) → List ℕ → Type 0
A ▷ B = Then A B

-- octets as they are sent
abbrev pub fits_octet : ℕ → Bool
fits_octet c = nat_lt c 256

abbrev pub AreOctets : List ℕ → Type 0
AreOctets b = Each fits_octet b

abbrev pub IsSpace : List ℕ → Type 0
IsSpace t = t ≡ 32 ∷ []

abbrev pub IsTag : List ℕ → Type 0
IsTag t = Each is_alnum t × (0 < length t) × (length t ≤ 32)

abbrev pub greatest_unsigned : ℕ
greatest_unsigned = 4294967295

abbrev pub greatest_modseq : ℕ
greatest_modseq = 18446744073709551615

-- without leading zeros
abbrev pub IsPlainNumber : ℕ → ℕ → List ℕ → Type 0
IsPlainNumber most n t = (t ≡ decimal n) × (n ≤ most)

-- a UID or a UIDVALIDITY
abbrev pub IsUnsigned : ℕ → List ℕ → Type 0
IsUnsigned n t = IsPlainNumber greatest_unsigned n t

-- no octet 0, CR or LF stands in an atom or a quoted text
abbrev pub IsFolderName : List ℕ → List ℕ → Type 0
IsFolderName s t = (IsAtom t × (s ≡ t)) ⊎ IsQuoted s t

abbrev pub IsCredential : List ℕ → List ℕ → Type 0
IsCredential s t = IsFolderName s t ⊎ IsCounted s t

-- flags as they are kept: in lower case, in order, each once, without `\recent`
abbrev pub IsFlagList : List (List ℕ) → List ℕ → Type 0
IsFlagList flags t = (ns : List (List ℕ)) × IsNames ns t × (flags ≡ kept ns)

-- the text ends with the head of a literal, `{n}` CRLF, none of whose octets is there
abbrev pub EndsWithHead : List ℕ → Type 0
EndsWithHead t = (front : List ℕ) × (digits : List ℕ) × Each is_digit digits × (t ≡ front ++ (123 ∷ digits ++ 125 ∷ crlf))
