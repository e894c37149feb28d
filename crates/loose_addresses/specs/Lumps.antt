-- A field that is no list of addresses is cut at its commas and semicolons, but not within what is a lump: what is closed, or
-- an encoded word.
use Rattle.std.specs.Prelude.{◌≡◌, ◌≢◌, ◌⊎◌, ℕ, Bool, false, true, ◌||◌, ◌==◌, List, [], ◌∷◌, ◌++◌, Option, Some, None}
use Rattle.text_words.specs.Cuts.{Each}
use Rattle.text_words.specs.Sequence.{Starts}
use Rattle.header_words.specs.EncodedWords.{is_encoded}
use Rattle.header_tokens.specs.Closings.{IsClosed}

-- a comma or a semicolon
abbrev pub is_separator : ℕ → Bool
is_separator c = c == 44 || c == 59

-- The shape of an encoded word (RFC 2047 section 2): "=?", charset, "?", encoding, "?", encoded text, "?=". In the three parts
-- stand octets that are printed, and no "?".
pub record IsWordShape (t : List ℕ) : Type 0 where
  pub charset : List ℕ
  pub encoding : List ℕ
  pub text : List ℕ
  pub whole : t ≡ 61 ∷ 63 ∷ (charset ++ 63 ∷ (encoding ++ 63 ∷ (text ++ 63 ∷ 61 ∷ [])))
  pub charset_printed : Each is_encoded charset
  pub encoding_printed : Each is_encoded encoding
  pub text_printed : Each is_encoded text

-- a lump of more than an octet
abbrev pub IsWhole : List ℕ → Type 0
IsWhole t = IsClosed t ⊎ IsWordShape t

-- the text begins with no such lump
abbrev pub BeginsLoose : List ℕ → Type 0
BeginsLoose t = (x y : List ℕ) → IsWhole x → t ≢ x ++ y

-- A lump of a value: what is closed or an encoded word, also with commas in it, or an octet, also one that opens what nothing
-- closes; or a separator, which is None.
pub data IsLump : Option (List ℕ) → List ℕ → List ℕ → Type 0 where
  Whole : (t rest : List ℕ) → IsWhole t → IsLump (Some t) t rest
  Octet : (c : ℕ) (rest : List ℕ) → is_separator c ≡ false → BeginsLoose (c ∷ rest) → IsLump (Some (c ∷ [])) (c ∷ []) rest
  Separator : (c : ℕ) (rest : List ℕ) → is_separator c ≡ true → IsLump None (c ∷ []) rest

-- these lumps stand at the front of the text, and rest follows them
abbrev pub AreLumpsBefore : List (List ℕ) → List ℕ → List ℕ → Type 0
AreLumpsBefore [] rest t = t ≡ rest
AreLumpsBefore (u ∷ us) rest t = Starts IsLump (Some u) (AreLumpsBefore us rest) t

-- ---- elements: what stands between separators

abbrev pub before_first : List ℕ → List (List ℕ) → List (List ℕ)
before_first t [] = t ∷ []
before_first t (e ∷ es) = (t ++ e) ∷ es

abbrev pub with_lump : Option (List ℕ) → List (List ℕ) → List (List ℕ)
with_lump None es = [] ∷ es
with_lump (Some t) es = before_first t es

-- the elements that lumps make
abbrev pub elements_of : List (Option (List ℕ)) → List (List ℕ)
elements_of [] = [] ∷ []
elements_of (l ∷ ls) = with_lump l (elements_of ls)
