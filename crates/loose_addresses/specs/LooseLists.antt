-- A field that is no list of addresses, or one that tears an encoded word, as wrong senders write it: the addresses that it has
-- as far as they read (RFC 8621 section 4.1.2.3).
use Rattle.std.specs.Prelude.{◌≡◌, ◌≢◌, ℕ, Bool, false, true, not, ◌||◌, ◌==◌, List, [], ◌∷◌, ◌++◌, Option, Some, None, option_to_list}
use Rattle.std.specs.List.{flat_map, list_all, AllZip}
use Rattle.text_words.specs.Cuts.{back}
use Rattle.text_words.specs.Octets.{is_white}
use Rattle.text_words.specs.Sequence.{Sequence}
use Rattle.header_words.specs.EncodedWords.{IsTextBetween, is_control}
use Rattle.header_words.specs.OneLine.{one_line}
use Rattle.header_words.specs.declared.encoded_word.Edges.TheVariants as edges
use Rattle.mail_header.specs.WhiteEnd.{without_white_end, some_text}
use Rattle.header_addresses.specs.declared.address.Address.{Address}
use Rattle.header_addresses.specs.Parts.{IsOneAddress, IsPhraseName, HasHead}
use Rattle.loose_addresses.specs.Angles.{is_angle, IsAddressAngle}
use Rattle.loose_addresses.specs.Torn.{IsTorn, IsUntorn}
use Rattle.loose_addresses.specs.Lumps.{IsLump, AreLumpsBefore, elements_of}

-- ---- what an element reads as

-- the text begins with a phrase and ":", which are whole lumps, and this follows them
pub record BeginsGroup (rest t : List ℕ) : Type 0 where
  pub head : HasHead rest t
  pub lumps : List (List ℕ)
  pub are : AreLumpsBefore lumps rest t

-- a group's beginning is dropped
pub data IsBehindHead : List ℕ → List ℕ → Type 0 where
  Dropped : (rest t : List ℕ) → BeginsGroup rest t → IsBehindHead rest t
  NoHead : (t : List ℕ) → ((rest : List ℕ) → BeginsGroup rest t → ⊥) → IsBehindHead t t

abbrev pub trimmed : List ℕ → List ℕ
trimmed t = without_white_end (back is_white t)

-- The name that stands before the angle brackets: that of a phrase that tears no encoded word, else the text as it stands, as one
-- line with its encoded words decoded, beside which quotation marks may stand too; none where nothing stands there.
pub data IsNameBefore (before : List ℕ) : Option (List ℕ) → Type 0 where
  Phrase : (name : List ℕ) → IsPhraseName name before → IsUntorn before → IsNameBefore before (Some name)
  AsItStands : ((name : List ℕ) → IsPhraseName name before → IsTorn before) → (text : List ℕ) → IsTextBetween edges.Quotes false (one_line before) text
      → IsNameBefore before (some_text (trimmed text))

abbrev pub NotOne : List ℕ → Type 0
NotOne t = (a : Address) → IsOneAddress a t → ⊥

abbrev pub in_angles : List ℕ → List ℕ
in_angles x = 60 ∷ (x ++ 62 ∷ [])

-- The email in "<x>": that of the address that this is by the grammar; else x as one line without white space at its ends.
pub data IsEmailIn (x : List ℕ) : List ℕ → Type 0 where
  OneInside : (a : Address) → IsOneAddress a (in_angles x) → IsEmailIn x a.email
  AsWritten : NotOne (in_angles x) → IsEmailIn x (trimmed (one_line x))

-- no address by the grammar, or one that tears an encoded word
abbrev pub NotStrict : List ℕ → Type 0
NotStrict t = (a : Address) → IsOneAddress a t → IsTorn t

-- no white space, control character, quotation mark or bracket
abbrev pub is_plain_octet : ℕ → Bool
is_plain_octet c = not (is_white c || is_control c || c == 34 || c == 40 || c == 41 || is_angle c || c == 91 || c == 93)

-- a text of such octets, with some before and some after an "@"
pub record IsBareText (t : List ℕ) : Type 0 where
  pub before : List ℕ
  pub behind : List ℕ
  pub whole : t ≡ before ++ 64 ∷ behind
  pub some_before : before ≢ []
  pub some_behind : behind ≢ []
  pub plain : list_all is_plain_octet t ≡ true

abbrev pub NoAddressAngle : List ℕ → Type 0
NoAddressAngle t = (before x : List ℕ) → IsAddressAngle before x t → ⊥

-- what an element reads as, behind a group's beginning
pub data ReadsAs (t : List ℕ) : Option Address → Type 0 where
  Strict : (a : Address) → IsOneAddress a t → IsUntorn t → ReadsAs t (Some a)
  InAngle : (before x : List ℕ) (name : Option (List ℕ)) (email : List ℕ) → NotStrict t → IsAddressAngle before x t → IsNameBefore before name → IsEmailIn x email
      → ReadsAs t (Some (record { name = name; email = email }))
  Bare : NotStrict t → NoAddressAngle t → IsBareText (trimmed t) → ReadsAs t (Some (record { name = None; email = trimmed t }))
  PassedOver : NotStrict t → NoAddressAngle t → (IsBareText (trimmed t) → ⊥) → ReadsAs t None

pub record IsElementRead (t : List ℕ) (a : Option Address) : Type 0 where
  pub rest : List ℕ
  pub behind : IsBehindHead rest t
  pub reads : ReadsAs rest a

-- ---- the addresses of a text, as far as they read

pub record AreLoose (addresses : List Address) (t : List ℕ) : Type 0 where
  pub lumps : List (Option (List ℕ))
  pub are : Sequence IsLump lumps t
  pub read : List (Option Address)
  pub each : AllZip IsElementRead (elements_of lumps) read
  pub addresses_are : addresses ≡ flat_map option_to_list read
