-- The fields of a header (RFC 5322 section 2.2).
use Rattle.std.specs.Prelude.{◌≡◌, ℕ, ◌+◌, Bool, true, false, not, ◌&&◌, ◌==◌, if◌then◌else◌, ◌⊎◌, List, [], ◌∷◌, ◌++◌, length, map, Option, Some, None}
use Rattle.std.specs.List.{flat_map}
use Rattle.text_words.specs.Cuts.{Each, IsRun}
use Rattle.text_words.specs.LineEnds.{IsLineEnd, line_end_len}
use Rattle.text_words.specs.Octets.{is_blank, is_between, is_same_text}
use Rattle.text_words.specs.Sequence.{Sequence}
use Rattle.mail_header.specs.Lines.{without_end}
use Rattle.mail_header.specs.declared.header.Field.{Field}
use Rattle.mail_header.specs.declared.header.Fields.{Fields}

-- an octet of a field's name: 33 to 126 but ":"
abbrev pub is_name : ℕ → Bool
is_name c = is_between 33 126 c && not (c == 58)

-- The block has a field's form: a name, white space, ":", and the raw value with the end of its last line.
pub record IsField (name raw block : List ℕ) : Type 0 where
  pub blanks : List ℕ
  pub value : List ℕ
  pub whole : block ≡ name ++ (blanks ++ 58 ∷ value)
  pub is_named : IsRun is_name name
  pub are_blank : Each is_blank blanks
  pub raw_is : raw ≡ without_end value

abbrev pub begins_with_blank : List ℕ → Bool
begins_with_blank [] = false
begins_with_blank (c ∷ t) = is_blank c

-- the octet ends a line, and the text after it doesn't continue that line
abbrev pub ends_block : ℕ → List ℕ → Bool
ends_block c t = c == 10 && not (begins_with_blank t)

-- A block of lines, before rest: a line and those that continue it (RFC 5322 section 2.2.3). Inside it each end of a
-- line is followed by white space. It goes up to an end of a line that isn't, or to the end of the text.
abbrev pub IsBlock : List ℕ → List ℕ → Type 0
IsBlock [] rest = ⊥
IsBlock (c ∷ []) rest = (ends_block c rest ≡ true) ⊎ (rest ≡ [])
IsBlock (c ∷ d ∷ t) rest = (ends_block c ((d ∷ t) ++ rest) ≡ false) × IsBlock (d ∷ t) rest

-- A part of a message: a field, other lines, or the empty line with the body after it.
pub data Part : Type 0 where
  AField : List ℕ → List ℕ → Part
  Other : Part
  Body : List ℕ → Part

pub data IsPart : Part → List ℕ → List ℕ → Type 0 where
  ThisField : (name raw block rest : List ℕ) → IsField name raw block → IsBlock block rest → IsPart (AField name raw) block rest
  OtherLines : (block rest : List ℕ) → ((name raw : List ℕ) → IsField name raw block → ⊥) → line_end_len (block ++ rest) ≡ 0 → IsBlock block rest
      → IsPart Other block rest
  ThisBody : (end body : List ℕ) → IsLineEnd end → IsPart (Body body) (end ++ body) []

-- a field's name and its raw value
abbrev pub NameAndRaw : Type 0
NameAndRaw = List ℕ × List ℕ

abbrev pub field_in : Part → List NameAndRaw
field_in (AField name raw) = (name, raw) ∷ []
field_in Other = []
field_in (Body b) = []

abbrev pub body_in : Part → List ℕ
body_in (AField name raw) = []
body_in Other = []
body_in (Body b) = b

-- The header of the octets: its fields, and the place after its empty line, or the length where there is none.
pub record IsHeader (fields : List NameAndRaw) (end : ℕ) (b : List ℕ) : Type 0 where
  pub parts : List Part
  pub are : Sequence IsPart parts b
  pub fields_are : fields ≡ flat_map field_in parts
  pub end_is : end + length (flat_map body_in parts) ≡ length b

-- names and raw values of the code's fields
abbrev pub field_view : Field → NameAndRaw
field_view f = (f.name.now, f.raw.now)

abbrev pub fields_view : List Field → List NameAndRaw
fields_view fs = map field_view fs

abbrev pub names_and_raws : Fields → List NameAndRaw
names_and_raws f = fields_view f.list.items

abbrev pub later_or : Option (List ℕ) → Bool → List ℕ → Option (List ℕ)
later_or None same raw = if same then Some raw else None
later_or (Some later) same raw = Some later

-- the raw value of the last field of this name, without regard to case
abbrev pub last_named : List ℕ → List NameAndRaw → Option (List ℕ)
last_named name [] = None
last_named name (f ∷ fs) = later_or (last_named name fs) (is_same_text f.0 name) f.1

-- the raw value of the last field of this name in the header of the octets
pub record IsLastField (name b : List ℕ) (raw : Option (List ℕ)) : Type 0 where
  pub fields : List NameAndRaw
  pub end : ℕ
  pub is : IsHeader fields end b
  pub raw_is : raw ≡ last_named name fields
