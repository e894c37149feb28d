-- Conditions of header fields (RFC 8621 section 4.4.1): any field of the name counts.
use Rattle.std.specs.Prelude.{◌≡◌, ◌≢◌, ℕ, List, [], true, Contains, Option, Some, None}
use Rattle.text_words.specs.Octets.{is_same_text}
use Rattle.mail_header.specs.Fields.{NameAndRaw, IsHeader, last_named}
use Rattle.mail_header.specs.RawForms.{IsTextForm}
use Rattle.query_conditions.specs.Words.{HasWords}

-- the field is of the name, and each of the words stands in its text
pub record FieldHasWords (name : List ℕ) (words : List (List ℕ)) (f : NameAndRaw) : Type 0 where
  pub named : is_same_text f.0 name ≡ true
  pub text : List ℕ
  pub is_text : IsTextForm text f.1
  pub has_words : HasWords words text

-- a field of the name has each of the words in its text, which is empty where there is no such field
pub data FieldsHaveWords (name : List ℕ) (words : List (List ℕ)) (fields : List NameAndRaw) : Type 0 where
  InField : (f : NameAndRaw) → Contains fields f → FieldHasWords name words f → FieldsHaveWords name words fields
  NoField : last_named name fields ≡ None → HasWords words [] → FieldsHaveWords name words fields

-- it is asked whether there is a field of the name, or whether one has words
abbrev pub FieldsMatch : List ℕ → Option (List (List ℕ)) → List NameAndRaw → Type 0
FieldsMatch name None fields = last_named name fields ≢ None
FieldsMatch name (Some words) fields = FieldsHaveWords name words fields

pub record HeaderMatches (header name : List ℕ) (words : Option (List (List ℕ))) : Type 0 where
  pub fields : List NameAndRaw
  pub end : ℕ
  pub is_header : IsHeader fields end header
  pub matches : FieldsMatch name words fields
