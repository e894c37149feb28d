-- Content-Disposition (RFC 2183), and the names of parts.
use Rattle.std.specs.Prelude.{◌≡◌, ℕ, false, if◌then◌else◌, List, [], ◌∷◌, Option, Some, None, codes}
use Rattle.std.specs.Option.{option_and_then}
use Rattle.header_words.specs.EncodedWords.{IsText}
use Rattle.header_words.specs.OneLine.{one_line}
use Rattle.mail_header.specs.RawForms.{raw_form}
use Rattle.mail_header.specs.WhiteEnd.{some_text}
use Rattle.header_tokens.specs.Tokens.{Spelled}
use Rattle.mime_fields.specs.ContentTypes.{lower, HasFrontLexemes}
use Rattle.mime_fields.specs.ExtendedValues.{extended_name}
use Rattle.mime_fields.specs.Parameters.{is_token, HasParameter}
use Rattle.mime_fields.specs.declared.disposition.Disposition.{Disposition}

-- the token at the front, in lower case
abbrev pub leading_token : List Spelled → Option (List ℕ)
leading_token [] = None
leading_token (s ∷ ls) = if is_token s then Some (lower s.text) else None

-- the field's octets have this kind of disposition, which stands in their first piece
abbrev pub HasKind : List ℕ → Option (List ℕ) → Type 0
HasKind t kind = (lexemes : List Spelled) × HasFrontLexemes lexemes t × (kind ≡ leading_token lexemes)

pub record IsDisposition (t : List ℕ) (d : Disposition) : Type 0 where
  pub kind : HasKind t d.kind
  pub extended_octets : Option (List ℕ)
  pub has_extended : HasParameter (codes "filename*") t extended_octets
  pub extended : d.extended ≡ option_and_then extended_name extended_octets
  pub file : HasParameter (codes "filename") t d.file

-- ---- names

-- The name that a parameter's value is: a text in which encoded words are decoded. There is none without an octet.
abbrev pub IsWrittenName : Option (List ℕ) → Option (List ℕ) → Type 0
IsWrittenName None name = name ≡ None
IsWrittenName (Some written) name = (text : List ℕ) × IsText false (one_line (raw_form written)) text × (name ≡ some_text text)

-- The name in an extended value, else that of `filename`, else that of `name`. Each is one line without control characters: a
-- right sender writes none, and no name shows as two lines.
pub data IsFileName : Option (List ℕ) → Option (List ℕ) → Option (List ℕ) → Option (List ℕ) → Type 0 where
  Extended : (name : List ℕ) (file type_name : Option (List ℕ)) → IsFileName (Some name) file type_name (Some name)
  OfFile : (name : List ℕ) (file type_name : Option (List ℕ)) → IsWrittenName file (Some name) → IsFileName None file type_name (Some name)
  OfType : (file type_name name : Option (List ℕ)) → IsWrittenName file None → IsWrittenName type_name name → IsFileName None file type_name name
