-- What the header of a body part says (RFC 8621 section 4.1.4). Of several fields of a name the last counts.
use Rattle.std.specs.Prelude.{◌≡◌, ℕ, List, [], Option, Some, None, unwrap_or, codes}
use Rattle.std.specs.Option.{option_map, option_and_then}
use Rattle.header_tokens.specs.declared.token.Alphabet.TheVariants as alphabet
use Rattle.mail_header.specs.Fields.{NameAndRaw, last_named}
use Rattle.header_tokens.specs.Lexemes.{AreLeadingLexemes}
use Rattle.mail_header.specs.RawForms.{raw_form, IsTextForm}
use Rattle.header_tokens.specs.Tokens.{Spelled}
use Rattle.mime_fields.specs.ContentIds.{IsContentId}
use Rattle.mime_fields.specs.ContentTypes.{HasMedia, charset_text}
use Rattle.mime_fields.specs.Dispositions.{leading_token, HasKind, IsFileName}
use Rattle.mime_fields.specs.ExtendedValues.{extended_name}
use Rattle.mime_fields.specs.Parameters.{trimmed, HasParameter, HasUnfolded}
use Rattle.mime_fields.specs.declared.header.PartHeader.{PartHeader}

-- the octets of the field of this name; a field that is missing has none
abbrev pub field_octets : List NameAndRaw → List ℕ → List ℕ
field_octets fields name = unwrap_or (last_named name fields) []

-- the lexemes at their front
abbrev pub HasLexemes : List NameAndRaw → List ℕ → List Spelled → Type 0
HasLexemes fields name lexemes = AreLeadingLexemes alphabet.Mime lexemes (field_octets fields name)

-- the field's value as a text, so trimmed
abbrev pub IsTrimmedTextOf : Option (List ℕ) → Option (List ℕ) → Type 0
IsTrimmedTextOf None text = text ≡ None
IsTrimmedTextOf (Some raw) text = (t : List ℕ) × IsTextForm t raw × (text ≡ Some (trimmed t))

-- the id of Content-ID
abbrev pub IsIdOf : Option (List ℕ) → Option (List ℕ) → Type 0
IsIdOf None id = id ≡ None
IsIdOf (Some raw) id = IsContentId raw id

-- The mechanism of Content-Transfer-Encoding, where there is the field. One that is no token is the empty text, which names
-- no encoding.
abbrev pub mechanism : Option (List ℕ) → List Spelled → Option (List ℕ)
mechanism raw lexemes = option_map (λ (r : List ℕ). unwrap_or (leading_token lexemes) []) raw

-- The name is `filename*` of Content-Disposition, else `filename`, else `name` of Content-Type.
pub record IsPartHeader (fields : List NameAndRaw) (h : PartHeader) : Type 0 where
  pub media : HasMedia (field_octets fields (codes "content-type")) h.media
  pub boundary : HasUnfolded (codes "boundary") (field_octets fields (codes "content-type")) h.boundary
  pub charset_octets : Option (List ℕ)
  pub has_charset : HasUnfolded (codes "charset") (field_octets fields (codes "content-type")) charset_octets
  pub charset : h.charset ≡ option_and_then charset_text charset_octets
  pub disposition : HasKind (field_octets fields (codes "content-disposition")) h.disposition
  pub extended_octets : Option (List ℕ)
  pub has_extended : HasParameter (codes "filename*") (field_octets fields (codes "content-disposition")) extended_octets
  pub file : Option (List ℕ)
  pub has_file : HasParameter (codes "filename") (field_octets fields (codes "content-disposition")) file
  pub type_name : Option (List ℕ)
  pub has_type_name : HasParameter (codes "name") (field_octets fields (codes "content-type")) type_name
  pub name : IsFileName (option_and_then extended_name extended_octets) file type_name h.name
  pub cid : IsIdOf (last_named (codes "content-id") fields) h.cid
  pub language : h.language ≡ option_map raw_form (last_named (codes "content-language") fields)
  pub location : IsTrimmedTextOf (last_named (codes "content-location") fields) h.location
  pub transfer_encoding : List Spelled
  pub has_transfer_encoding : HasLexemes fields (codes "content-transfer-encoding") transfer_encoding
  pub encoding : h.encoding ≡ mechanism (last_named (codes "content-transfer-encoding") fields) transfer_encoding
