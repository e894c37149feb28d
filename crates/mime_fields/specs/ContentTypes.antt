-- Content-Type (RFC 2045 section 5.1): the media type stands in the first piece of its value.
use Rattle.std.specs.Prelude.{◌≡◌, ℕ, Bool, ◌&&◌, if◌then◌else◌, List, [], ◌∷◌, ◌++◌, map, Option, Some, None, codes}
use Rattle.std.specs.Char.{to_ascii_lowercase}
use Rattle.std.specs.Option.{option_and_then}
use Rattle.mail_header.specs.RawForms.{raw_form}
use Rattle.mail_header.specs.WhiteEnd.{some_text}
use Rattle.header_tokens.specs.declared.token.Alphabet.TheVariants as alphabet
use Rattle.header_tokens.specs.Tokens.{Spelled}
use Rattle.header_tokens.specs.Lexemes.{AreLeadingLexemes}
use Rattle.header_tokens.specs.Kinds.{has_mark}
use Rattle.mime_fields.specs.Pieces.{BeginsWithPiece}
use Rattle.mime_fields.specs.Parameters.{is_token, HasParameter, HasUnfolded}
use Rattle.mime_fields.specs.declared.content_type.ContentType.{ContentType}

-- A to Z as a to z
abbrev pub lower : List ℕ → List ℕ
lower t = map to_ascii_lowercase t

-- type "/" subtype
abbrev pub is_media : Spelled → Spelled → Spelled → Bool
is_media type slash subtype = is_token type && has_mark 47 slash && is_token subtype

-- the media type at the front
abbrev pub media_in : List Spelled → Option (List ℕ)
media_in [] = None
media_in (t ∷ []) = None
media_in (t ∷ m ∷ []) = None
media_in (t ∷ m ∷ s ∷ ls) = if is_media t m s then Some (lower t.text ++ 47 ∷ lower s.text) else None

-- the first piece has these lexemes at its front
pub record HasFrontLexemes (lexemes : List Spelled) (t : List ℕ) : Type 0 where
  pub first : List ℕ
  pub rest : Option (List ℕ)
  pub begins : BeginsWithPiece first rest t
  pub are : AreLeadingLexemes alphabet.Mime lexemes first

-- the field's octets have this media type
abbrev pub HasMedia : List ℕ → Option (List ℕ) → Type 0
HasMedia t media = (lexemes : List Spelled) × HasFrontLexemes lexemes t × (media ≡ media_in lexemes)

-- the text of a charset's octets; there is none without an octet
abbrev pub charset_text : List ℕ → Option (List ℕ)
charset_text octets = some_text (raw_form octets)

-- The boundary is the octets that delimiter lines have, the charset a text; the name has its line ends.
pub record IsContentType (t : List ℕ) (content : ContentType) : Type 0 where
  pub media : HasMedia t content.media
  pub boundary : HasUnfolded (codes "boundary") t content.boundary
  pub charset_octets : Option (List ℕ)
  pub has_charset : HasUnfolded (codes "charset") t charset_octets
  pub charset : content.charset ≡ option_and_then charset_text charset_octets
  pub name : HasParameter (codes "name") t content.name
