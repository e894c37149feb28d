-- Parts of a message as they are written (RFC 2045, RFC 2046): leaves in base64, and multiparts.
use Rattle.std.specs.Prelude.{ℕ, Bool, if◌then◌else◌, List, [], ◌∷◌, ◌++◌, map, codes, Option, Some, None, option_to_list}
use Rattle.std.specs.List.{flat_map}
use Rattle.percent_encoding.specs.Percent.{percent_encode}
use Rattle.percent_encoding.specs.declared.ascii_set.TheConstants.{NON_ALPHANUMERIC}
use Rattle.mail_drafts.specs.declared.attachment.Attachment.{Attachment}
use Rattle.message_lines.specs.Folding.{crlf, Field, field, fields_text}
use Rattle.message_lines.specs.Ids.{bracketed}
use Rattle.message_lines.specs.Bodies.{base64_lines, with_crlf}

-- a header and what follows the empty line after it
pub record Entity : Type 0 where
  pub fields : List Field
  pub body : List ℕ

abbrev pub entity_text : Entity → List ℕ
entity_text e = fields_text e.fields ++ (crlf ++ e.body)

-- ---- leaves

abbrev pub base64_field : Field
base64_field = field (codes "Content-Transfer-Encoding") (codes "base64" ∷ [])

-- a text of this media type, in UTF-8
unfoldable pub text_leaf : List ℕ → List ℕ → Entity
text_leaf media value = record {
  fields = field (codes "Content-Type") ((media ++ codes "; charset=utf-8") ∷ []) ∷ base64_field ∷ [];
  body = base64_lines (with_crlf value);
}

-- the name of a file as a parameter's extended value, in which all but letters and digits is escaped (RFC 8187 section 3.2)
abbrev pub file_name : List ℕ → List ℕ
file_name name = codes "filename*=utf-8''" ++ percent_encode NON_ALPHANUMERIC name

-- RFC 2183 section 2
abbrev pub disposition : Bool → List ℕ
disposition inline = if inline then codes "inline" else codes "attachment"

abbrev pub disposition_pieces : Bool → Option (List ℕ) → List (List ℕ)
disposition_pieces inline None = disposition inline ∷ []
disposition_pieces inline (Some name) = (disposition inline ++ 59 ∷ []) ∷ file_name name ∷ []

-- how the part is to be shown, and the name of its file
unfoldable pub disposition_field : Bool → Option (List ℕ) → Field
disposition_field inline name = field (codes "Content-Disposition") (disposition_pieces inline name)

abbrev pub id_fields : Option (List ℕ) → List Field
id_fields None = []
id_fields (Some cid) = field (codes "Content-ID") (bracketed cid ∷ []) ∷ []

-- the charset of a text, where it is told
abbrev pub charset_parameter : Option (List ℕ) → List ℕ
charset_parameter None = []
charset_parameter (Some charset) = codes "; charset=" ++ charset

unfoldable pub attachment_leaf : Attachment → Entity
attachment_leaf a = record {
  fields = field (codes "Content-Type") ((a.media ++ charset_parameter a.charset) ∷ []) ∷ base64_field ∷ disposition_field a.inline a.name ∷ id_fields a.cid;
  body = base64_lines a.bytes;
}

-- ---- multiparts

abbrev pub delimiter_line : List ℕ → List ℕ
delimiter_line boundary = codes "--" ++ (boundary ++ crlf)

abbrev pub closing_line : List ℕ → List ℕ
closing_line boundary = codes "--" ++ (boundary ++ codes "--" ++ crlf)

-- a delimiter line, and a part after it
abbrev pub delimited : List ℕ → List ℕ → List ℕ
delimited boundary t = delimiter_line boundary ++ t

-- a delimiter line before each part, and a closing line behind the last; the end of a part's last line belongs to the line that
-- follows it (RFC 2046 section 5.1.1)
abbrev pub multipart_body : List ℕ → List (List ℕ) → List ℕ
multipart_body boundary parts = flat_map (delimited boundary) parts ++ closing_line boundary

abbrev pub multipart : List ℕ → List ℕ → List Entity → Entity
multipart media boundary parts = record {
  fields = field (codes "Content-Type") ((media ++ codes "; boundary=" ++ boundary) ∷ []) ∷ [];
  body = multipart_body boundary (map entity_text parts);
}

-- ---- the part of a draft

-- the boundaries: no line of a leaf begins with "--"
abbrev pub mixed_boundary : List ℕ
mixed_boundary = codes "_a"

-- parts of the outer multipart, each after its delimiter line
abbrev pub delimited_parts : List Entity → List ℕ
delimited_parts parts = flat_map (delimited mixed_boundary) (map entity_text parts)

abbrev pub alternative_boundary : List ℕ
alternative_boundary = codes "_b"

-- a text and an HTML that says the same
unfoldable pub alternative : List ℕ → List ℕ → Entity
alternative text html = multipart (codes "multipart/alternative") alternative_boundary (text_leaf (codes "text/plain") text ∷ text_leaf (codes "text/html") html ∷ [])

-- what is shown: the text, the HTML, or both as alternatives
abbrev pub shown_part : Option (List ℕ) → Option (List ℕ) → Option Entity
shown_part None None = None
shown_part (Some text) None = Some (text_leaf (codes "text/plain") text)
shown_part None (Some html) = Some (text_leaf (codes "text/html") html)
shown_part (Some text) (Some html) = Some (alternative text html)

-- with what is attached after it; without any part there is an empty text
unfoldable pub mixed : Option Entity → List Attachment → Entity
mixed shown list = multipart (codes "multipart/mixed") mixed_boundary (option_to_list shown ++ map attachment_leaf list)

abbrev pub alone : Option Entity → Entity
alone None = text_leaf (codes "text/plain") []
alone (Some shown) = shown

abbrev pub whole_part : Option Entity → List Attachment → Entity
whole_part shown [] = alone shown
whole_part shown (a ∷ list) = mixed shown (a ∷ list)
