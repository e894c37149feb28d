-- The parts of an Email that is to be created (RFC 8621 sections 4.1.4 and 4.6).
use Rattle.std.specs.Prelude.{ℕ, Bool, true, false, not, ◌&&◌, List, [], ◌∷◌, Option, Some, None, option_map, option_and_then, is_some, codes, if◌then◌else◌}
use Rattle.serde_json.specs.Data.{Data, boolean, Members}
use Rattle.serde_json.specs.Find.{get, get_member, as_str, as_object}
use Rattle.text_words.specs.Cuts.{front}
use Rattle.text_words.specs.Octets.{is_same_text}
use Rattle.mail_drafts.specs.MediaTypes.{is_no_slash, is_media_type, is_token}
use Rattle.draft_reading.specs.Values.{tested, id_in, line_in, nullable, list_in}

-- ---- values of bodies

-- a flag that isn't set, or isn't there
abbrev pub is_unset : Option Data → Bool
is_unset None = true
is_unset (Some (boolean b)) = not b
is_unset (Some d) = false

-- the text of an EmailBodyValue, which is whole and has no problem of its encoding
unfoldable pub body_value_in : Data → Option (List ℕ)
body_value_in d =
    if is_unset (get (codes "isTruncated") d) && is_unset (get (codes "isEncodingProblem") d) then option_and_then as_str (get (codes "value") d) else None

abbrev pub is_body_value : Data → Bool
is_body_value d = is_some (body_value_in d)

-- ---- what a part says of itself

-- EmailBodyPart: what is of no use to a message is passed over
pub record Part : Type 0 where
  pub part : Option (List ℕ)
  pub blob : Option (List ℕ)
  pub media : Option (List ℕ)
  pub charset : Option (List ℕ)
  pub name : Option (List ℕ)
  pub cid : Option (List ℕ)
  pub disposition : Option (List ℕ)

unfoldable pub part_of : Data → Option Part
part_of d =
    option_and_then (λ part. option_and_then (λ blob. option_and_then (λ media. option_and_then (λ charset.
    option_and_then (λ name. option_and_then (λ cid. option_map (λ disposition.
    record { part = part; blob = blob; media = media; charset = charset; name = name; cid = cid; disposition = disposition })
    (nullable as_str (get (codes "disposition") d))) (nullable id_in (get (codes "cid") d))) (nullable line_in (get (codes "name") d)))
    (nullable as_str (get (codes "charset") d))) (nullable line_in (get (codes "type") d))) (nullable as_str (get (codes "blobId") d)))
    (nullable as_str (get (codes "partId") d))

abbrev pub part_in : Data → Option Part
part_in d = option_and_then (λ ms. part_of d) (as_object d)

-- ---- texts

-- a part that isn't said to be of another type
abbrev pub is_of_type : List ℕ → Option (List ℕ) → Bool
is_of_type type None = true
is_of_type type (Some media) = is_same_text media type

-- the value of a part, in the bodyValues of an Email
unfoldable pub value_of_part : Members → Option (List ℕ) → Option (List ℕ)
value_of_part all part =
    option_and_then (λ id. option_and_then (λ values. option_and_then body_value_in (get id values)) (get_member (codes "bodyValues") all)) part

-- the value of a text of this type
abbrev pub text_of_part : Members → List ℕ → Part → Option (List ℕ)
text_of_part all type p = if is_of_type type p.media then value_of_part all p.part else None

abbrev pub text_part_in : Members → List ℕ → Data → Option (List ℕ)
text_part_in all type d = option_and_then (text_of_part all type) (part_in d)

-- at most one
abbrev pub one_at_most : List (List ℕ) → Option (Option (List ℕ))
one_at_most [] = Some None
one_at_most (t ∷ []) = Some (Some t)
one_at_most (t ∷ u ∷ ts) = None

-- the text of a list of at most one part, of this type
unfoldable pub text_list_in : Members → List ℕ → Data → Option (Option (List ℕ))
text_list_in all type d = option_and_then one_at_most (list_in (text_part_in all type) d)

-- ---- attachments

-- what an attachment asks for
pub record Attached : Type 0 where
  pub blob : List ℕ
  pub media : List ℕ
  pub charset : Option (List ℕ)
  pub name : Option (List ℕ)
  pub cid : Option (List ℕ)
  pub inline : Bool

-- this stands before the "/"
abbrev pub is_of : List ℕ → List ℕ → Bool
is_of kind media = is_same_text (front is_no_slash media) kind

-- two tokens round one "/", of which the first isn't "multipart"
abbrev pub is_attachable : List ℕ → Bool
is_attachable media = is_media_type media && not (is_of (codes "multipart") media)

abbrev pub octet_stream : List ℕ
octet_stream = codes "application/octet-stream"

-- An attached message is octets without a type: no message is in base64 (RFC 2045 section 6.4).
abbrev pub leaf_type : List ℕ → List ℕ
leaf_type media = if is_of (codes "message") media then octet_stream else media

-- the media type that is written
unfoldable pub type_in : Option (List ℕ) → Option (List ℕ)
type_in None = Some octet_stream
type_in (Some media) = if is_attachable media then Some (leaf_type media) else None

-- the charset that is written: a token, and of texts alone (RFC 8621 section 4.1.4)
unfoldable pub charset_of : List ℕ → Option (List ℕ) → Option (List ℕ)
charset_of media charset = if is_of (codes "text") media then tested is_token charset else None

-- what isn't known is an attachment (RFC 2183 section 2.8)
abbrev pub is_inline : Option (List ℕ) → Bool
is_inline None = false
is_inline (Some t) = is_same_text t (codes "inline")

abbrev pub attached : Part → List ℕ → List ℕ → Attached
attached p blob media =
    record { blob = blob; media = media; charset = charset_of media p.charset; name = p.name; cid = p.cid; inline = is_inline p.disposition }

-- an attachment names an upload
unfoldable pub attached_of : Part → Option Attached
attached_of p = option_and_then (λ blob. option_map (attached p blob) (type_in p.media)) p.blob

abbrev pub attachment_in : Data → Option Attached
attachment_in d = option_and_then attached_of (part_in d)
