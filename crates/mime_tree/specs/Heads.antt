-- What stands at the front of a part: its header, and what that says of the body (RFC 2045 section 5, RFC 2046).
use Rattle.std.specs.Prelude.{◌≡◌, ℕ, ◌+◌, Bool, not, ◌==◌, if◌then◌else◌, List, [], ◌∷◌, slice_range, codes, Option, Some, None, unwrap_or}
use Rattle.text_words.specs.Cuts.{front}
use Rattle.text_words.specs.Octets.{is_same_text}
use Rattle.mail_header.specs.Fields.{NameAndRaw, IsHeader}
use Rattle.mime_fields.specs.PartHeaders.{IsPartHeader}
use Rattle.mime_tree.specs.declared.head.Head.{Head}

unfoldable pub text_plain : List ℕ
text_plain = codes "text/plain"

unfoldable pub message_rfc822 : List ℕ
message_rfc822 = codes "message/rfc822"

unfoldable pub us_ascii : List ℕ
us_ascii = codes "us-ascii"

-- the transfer encoding of a part whose header has none (RFC 2045 section 6.1)
unfoldable pub seven_bit : List ℕ
seven_bit = codes "7bit"

-- The octets of b from s to e have this head: a header, and what it reads as. Without a media type that can be read,
-- the part has the default one.
pub record IsHead (b : List ℕ) (s e : ℕ) (default : List ℕ) (h : Head) : Type 0 where
  pub fields : List NameAndRaw
  pub len : ℕ
  pub is_header : IsHeader fields len (slice_range b s e)
  pub is_read : IsPartHeader fields h.header
  pub media_is : h.media ≡ unwrap_or h.header.media default
  pub start_is : h.start ≡ s
  pub body_is : h.body ≡ s + len
  pub end_is : h.end ≡ e

abbrev pub is_no_slash : ℕ → Bool
is_no_slash c = not (c == 47)

-- the type of a media type, which stands before its slash
abbrev pub type_of : List ℕ → List ℕ
type_of media = front is_no_slash media

unfoldable pub is_multipart : List ℕ → Bool
is_multipart media = is_same_text (type_of media) (codes "multipart")

unfoldable pub is_text : List ℕ → Bool
is_text media = is_same_text (type_of media) (codes "text")

-- a leaf is no multipart (RFC 2045 section 5.2)
abbrev pub leaf_media : List ℕ → List ℕ
leaf_media media = if is_multipart media then text_plain else media

-- a text without a charset is in US-ASCII (RFC 2046 section 4.1.2, RFC 8621 section 4.1.4)
abbrev pub leaf_charset : List ℕ → Option (List ℕ) → Option (List ℕ)
leaf_charset media charset = if is_text media then Some (unwrap_or charset us_ascii) else charset

unfoldable pub is_digest : List ℕ → Bool
is_digest media = is_same_text media (codes "multipart/digest")

-- the media type of a part in a multipart, where its header names none (RFC 2046 section 5.1.5)
abbrev pub default_in : List ℕ → List ℕ
default_in media = if is_digest media then message_rfc822 else text_plain

-- an empty boundary is none
abbrev pub filled : Option (List ℕ) → Option (List ℕ)
filled None = None
filled (Some []) = None
filled (Some (c ∷ t)) = Some (c ∷ t)

-- the boundary of a multipart
abbrev pub boundary_of : Head → Option (List ℕ)
boundary_of h = if is_multipart h.media then filled h.header.boundary else None
