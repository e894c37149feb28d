-- Content-Transfer-Encodings (RFC 2045 section 6).
use Rattle.std.specs.Prelude.{◌≡◌, ℕ, Bool, true, false, not, ◌||◌, ◌==◌, if◌then◌else◌, List, length, codes}
use Rattle.std.specs.List.{filter, list_any}
use Rattle.text_words.specs.Cuts.{front}
use Rattle.text_words.specs.Octets.{is_white, is_same_text}
use Rattle.header_words.specs.Base64.{is_symbol, spelled_octets}
use Rattle.header_words.specs.QuotedPrintable.{IsPrintable}
use Rattle.header_words.specs.declared.transfer.Encoding.{Encoding}
use Rattle.header_words.specs.declared.transfer.Encoding.TheVariants as encoding

abbrev pub is_identity : List ℕ → Bool
is_identity name = is_same_text name (codes "7bit") || is_same_text name (codes "8bit") || is_same_text name (codes "binary")

-- the encoding of a name, without regard to case
abbrev pub encoding_of : List ℕ → Encoding
encoding_of name =
    if is_identity name then encoding.Identity
    else if is_same_text name (codes "quoted-printable") then encoding.QuotedPrintable
    else if is_same_text name (codes "base64") then encoding.Base64
    else encoding.Unknown

abbrev pub is_no_padding : ℕ → Bool
is_no_padding c = not (c == 61)

abbrev pub is_stranger : ℕ → Bool
is_stranger c = not (is_symbol c || is_white c)

-- base64 ends at "=", and what isn't a symbol is passed over
abbrev pub base64_octets : List ℕ → List ℕ
base64_octets b = spelled_octets (filter is_symbol (front is_no_padding b))

abbrev pub base64_problem : List ℕ → Bool
base64_problem b = list_any is_stranger (front is_no_padding b)

-- The octets that a body spells in the encoding, and whether it has a problem: an unknown encoding, a wrong "=" of
-- quoted-printable, or an octet in base64 that is neither a symbol nor white space.
abbrev pub IsBody : Encoding → List ℕ → Bool → List ℕ → Type 0
IsBody encoding.Identity octets problem b = (octets ≡ b) × (problem ≡ false)
IsBody encoding.QuotedPrintable octets problem b = IsPrintable octets problem b
IsBody encoding.Base64 octets problem b = (octets ≡ base64_octets b) × (problem ≡ base64_problem b)
IsBody encoding.Unknown octets problem b = (octets ≡ b) × (problem ≡ true)

-- a body spells n octets in the encoding
pub record HasBodyLen (e : Encoding) (n : ℕ) (b : List ℕ) : Type 0 where
  pub octets : List ℕ
  pub problem : Bool
  pub is : IsBody e octets problem b
  pub counted : n ≡ length octets
