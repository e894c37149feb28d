-- How many octets a body spells.
use Rattle.std.proofs.Common.{◌≡◌, ℕ, List, length, true, false, refl}
use Rattle.header_words.specs.Transfer.{base64_octets, base64_problem, HasBodyLen}
use Rattle.header_words.specs.QuotedPrintable.{HasPrintableLen}
use Rattle.header_words.specs.declared.transfer.Encoding.TheVariants as encoding

-- in the encoding quoted-printable, a body spells as many octets as it does as a text in quoted-printable
pub printable_body : (n : ℕ) (b : List ℕ) → HasPrintableLen n b → HasBodyLen encoding.QuotedPrintable n b
printable_body n b h = record { octets = h.octets; problem = h.problem; is = h.is; counted = h.counted }

-- in the encoding base64, a body spells as many octets as its symbols before the first "=" do
pub base64_body : (n : ℕ) (b : List ℕ) → n ≡ length (base64_octets b) → HasBodyLen encoding.Base64 n b
base64_body n b h = record { octets = base64_octets b; problem = base64_problem b; is = (refl, refl); counted = h }

-- the identity, and an unknown encoding
pub same_body : (b : List ℕ) → HasBodyLen encoding.Identity (length b) b × HasBodyLen encoding.Unknown (length b) b
same_body b = (
  record { octets = b; problem = false; is = (refl, refl); counted = refl },
  record { octets = b; problem = true; is = (refl, refl); counted = refl },
)
