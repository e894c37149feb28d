-- The octets that a part's body spells (RFC 2045 section 6).
use Rattle.std.specs.Prelude.{ℕ, Bool, List, slice_range, Option, Some, None}
use Rattle.header_words.specs.Transfer.{encoding_of, IsBody, HasBodyLen}
use Rattle.header_words.specs.declared.transfer.Encoding.{Encoding}
use Rattle.header_words.specs.declared.transfer.Encoding.TheVariants as encoding
use Rattle.mime_tree.specs.declared.part.Part.{Part, out-Part}

-- a leaf's encoding; that of a multipart is passed over (RFC 2045 section 6.4)
abbrev pub encoding_by : Option ℕ → List ℕ → Encoding
encoding_by None name = encoding.Identity
encoding_by (Some number) name = encoding_of name

-- the part of the octets b spells these octets, and has a problem or not
abbrev pub HasOctets : Part → List ℕ → List ℕ → Bool → Type 0
HasOctets p b octets problem =
    IsBody (encoding_by (out-Part p).number (out-Part p).encoding) octets problem (slice_range b (out-Part p).start (out-Part p).end)

-- the part of the octets b spells n octets
abbrev pub HasLen : Part → List ℕ → ℕ → Type 0
HasLen p b n = HasBodyLen (encoding_by (out-Part p).number (out-Part p).encoding) n (slice_range b (out-Part p).start (out-Part p).end)
