-- What the text of a part is (RFC 8621 section 4.1.4, EmailBodyValue).
use Rattle.std.specs.Prelude.{◌≡◌, ℕ, Bool, ◌-◌, ◌&&◌, ◌||◌, ◌==◌, nat_le, if◌then◌else◌, List, [], ◌∷◌, ◌++◌, length, slice_index, slice_range, unwrap_or}
use Rattle.text_words.specs.LineEnds.{begins_with_lf}
use Rattle.header_words.specs.Charsets.{charset_of, text_in, has_problem_in}
use Rattle.header_words.specs.declared.charset.Charset.{Charset}
use Rattle.mime_tree.specs.declared.part.Part.{Part, out-Part}
use Rattle.mime_tree.specs.Bodies.{HasOctets}
use Rattle.mime_tree.specs.Heads.{us_ascii}

-- an octet before a text; the CR of a CR LF is dropped
abbrev pub kept_octet : ℕ → List ℕ → List ℕ
kept_octet c t = if c == 13 && begins_with_lf t then [] else c ∷ []

-- the text with CR LF as LF
unfoldable pub with_lf : List ℕ → List ℕ
with_lf [] = []
with_lf (c ∷ t) = kept_octet c t ++ with_lf t

-- the name of a part's charset; a text has one
abbrev pub part_charset : Part → List ℕ
part_charset p = unwrap_or (out-Part p).charset us_ascii

-- an apostrophe stands at each end, as some mail has it round the name of a charset; one alone is no pair
abbrev pub is_in_apostrophes : List ℕ → Bool
is_in_apostrophes name = nat_le 2 (length name) && (slice_index name 0 == 39 && slice_index name (length name - 1) == 39)

-- without one such pair
abbrev pub without_apostrophes : List ℕ → List ℕ
without_apostrophes name = if is_in_apostrophes name then slice_range name 1 (length name - 1) else name

abbrev pub charset_in : Part → Charset
charset_in p = charset_of (without_apostrophes (part_charset p))

-- The part of the octets b has this text, and has a problem or not: in its transfer encoding or in its charset.
pub record HasText (p : Part) (b text : List ℕ) (problem : Bool) : Type 0 where
  pub octets : List ℕ
  pub misspelled : Bool
  pub has_octets : HasOctets p b octets misspelled
  pub text_is : text ≡ with_lf (text_in (charset_in p) octets)
  pub problem_is : problem ≡ (misspelled || has_problem_in (charset_in p) octets)
