-- Octets that are a response, or begin one.
use Rattle.std.specs.Prelude.{◌≡◌, ◌≢◌, ℕ, ◌+◌, ◌<◌, ◌≤◌, List, [], ◌++◌, length, take}
use Rattle.imap_grammar.specs.declared.answer.Scan.{Scan}
use Rattle.imap_grammar.specs.declared.answer.Scan.TheVariants.{Whole, NeedMore, Bad}
use Rattle.imap_types.specs.declared.response.Response.{Response}
use Rattle.imap_types.specs.Texts.{plain_octets, outside, limit}
use Rattle.imap_types.specs.Spells.{Spells, IsSpelling}

-- the octets begin a response: one taken without the limit, which they keep themselves
pub record IsResponsePrefix (b : List ℕ) : Type 0 where
  pub response : Response
  pub text : List ℕ
  pub more : List ℕ
  pub spells : Spells response (text ++ more)
  pub octets : plain_octets text ≡ b
  pub within : outside text ≤ limit

pub record IsProperResponsePrefix (b : List ℕ) : Type 0 where
  pub response : Response
  pub text : List ℕ
  pub more : List ℕ
  pub spells : Spells response (text ++ more)
  pub octets : plain_octets text ≡ b
  pub within : outside text ≤ limit
  pub proper : more ≢ []

-- the first n octets are a spelling; the octets are a proper prefix of one; the first at + 1 are a prefix of none,
-- and the first at are a proper one
abbrev pub ScanOf : List ℕ → Scan → Type 0
ScanOf b (Whole n) = (n ≤ length b) × ((v : Response) × IsSpelling v (take n b))
ScanOf b NeedMore = IsProperResponsePrefix b
ScanOf b (Bad at) = (at < length b) × (IsResponsePrefix (take (at + 1) b) → ⊥) × IsProperResponsePrefix (take at b)
