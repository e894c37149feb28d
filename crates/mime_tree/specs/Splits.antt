-- The parts of a multipart's body (RFC 2046 section 5.1.1): the lines of a preamble, then delimiter lines with a part
-- after each, up to a closing line or to the end. What stands after the closing line is no part's.
use Rattle.std.specs.Prelude.{◌≡◌, ℕ, ◌+◌, ◌<◌, ◌≤◌, List, [], ◌∷◌, ◌++◌, length, slice_range, Option, Some, None}
use Rattle.mail_header.specs.Lines.{without_end}
use Rattle.mime_tree.specs.declared.split.Mark.TheVariants as mark
use Rattle.mime_tree.specs.declared.split.Piece.{Piece}
use Rattle.mime_tree.specs.Delimiters.{lines, size, IsDelimiter, IsClosing, IsMarked}

-- lines that are neither delimiter lines nor closing
abbrev pub ArePlain : List ℕ → List (List ℕ) → Type 0
ArePlain boundary [] = Unit {0}
ArePlain boundary (l ∷ ls) = IsMarked boundary l mark.Plain × ArePlain boundary ls

-- where the line end begins that stands before offset e of b and belongs to the delimiter line there; the part's octets
-- begin at start
unfoldable pub before : List ℕ → ℕ → ℕ → ℕ
before b start e = start + length (without_end (slice_range b start e))

-- where a part ends whose lines go up to offset e, and rest follows: at a delimiter's line end, or with the body
abbrev pub end_of : List ℕ → ℕ → ℕ → List (List ℕ) → ℕ
end_of b start e [] = e
end_of b start e (l ∷ ls) = before b start e

-- The lines t, from offset at on, are lines of the part p, which begins at start, and then what After says.
pub record InPart (Behind : ℕ → List (List ℕ) → Type 0) (b boundary : List ℕ) (start at : ℕ) (p : Piece) (t : List (List ℕ)) : Type 0 where
  pub inner : List (List ℕ)
  pub rest : List (List ℕ)
  pub whole : t ≡ inner ++ rest
  pub plain : ArePlain boundary inner
  pub start_is : p.start ≡ start
  pub end_is : p.end ≡ end_of b start (at + size inner) rest
  pub behind : Behind (at + size inner) rest

-- a delimiter line, and the part after it
pub record IsSplitPart (Behind : ℕ → List (List ℕ) → Type 0) (b boundary : List ℕ) (at : ℕ) (p : Piece) (t : List (List ℕ)) : Type 0 where
  pub line : List ℕ
  pub lines : List (List ℕ)
  pub whole : t ≡ line ∷ lines
  pub delimiter : IsDelimiter boundary line
  pub part : InPart Behind b boundary (at + length line) (at + length line) p lines

-- a closing line, and what is no part's
abbrev pub IsClosed : List ℕ → List (List ℕ) → Type 0
IsClosed boundary [] = ⊥
IsClosed boundary (l ∷ ls) = IsClosing boundary l

-- nothing, or a closing line and what is no part's
abbrev pub IsEnd : List ℕ → List (List ℕ) → Type 0
IsEnd boundary [] = Unit {0}
IsEnd boundary (l ∷ ls) = IsClosed boundary (l ∷ ls)

-- the parts of the lines t, of which the first begins at offset at of b
abbrev pub AreParts : List ℕ → List ℕ → List Piece → ℕ → List (List ℕ) → Type 0
AreParts b boundary [] at t = IsEnd boundary t
AreParts b boundary (p ∷ ps) at t = IsSplitPart (AreParts b boundary ps) b boundary at p t

-- what follows the preamble: nothing, where no delimiter comes; a closing line; or parts
abbrev pub Follows : List ℕ → List ℕ → Option (List Piece) → ℕ → List (List ℕ) → Type 0
Follows b boundary None at t = t ≡ []
Follows b boundary (Some []) at t = IsClosed boundary t
Follows b boundary (Some (p ∷ ps)) at t = AreParts b boundary (p ∷ ps) at t

-- the lines t, from offset at of b on, are a preamble and parts
pub record HasParts (b boundary : List ℕ) (parts : Option (List Piece)) (at : ℕ) (t : List (List ℕ)) : Type 0 where
  pub preamble : List (List ℕ)
  pub rest : List (List ℕ)
  pub whole : t ≡ preamble ++ rest
  pub plain : ArePlain boundary preamble
  pub follows : Follows b boundary parts (at + size preamble) rest

-- the octets are split so: None where no delimiter line comes
abbrev pub IsSplit : List ℕ → List ℕ → Option (List Piece) → Type 0
IsSplit b boundary parts = HasParts b boundary parts 0 (lines b)

-- pieces that lie after one another, each after a delimiter line, up to n
abbrev pub AreBehind : ℕ → List Piece → ℕ → Type 0
AreBehind at [] n = at ≤ n
AreBehind at (p ∷ ps) n = (at < p.start) × (p.start ≤ p.end) × AreBehind p.end ps n

abbrev pub piece : ℕ → ℕ → Piece
piece start end = record { start = start; end = end }

-- the part, where there is one, that a delimiter line at offset at ends
abbrev pub ending : Option ℕ → List ℕ → ℕ → List Piece
ending None b at = []
ending (Some start) b at = piece start (before b start at) ∷ []
