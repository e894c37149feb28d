-- The lines of a multipart's body, and those of them that stand between its parts (RFC 2046 section 5.1.1).
use Rattle.std.specs.Prelude.{◌≡◌, ℕ, ◌+◌, ◌==◌, if◌then◌else◌, List, [], ◌∷◌, ◌++◌, length}
use Rattle.text_words.specs.Cuts.{Each}
use Rattle.text_words.specs.Octets.{is_white}
use Rattle.mime_tree.specs.declared.split.Mark.{Mark}
use Rattle.mime_tree.specs.declared.split.Mark.TheVariants as mark

-- the lines when one more octet stands before them, which is no line's end
abbrev pub onto : ℕ → List (List ℕ) → List (List ℕ)
onto c [] = (c ∷ []) ∷ []
onto c (l ∷ ls) = (c ∷ l) ∷ ls

-- each line goes up to a LF, the last may have none
unfoldable pub lines : List ℕ → List (List ℕ)
lines [] = []
lines (c ∷ t) = if c == 10 then (10 ∷ []) ∷ lines t else onto c (lines t)

-- how many octets the lines have
abbrev pub size : List (List ℕ) → ℕ
size [] = 0
size (l ∷ ls) = length l + size ls

-- a delimiter line: "--", the boundary, and white space
pub record IsDelimiter (boundary line : List ℕ) : Type 0 where
  pub white : List ℕ
  pub whole : line ≡ 45 ∷ 45 ∷ (boundary ++ white)
  pub is_white : Each is_white white

-- a closing line: "--", the boundary, "--", and white space
pub record IsClosing (boundary line : List ℕ) : Type 0 where
  pub white : List ℕ
  pub whole : line ≡ 45 ∷ 45 ∷ (boundary ++ 45 ∷ 45 ∷ white)
  pub is_white : Each is_white white

-- what the line is to a multipart with this boundary
abbrev pub IsMarked : List ℕ → List ℕ → Mark → Type 0
IsMarked boundary line mark.Opens = IsDelimiter boundary line
IsMarked boundary line mark.Closes = IsClosing boundary line
IsMarked boundary line mark.Plain = (IsDelimiter boundary line → ⊥) × (IsClosing boundary line → ⊥)
