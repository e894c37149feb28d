-- How the code finds the lines of a header.
use Rattle.std.specs.Prelude.{◌≡◌, ◌≢◌, ℕ, suc, ◌<◌, Bool, ◌&&◌, ◌||◌, ◌==◌, if◌then◌else◌, ◌⊎◌, List, [], ◌∷◌, ◌++◌, take, drop, Option, option_to_list}
use Rattle.text_words.specs.LineEnds.{begins_with_lf, line_end_len}
use Rattle.mail_header.specs.Bracketed.{IsBracketPiece}
use Rattle.mail_header.specs.Fields.{ends_block, NameAndRaw, IsField, last_named}

-- how many octets the block at the front has
abbrev pub block_len : List ℕ → ℕ
block_len [] = 0
block_len (c ∷ t) = if ends_block c t then 1 else suc (block_len t)

-- the block's field was added, where it is one
pub data AddsField (block : List ℕ) (old : List NameAndRaw) : List NameAndRaw → Type 0 where
  Added : (name raw : List ℕ) → IsField name raw block → AddsField block old (old ++ (name, raw) ∷ [])
  Passed : ((name raw : List ℕ) → IsField name raw block → ⊥) → AddsField block old old

-- a header ends before the text: at its end, or at an empty line
abbrev pub EndsHeader : List ℕ → Type 0
EndsHeader t = (t ≡ []) ⊎ (0 < line_end_len t)

-- the block at the front of a text, and what follows it
pub record IsBlockAt (t block rest : List ℕ) : Type 0 where
  pub some : t ≢ []
  pub no_end : line_end_len t ≡ 0
  pub block_is : block ≡ take (block_len t) t
  pub rest_is : rest ≡ drop (block_len t) t

-- with the block, the last field of this name is `new`, where it was `old` before
abbrev pub LaterField : List ℕ → List ℕ → Option (List ℕ) → Option (List ℕ) → Type 0
LaterField name block old new = (fs : List NameAndRaw) → old ≡ last_named name fs → (more : List NameAndRaw) × AddsField block fs more
    × (new ≡ last_named name more)

-- what stands at the front of a text was added to the names, and rest follows it
pub record TakesBlock (text rest : List ℕ) (old new : List (List ℕ)) : Type 0 where
  pub value : Option (List ℕ)
  pub unit : List ℕ
  pub whole : text ≡ unit ++ rest
  pub is : IsBracketPiece value unit rest
  pub added : new ≡ old ++ option_to_list value

-- the octet is one of a line end, where more follows it
abbrev pub is_of_line_end : ℕ → List ℕ → Bool
is_of_line_end c more = c == 10 || (c == 13 && begins_with_lf more)

abbrev pub kept_header_octet : ℕ → List ℕ → List ℕ
kept_header_octet c more = if is_of_line_end c more then [] else c ∷ []
