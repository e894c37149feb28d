-- Texts written as encoded words (RFC 2047 sections 2 and 5). A line takes as many whole characters as it has room for.
use Rattle.std.specs.Prelude.{◌≡◌, ◌≢◌, ℕ, ◌-◌, ◌≤◌, true, List, [], ◌∷◌, ◌++◌, length}
use Rattle.std.specs.Str.{IsUtf8}
use Rattle.header_words.specs.WordList.{utf8_word}
use Rattle.message_lines.specs.declared.folding.Line.{Line}
use Rattle.message_lines.specs.Folding.{FieldPiece, next_line}

-- the encoded word of these octets
abbrev pub word_piece : List ℕ → FieldPiece
word_piece octets = record { text = utf8_word octets; encoded = true }

-- how many octets a word may have that stands behind a space in a line of 76, where the line has so many already
abbrev pub room_behind : ℕ → ℕ
room_behind width = 75 - width

-- One character at least at the front of a text, and what follows it: no character is cut, and the word has room.
pub record Fits (room : ℕ) (piece rest text : List ℕ) : Type 0 where
  pub whole : text ≡ piece ++ rest
  pub some : piece ≢ []
  pub characters : IsUtf8 piece
  pub characters_behind : IsUtf8 rest
  pub fits : length (utf8_word piece) ≤ room

-- The longest piece that has room, which is empty where no character has.
pub record IsCut (room : ℕ) (piece rest text : List ℕ) : Type 0 where
  pub whole : text ≡ piece ++ rest
  pub characters : IsUtf8 piece
  pub characters_behind : IsUtf8 rest
  pub fits : piece ≢ [] → length (utf8_word piece) ≤ room
  pub longest : (other behind : List ℕ) → Fits room other behind text → length other ≤ length piece

-- the longest such piece
pub record FitsBest (room : ℕ) (piece rest text : List ℕ) : Type 0 where
  pub is : Fits room piece rest text
  pub longest : (other behind : List ℕ) → Fits room other behind text → length other ≤ length piece

-- no character has room
abbrev pub FitsNot : ℕ → List ℕ → Type 0
FitsNot room text = (piece rest : List ℕ) → Fits room piece rest text → ⊥

-- the text's longest piece that has room behind the line, or else in a line of its own
pub data IsNextPiece (line : Line) (piece rest text : List ℕ) : Type 0 where
  Behind : FitsBest (room_behind line.width) piece rest text → IsNextPiece line piece rest text
  Below : FitsNot (room_behind line.width) text → FitsBest (room_behind 0) piece rest text → IsNextPiece line piece rest text

-- the words of a text behind a line; the empty text has none
pub data AreWordsBehind : Line → List ℕ → List FieldPiece → Type 0 where
  NoWord : (line : Line) → AreWordsBehind line [] []
  NextWord : (line : Line) (piece rest text : List ℕ) (ps : List FieldPiece) → IsNextPiece line piece rest text → AreWordsBehind (next_line line (word_piece piece)) rest ps
      → AreWordsBehind line text (word_piece piece ∷ ps)
