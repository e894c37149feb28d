-- Subjects as they are written (RFC 5322 section 3.6.5).
use Rattle.std.specs.Prelude.{◌≡◌, ℕ, Bool, true, false, not, ◌&&◌, ◌==◌, nat_le, if◌then◌else◌, List, [], ◌∷◌, length, map}
use Rattle.std.specs.List.{list_all}
use Rattle.text_words.specs.Octets.{is_between}
use Rattle.header_words.specs.EncodedWords.{is_control}
use Rattle.message_lines.specs.declared.folding.Line.{Line}
use Rattle.message_lines.specs.Folding.{FieldPiece, plain_piece}
use Rattle.message_lines.specs.Words.{AreWordsBehind}

-- a control character is written as a space
abbrev pub shown_octet : ℕ → ℕ
shown_octet c = if is_control c then 32 else c

abbrev pub shown_subject : List ℕ → List ℕ
shown_subject s = map shown_octet s

abbrev pub begins_with : ℕ → List ℕ → Bool
begins_with octet [] = false
begins_with octet (c ∷ t) = c == octet

-- "=?", which begins an encoded word, stands in the text
abbrev pub has_word_mark : List ℕ → Bool
has_word_mark [] = false
has_word_mark (c ∷ t) = if c == 61 && begins_with 63 t then true else has_word_mark t

-- A subject that reads as it stands in its line: printed octets of ASCII, with no space at the front and no mark of an
-- encoded word, and no more of them than the line has room for.
abbrev pub is_plain_subject : List ℕ → Bool
is_plain_subject s = list_all (is_between 32 126) s && not (begins_with 32 s) && not (has_word_mark s) && nat_le (length s) 989

-- a subject is one piece as it stands, or encoded words
pub data IsSubject (line : Line) (s : List ℕ) : List FieldPiece → Type 0 where
  PlainSubject : is_plain_subject (shown_subject s) ≡ true → IsSubject line s (plain_piece (shown_subject s) ∷ [])
  EncodedSubject : (ps : List FieldPiece) → is_plain_subject (shown_subject s) ≡ false → AreWordsBehind line (shown_subject s) ps → IsSubject line s ps
