-- Names of mailboxes as they are written (RFC 5322 section 3.4).
use Rattle.std.specs.Prelude.{◌≡◌, ℕ, Bool, true, false, not, ◌||◌, ◌&&◌, ◌==◌, nat_le, if◌then◌else◌, List, [], ◌∷◌, length, map}
use Rattle.std.specs.List.{list_all}
use Rattle.text_words.specs.Octets.{is_digit, is_alpha}
use Rattle.message_lines.specs.declared.folding.Line.{Line}
use Rattle.message_lines.specs.Folding.{FieldPiece, plain_piece}
use Rattle.message_lines.specs.Words.{AreWordsBehind}

-- a letter or a digit of ASCII
abbrev pub is_word_octet : ℕ → Bool
is_word_octet c = is_alpha c || is_digit c

abbrev pub is_no_space : ℕ → Bool
is_no_space c = not (c == 32)

abbrev pub onto_first : ℕ → List (List ℕ) → List (List ℕ)
onto_first c [] = (c ∷ []) ∷ []
onto_first c (w ∷ ws) = (c ∷ w) ∷ ws

-- what stands between single spaces
abbrev pub words_of : List ℕ → List (List ℕ)
words_of [] = [] ∷ []
words_of (c ∷ t) = if c == 32 then [] ∷ words_of t else onto_first c (words_of t)

abbrev pub is_plain_word : List ℕ → Bool
is_plain_word [] = false
is_plain_word (c ∷ t) = list_all is_word_octet (c ∷ t)

-- one or more words of letters and digits with one space between two
abbrev pub are_plain_words : List ℕ → Bool
are_plain_words name = list_all is_plain_word (words_of name)

-- The same, short enough that each word fits in a line (RFC 5322 section 2.1.1): a longer one has to be encoded, in which it can be folded.
abbrev pub is_plain_phrase : List ℕ → Bool
is_plain_phrase name = are_plain_words name && nat_le (length name) 997

-- a name is its words, or encoded words
pub data IsNameText (line : Line) (name : List ℕ) : List FieldPiece → Type 0 where
  PlainName : is_plain_phrase name ≡ true → IsNameText line name (map plain_piece (words_of name))
  EncodedName : (ps : List FieldPiece) → is_plain_phrase name ≡ false → AreWordsBehind line name ps → IsNameText line name ps
