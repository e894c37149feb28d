-- What stands at the front of a text, as functions on lists: how the code reads it.
use Rattle.std.specs.Prelude.{◌≡◌, ℕ, zero, suc, ◌+◌, ◌*◌, Bool, true, ◌==◌, if◌then◌else◌, List, [], ◌∷◌, ◌++◌, length, drop, Option, Some, None}
use Rattle.std.specs.Prelude.{option_to_list}
use Rattle.text_words.specs.Cuts.{front, back}
use Rattle.text_words.specs.LineEnds.{line_end_len}
use Rattle.text_words.specs.Octets.{is_blank, hex_value}
use Rattle.header_words.specs.EncodedWords.{Coded, IsFirst, Span, InUtf8, text_of_spans}
use Rattle.header_words.specs.declared.encoded_word.Edges.{Edges}
use Rattle.header_words.specs.declared.encoded_word.Word.{Word}
use Rattle.header_words.specs.declared.words.Spans.{Spans}
use Rattle.header_words.specs.QuotedPrintable.{Piece, right, ends_line}
use Rattle.header_words.specs.declared.quoted_printable.PieceAt.{PieceAt}

-- the octet of two hexadecimal digits
abbrev pub hex_pair : Option ℕ → Option ℕ → Option ℕ
hex_pair None y = None
hex_pair (Some a) None = None
hex_pair (Some a) (Some b) = Some (16 * a + b)

-- the octet that two hexadecimal digits at the front spell
abbrev pub hex_in : List ℕ → Option ℕ
hex_in [] = None
hex_in (h ∷ []) = None
hex_in (h ∷ l ∷ t) = hex_pair (hex_value h) (hex_value l)

abbrev pub escape_of : Option ℕ → Option (ℕ × ℕ)
escape_of None = None
escape_of (Some c) = Some (c, 3)

-- an octet in "Q", and how long its spelling is
unfoldable pub q_unit_in : List ℕ → Option (ℕ × ℕ)
q_unit_in [] = None
q_unit_in (c ∷ t) =
    if c == 95 then Some (32, 1)
    else if c == 61 then escape_of (hex_in t)
    else Some (c, 1)

-- the first encoded word of a text, and where it stands
pub record FoundAt (at : Edges) (coded : Coded) (start end : ℕ) (t : List ℕ) : Type 0 where
  pub before : List ℕ
  pub word : List ℕ
  pub behind : List ℕ
  pub first : IsFirst at coded before word behind t
  pub start_is : start ≡ length before
  pub end_is : end ≡ length before + length word

-- after an "=" without hexadecimal digits, k blanks, and an end of the line of n octets
abbrev pub break_of : ℕ → ℕ → Option (Piece × ℕ)
break_of n zero = Some (record { octets = 61 ∷ []; wrong = true }, 1)
break_of n (suc k) = Some (right [], 1 + n + suc k)

-- what an "=" begins
abbrev pub sign_of : Option ℕ → List ℕ → Option (Piece × ℕ)
sign_of (Some c) t = Some (right (c ∷ []), 3)
sign_of None t = break_of (length (front is_blank t)) (line_end_len (back is_blank t))

-- blanks at the front, and what follows them
abbrev pub blanks_of : List ℕ → List ℕ → Option (Piece × ℕ)
blanks_of blanks rest = if ends_line rest then Some (right [], length blanks) else Some (right blanks, length blanks)

-- the piece at the front of a text in quoted-printable, and how many octets it has
unfoldable pub piece_in : List ℕ → Option (Piece × ℕ)
piece_in [] = None
piece_in (c ∷ t) =
    if c == 61 then sign_of (hex_in t) t
    else if is_blank c then blanks_of (front is_blank (c ∷ t)) (back is_blank (c ∷ t))
    else Some (right (c ∷ []), 1)

-- the octets of a piece that the code read
abbrev pub octets_read : PieceAt → List ℕ
octets_read p = option_to_list p.spelled ++ p.kept.now

-- what was read at the front of a text stands for these octets, and rest follows it
pub record IsRead (read : Option (Piece × ℕ)) (text rest octets : List ℕ) (wrong : Bool) : Type 0 where
  pub piece : Piece
  pub len : ℕ
  pub read_is : read ≡ Some (piece, len)
  pub rest_is : rest ≡ drop len text
  pub wrong_is : wrong ≡ piece.wrong
  pub octets_are : octets ≡ piece.octets

-- the code read this at the front of a text
abbrev pub Reads : Option (Piece × ℕ) → List ℕ → PieceAt → Type 0
Reads read text p = IsRead read text p.rest.now (octets_read p) p.wrong

-- what the code's word spells
abbrev pub coded_of : Word → Coded
coded_of w = record { charset = w.charset; octets = w.octets.items }

-- with these spans after what was gathered, the text goes on as with none
abbrev pub Gathers : Spans → Spans → List Span → Type 0
Gathers old new more = (spans : List Span) → new.text.items ++ text_of_spans (InUtf8 new.run.items ∷ spans)
    ≡ old.text.items ++ text_of_spans (InUtf8 old.run.items ∷ (more ++ spans))
