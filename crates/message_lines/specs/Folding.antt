-- Fields of a header as they are written (RFC 5322 section 2.2), and where their lines are folded.
use Rattle.std.specs.Prelude.{◌≡◌, ℕ, ◌+◌, Bool, false, ◌||◌, nat_le, if◌then◌else◌, List, [], ◌∷◌, ◌++◌, length, map}
use Rattle.std.specs.List.{flat_map}
use Rattle.message_lines.specs.declared.folding.Line.{Line}

abbrev pub crlf : List ℕ
crlf = 13 ∷ 10 ∷ []

-- a piece of a field's value, before which the line may be folded, and whether it is an encoded word
pub record FieldPiece : Type 0 where
  pub text : List ℕ
  pub encoded : Bool

abbrev pub plain_piece : List ℕ → FieldPiece
plain_piece text = record { text = text; encoded = false }

-- A line has at most 76 octets where it has an encoded word (RFC 2047 section 2), else at most 998 (RFC 5322 section 2.1.1).
abbrev pub is_short : Line → Bool
is_short line = nat_le line.width (if line.encoded then 76 else 998)

-- the line with a space and the piece after it
abbrev pub line_with : Line → FieldPiece → Line
line_with line p = record { width = line.width + 1 + length p.text; encoded = line.encoded || p.encoded }

-- a line that goes on from the one before it, and has the piece alone
abbrev pub line_of : FieldPiece → Line
line_of p = record { width = 1 + length p.text; encoded = p.encoded }

-- the line that has the piece
abbrev pub next_line : Line → FieldPiece → Line
next_line line p = if is_short (line_with line p) then line_with line p else line_of p

-- a space; it stands after the end of a line where the line would be too long
abbrev pub gap : Bool → List ℕ
gap short = if short then 32 ∷ [] else 13 ∷ 10 ∷ 32 ∷ []

-- the pieces after what the line has so far
unfoldable pub laid : Line → List FieldPiece → List ℕ
laid line [] = []
laid line (p ∷ ps) = gap (is_short (line_with line p)) ++ (p.text ++ laid (next_line line p) ps)

-- the line that they end in
unfoldable pub line_after : Line → List FieldPiece → Line
line_after line [] = line
line_after line (p ∷ ps) = line_after (next_line line p) ps

-- pieces of this kind follow the line in a text, and end in the line `after`
pub record Lays (Are : List FieldPiece → Type 0) (line : Line) (before text : List ℕ) (after : Line) : Type 0 where
  pub pieces : List FieldPiece
  pub are : Are pieces
  pub text_is : text ≡ before ++ laid line pieces
  pub line_is : after ≡ line_after line pieces

-- a field: its name, and the pieces of its value
pub record Field : Type 0 where
  pub name : List ℕ
  pub pieces : List FieldPiece

-- the line that the name and the colon begin
abbrev pub begun : List ℕ → Line
begun name = record { width = length name + 1; encoded = false }

abbrev pub field_value : Field → List ℕ
field_value f = laid (begun f.name) f.pieces

-- field = field-name ":" value CRLF
abbrev pub field_text : Field → List ℕ
field_text f = f.name ++ 58 ∷ (field_value f ++ crlf)

-- a field whose value has these pieces, none of which is an encoded word
abbrev pub field : List ℕ → List (List ℕ) → Field
field name pieces = record { name = name; pieces = map plain_piece pieces }

abbrev pub fields_text : List Field → List ℕ
fields_text fs = flat_map field_text fs
