-- Lines of octets that break none, and what is put together of them.
use Rattle.std.proofs.Common.{◌≡◌, ℕ, ◌≤◌, Bool, true, false, not, ◌||◌, List, [], ◌∷◌, ◌++◌, length, refl, ap, arith}
use Rattle.std.specs.Prelude.{nat_le}
use Rattle.std.specs.List.{list_all, list_any}
use Rattle.std.specs.Str.{is_utf8}
use Rattle.std.proofs.lemmas.Bool.{and_parts, leb-true}
use Rattle.text_words.specs.Cuts.{Each, IsRun}
use Rattle.text_words.proofs.CutLemmas.{list_all_each}
use Rattle.header_words.specs.EncodedWords.{is_control}
use Rattle.mail_header.specs.Fields.{is_name}
use Rattle.mail_drafts.specs.Lines.{is_line}
use Rattle.message_lines.specs.declared.folding.Line.{Line}
use Rattle.message_lines.specs.Folding.{FieldPiece, Field, laid, next_line, line_with, is_short, gap, crlf, begun, field, field_text, fields_text}
use Rattle.message_texts.specs.Parts.{Entity, entity_text}
use Rattle.message_laws.specs.SafeTexts.{is_line_octet, IsLines, NoOctet, InLine, LineEnd}

-- ---- texts

pub append_lines : (s t : List ℕ) → IsLines s → IsLines t → IsLines (s ++ t)
append_lines _ t NoOctet b = b
append_lines _ t (InLine c s e a) b = InLine c (s ++ t) e (append_lines s t a b)
append_lines _ t (LineEnd s a) b = LineEnd (s ++ t) (append_lines s t a b)

-- octets of one line
pub one_line : (t : List ℕ) → Each is_line_octet t → IsLines t
one_line [] e = NoOctet
one_line (c ∷ t) e = InLine c t e.0 (one_line t e.1)

pub line_end : IsLines crlf
line_end = LineEnd [] NoOctet

-- a text of ASCII, by computing
pub printed : (t : List ℕ) → list_all is_line_octet t ≡ true → Each is_line_octet t
printed t e = list_all_each is_line_octet t e

-- ---- pieces and fields

abbrev pub ArePrinted : List FieldPiece → Type 0
ArePrinted [] = Unit {0}
ArePrinted (p ∷ ps) = Each is_line_octet p.text × ArePrinted ps

gap_lines : (b : Bool) → IsLines (gap b)
gap_lines true = InLine 32 [] refl NoOctet
gap_lines false = LineEnd (32 ∷ []) (InLine 32 [] refl NoOctet)

pub laid_lines : (line : Line) (ps : List FieldPiece) → ArePrinted ps → IsLines (laid line ps)
unfolding laid
laid_lines line [] a = NoOctet
laid_lines line (p ∷ ps) a =
    append_lines (gap (is_short (line_with line p))) (p.text ++ laid (next_line line p) ps) (gap_lines (is_short (line_with line p)))
    (append_lines p.text (laid (next_line line p) ps) (one_line p.text a.0) (laid_lines (next_line line p) ps a.1))

pub pieces_append : (ps qs : List FieldPiece) → ArePrinted ps → ArePrinted qs → ArePrinted (ps ++ qs)
pieces_append [] qs a b = b
pieces_append (p ∷ ps) qs a b = (a.0, pieces_append ps qs a.1 b)

-- fields with names, and printed pieces
pub record IsPrintedField (f : Field) : Type 0 where
  pub name : IsRun is_name f.name
  pub pieces : ArePrinted f.pieces

abbrev pub ArePrintedFields : List Field → Type 0
ArePrintedFields [] = Unit {0}
ArePrintedFields (f ∷ fs) = IsPrintedField f × ArePrintedFields fs

name_octet : (c : ℕ) → is_name c ≡ true → is_line_octet c ≡ true
name_octet c e = grind arith

name_octets : (t : List ℕ) → Each is_name t → Each is_line_octet t
name_octets [] e = tt
name_octets (c ∷ t) e = (name_octet c e.0, name_octets t e.1)

-- a name of ASCII, by computing
pub named : (t : List ℕ) → list_all is_name t ≡ true → nat_le 1 (length t) ≡ true → IsRun is_name t
named t e f =
    let some : 1 ≤ length t = leb-true 1 (length t) f in
    (list_all_each is_name t e, λ (n : t ≡ []). omega (arith, ap length n))

field_lines : (f : Field) → IsPrintedField f → IsLines (field_text f)
field_lines f p =
    let value = laid (begun f.name) f.pieces in
    append_lines f.name (58 ∷ (value ++ crlf)) (one_line f.name (name_octets f.name p.name.0))
    (InLine 58 (value ++ crlf) refl (append_lines value crlf (laid_lines (begun f.name) f.pieces p.pieces) line_end))

pub fields_lines : (fs : List Field) → ArePrintedFields fs → IsLines (fields_text fs)
fields_lines [] a = NoOctet
fields_lines (f ∷ fs) a = append_lines (field_text f) (fields_text fs) (field_lines f a.0) (fields_lines fs a.1)

pub fields_append : (fs gs : List Field) → ArePrintedFields fs → ArePrintedFields gs → ArePrintedFields (fs ++ gs)
fields_append [] gs a b = b
fields_append (f ∷ fs) gs a b = (a.0, fields_append fs gs a.1 b)

-- an entity with such fields
pub record IsSafeEntity (e : Entity) : Type 0 where
  pub fields : ArePrintedFields e.fields
  pub body : IsLines e.body

pub entity_lines : (e : Entity) → IsSafeEntity e → IsLines (entity_text e)
entity_lines e s = append_lines (fields_text e.fields) (crlf ++ e.body) (fields_lines e.fields s.fields) (append_lines crlf e.body line_end s.body)

-- a field of one printed piece
pub printed_field : (name value : List ℕ) → IsRun is_name name → Each is_line_octet value → IsPrintedField (field name (value ∷ []))
printed_field name value n v = record { name = n; pieces = (v, tt) }

-- ---- octets

pub line_octet : (c : ℕ) → is_control c ≡ false → is_line_octet c ≡ true
line_octet c e = grind arith

no_control : (t : List ℕ) → list_any is_control t ≡ false → Each is_line_octet t
no_control [] e = tt
no_control (c ∷ t) e = by (is_control c) refl e (no_control t)
  where
    by : (b : Bool) → is_control c ≡ b → (b || list_any is_control t) ≡ false → (list_any is_control t ≡ false → Each is_line_octet t) → Each is_line_octet (c ∷ t)
    by true f g more = absurd cc
    by false f g more = (line_octet c f, more g)

-- a line has no control character
pub line_printed : (t : List ℕ) → is_line t ≡ true → Each is_line_octet t
line_printed t e = of (list_any is_control t) refl (and_parts (is_utf8 t) (not (list_any is_control t)) e).1
  where
    of : (b : Bool) → list_any is_control t ≡ b → not b ≡ true → Each is_line_octet t
    of true f g = absurd cc
    of false f g = no_control t f
