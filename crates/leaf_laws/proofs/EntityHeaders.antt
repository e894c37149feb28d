-- The header of an entity that is written is read as its fields, also where no empty line ends it.
use Rattle.std.proofs.Common.{◌≡◌, ℕ, ◌+◌, Bool, true, false, not, ◌&&◌, ◌==◌, List, [], ◌∷◌, ◌++◌, length, map, refl, sym, ap, ◌∙◌, subst, arith, append_assoc, inl, eqb}
use Rattle.std.specs.List.{flat_map, list_all}
use Rattle.std.proofs.lemmas.Bool.{and_parts, and_from, not-true}
use Rattle.std.proofs.lemmas.List.{append-nil, length-append}
use Rattle.text_words.specs.Cuts.{Each, IsRun}
use Rattle.text_words.specs.LineEnds.{CrLf}
use Rattle.text_words.specs.Octets.{is_blank}
use Rattle.text_words.specs.Sequence.{Sequence}
use Rattle.mail_header.specs.Fields.{is_name, IsField, begins_with_blank, ends_block, IsBlock, Part, AField, Body, IsPart, ThisField, ThisBody, NameAndRaw, field_in, body_in, IsHeader}
use Rattle.mail_header.proofs.LineLemmas.{crlf_lost}
use Rattle.message_lines.specs.declared.folding.Line.{Line}
use Rattle.message_lines.specs.Folding.{crlf, FieldPiece, is_short, line_with, next_line, gap, laid, Field, begun, field_value, field_text, fields_text}
use Rattle.message_texts.specs.Parts.{Entity, entity_text}
use Rattle.message_laws.specs.SafeTexts.{is_line_octet}
use Rattle.message_laws.specs.Headers.{read_field}
use Rattle.message_laws.proofs.Lines.{ArePrinted, IsPrintedField, ArePrintedFields}

abbrev is_no_lf : ℕ → Bool
is_no_lf c = not (c == 10)

no_lf : (c : ℕ) → is_line_octet c ≡ true → is_no_lf c ≡ true
no_lf c e = grind arith

no_lfs : (t : List ℕ) → Each is_line_octet t → list_all is_no_lf t ≡ true
no_lfs [] e = refl
no_lfs (c ∷ t) e = and_from (is_no_lf c) (list_all is_no_lf t) (no_lf c e.0) (no_lfs t e.1)

-- ---- values whose lines go on

-- each end of a line has white space behind it
abbrev goes_on : List ℕ → Bool
goes_on [] = true
goes_on (c ∷ t) = not (ends_block c t) && goes_on t

no_lf_ends_none : (c : ℕ) (t : List ℕ) → is_no_lf c ≡ true → not (ends_block c t) ≡ true
no_lf_ends_none c t e = by (eqb c 10) e
  where
    by : (q : Bool) → not q ≡ true → not (q && not (begins_with_blank t)) ≡ true
    by true f = absurd cc
    by false f = refl

no_lf_goes_on : (x t : List ℕ) → list_all is_no_lf x ≡ true → goes_on t ≡ true → goes_on (x ++ t) ≡ true
no_lf_goes_on [] t e f = f
no_lf_goes_on (c ∷ x) t e f =
    let p = and_parts (is_no_lf c) (list_all is_no_lf x) e in
    and_from (not (ends_block c (x ++ t))) (goes_on (x ++ t)) (no_lf_ends_none c (x ++ t) p.0) (no_lf_goes_on x t p.1 f)

gap_goes_on : (short : Bool) (t : List ℕ) → goes_on t ≡ true → goes_on (gap short ++ t) ≡ true
gap_goes_on true t e = e
gap_goes_on false t e = e

laid_goes_on : (line : Line) (ps : List FieldPiece) → ArePrinted ps → goes_on (laid line ps) ≡ true
unfolding laid
laid_goes_on line [] e = refl
laid_goes_on line (p ∷ ps) e =
    gap_goes_on (is_short (line_with line p)) _ (no_lf_goes_on p.text (laid (next_line line p) ps) (no_lfs p.text e.0) (laid_goes_on (next_line line p) ps e.1))

-- ---- blocks

-- a text whose lines go on is a block with the end of its last line, where no white space follows
block_of : (v rest : List ℕ) → goes_on v ≡ true → begins_with_blank rest ≡ false → IsBlock (v ++ crlf) rest
block_of [] rest e b = (refl, inl (ap not b))
block_of (c ∷ []) rest e b =
    let p = and_parts (not (ends_block c [])) true e in
    (not-true (ends_block c []) p.0, block_of [] rest refl b)
block_of (c ∷ d ∷ t) rest e b =
    let p = and_parts (not (ends_block c (d ∷ t))) (goes_on (d ∷ t)) e in
    (not-true (ends_block c (d ∷ t)) p.0, block_of (d ∷ t) rest p.1 b)

name_in_line : (c : ℕ) → is_name c ≡ true → is_no_lf c ≡ true
name_in_line c e = grind arith

names_in_line : (x : List ℕ) → Each is_name x → list_all is_no_lf x ≡ true
names_in_line [] e = refl
names_in_line (c ∷ x) e = and_from (is_no_lf c) (list_all is_no_lf x) (name_in_line c e.0) (names_in_line x e.1)

name_no_blank : (c : ℕ) → is_name c ≡ true → is_blank c ≡ false
name_no_blank c e = grind arith

name_begins : (x t : List ℕ) → IsRun is_name x → begins_with_blank (x ++ t) ≡ false
name_begins [] t r = absurd (r.1 refl)
name_begins (c ∷ x) t r = name_no_blank c r.0.0

line_of_field : (f : Field) → IsPrintedField f → goes_on (f.name ++ 58 ∷ field_value f) ≡ true
line_of_field f w = no_lf_goes_on f.name (58 ∷ field_value f) (names_in_line f.name w.name.0) (laid_goes_on (begun f.name) f.pieces w.pieces)

field_block : (f : Field) (rest : List ℕ) → IsPrintedField f → begins_with_blank rest ≡ false → IsBlock (field_text f) rest
field_block f rest w b =
    subst (λ (u : List ℕ). IsBlock u rest) (append_assoc f.name (58 ∷ field_value f) crlf) (block_of (f.name ++ 58 ∷ field_value f) rest (line_of_field f w) b)

field_is : (f : Field) → IsPrintedField f → IsField f.name (field_value f) (field_text f)
field_is f w = record {
  blanks = [];
  value = field_value f ++ crlf;
  whole = refl;
  is_named = w.name;
  are_blank = tt;
  raw_is = sym (crlf_lost (field_value f) 13 10 refl);
}

-- ---- headers

abbrev as_part : Field → Part
as_part f = AField f.name (field_value f)

fields_begin : (fs : List Field) (rest : List ℕ) → ArePrintedFields fs → begins_with_blank rest ≡ false → begins_with_blank (fields_text fs ++ rest) ≡ false
fields_begin [] rest w b = b
fields_begin (f ∷ fs) rest w b =
    subst (λ (u : List ℕ). begins_with_blank u ≡ false)
    (sym (append_assoc (field_text f) (fields_text fs) rest ∙ append_assoc f.name (58 ∷ (field_value f ++ crlf)) (fields_text fs ++ rest))) (name_begins f.name _ w.0.name)

fields_read : (fs : List Field) (more : List Part) (rest : List ℕ) → ArePrintedFields fs → begins_with_blank rest ≡ false → Sequence IsPart more rest
    → Sequence IsPart (map as_part fs ++ more) (fields_text fs ++ rest)
fields_read [] more rest w b s = s
fields_read (f ∷ fs) more rest w b s = record {
  unit = field_text f;
  rest = fields_text fs ++ rest;
  whole = append_assoc (field_text f) (fields_text fs) rest;
  is = ThisField f.name (field_value f) (field_text f) (fields_text fs ++ rest) (field_is f w.0) (field_block f (fields_text fs ++ rest) w.0 (fields_begin fs rest w.1 b));
  more = fields_read fs more rest w.1 b s;
}

fields_of : (fs : List Field) (more : List Part) → flat_map field_in (map as_part fs ++ more) ≡ map read_field fs ++ flat_map field_in more
fields_of [] more = refl
fields_of (f ∷ fs) more = ap (λ (u : List NameAndRaw). read_field f ∷ u) (fields_of fs more)

no_bodies : (fs : List Field) (more : List Part) → flat_map body_in (map as_part fs ++ more) ≡ flat_map body_in more
no_bodies [] more = refl
no_bodies (f ∷ fs) more = no_bodies fs more

-- an entity's header has its fields, and ends before its body
pub entity_header : (e : Entity) → ArePrintedFields e.fields → IsHeader (map read_field e.fields) (length (fields_text e.fields) + 2) (entity_text e)
entity_header e w = record {
  parts = map as_part e.fields ++ Body e.body ∷ [];
  are = fields_read e.fields (Body e.body ∷ []) (13 ∷ 10 ∷ e.body) w refl (record {
    unit = 13 ∷ 10 ∷ e.body;
    rest = [];
    whole = sym (append-nil (13 ∷ 10 ∷ e.body));
    is = ThisBody crlf e.body CrLf;
    more = refl;
  });
  fields_are = sym (fields_of e.fields (Body e.body ∷ []) ∙ append-nil (map read_field e.fields));
  end_is = omega (arith, ap length (no_bodies e.fields (Body e.body ∷ []) ∙ append-nil e.body), length-append (fields_text e.fields) (13 ∷ 10 ∷ e.body));
}

-- a header without an empty line has its fields, and ends with them
pub fields_header : (fs : List Field) → ArePrintedFields fs → IsHeader (map read_field fs) (length (fields_text fs)) (fields_text fs)
fields_header fs w = record {
  parts = map as_part fs;
  are = subst (λ (u : List ℕ). Sequence IsPart (map as_part fs) u) (append-nil (fields_text fs))
      (subst (λ (u : List Part). Sequence IsPart u (fields_text fs ++ [])) (append-nil (map as_part fs)) (fields_read fs [] [] w refl refl));
  fields_are = sym (ap (flat_map field_in) (sym (append-nil (map as_part fs))) ∙ fields_of fs [] ∙ append-nil (map read_field fs));
  end_is = omega (arith, ap length (ap (flat_map body_in) (sym (append-nil (map as_part fs))) ∙ no_bodies fs []));
}
