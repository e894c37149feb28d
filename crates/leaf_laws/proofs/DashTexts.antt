-- Texts none of whose lines begins with "-": no line of theirs is a multipart's, whatever its boundary (RFC 2046 section 5.1.1).
use Rattle.std.proofs.Common.{◌≡◌, ℕ, zero, suc, Bool, true, false, not, ◌&&◌, ◌||◌, ◌==◌, List, [], ◌∷◌, ◌++◌, refl, sym, ap, ◌∙◌, subst, arith, append_assoc, cond, codes}
use Rattle.std.specs.List.{flat_map}
use Rattle.std.proofs.lemmas.Bool.{and_parts, not-true}
use Rattle.base64.specs.Engines.{standard}
use Rattle.base64.specs.GeneralPurpose.{encode_of}
use Rattle.text_words.specs.Cuts.{Each}
use Rattle.text_words.proofs.CutLemmas.{each_append}
use Rattle.header_words.specs.Base64.{is_symbol, is_equals_sign}
use Rattle.header_words.proofs.WrittenBase64.{reads_back}
use Rattle.message_lines.specs.declared.folding.Line.{Line}
use Rattle.message_lines.specs.Folding.{crlf, FieldPiece, is_short, line_with, next_line, gap, laid, Field, begun, field_value, field_text, fields_text}
use Rattle.message_lines.specs.Bodies.{in_lines, lines_of_76, base64_lines}
use Rattle.message_laws.specs.SafeTexts.{is_line_octet, is_octet}
use Rattle.message_laws.proofs.Lines.{ArePrinted}
use Rattle.message_texts.specs.Parts.{Entity, entity_text}
use Rattle.mime_tree.specs.Delimiters.{lines, onto, IsDelimiter, IsClosing}
use Rattle.mime_tree.specs.Splits.{ArePlain}

-- no line begins with "-", where `start` says that the text begins a line
abbrev pub dashless : Bool → List ℕ → Bool
dashless start [] = true
dashless start (c ∷ t) = not (start && c == 45) && dashless (c == 10) t

abbrev pub begins_dash : List ℕ → Bool
begins_dash [] = false
begins_dash (c ∷ t) = c == 45

-- the lines, all or all but the first, begin with no "-"
abbrev Heads : Bool → List (List ℕ) → Type 0
Heads start [] = Unit {0}
Heads true (l ∷ ls) = (begins_dash l ≡ false) × Heads true ls
Heads false (l ∷ ls) = Heads true ls

onto_heads : (start : Bool) (c : ℕ) (ls : List (List ℕ)) → not (start && c == 45) ≡ true → Heads false ls → Heads start (onto c ls)
onto_heads true c [] e h = (not-true (c == 45) e, tt)
onto_heads false c [] e h = tt
onto_heads true c (l ∷ ls) e h = (not-true (c == 45) e, h)
onto_heads false c (l ∷ ls) e h = h

lf_heads : (start : Bool) (ls : List (List ℕ)) → Heads true ls → Heads start ((10 ∷ []) ∷ ls)
lf_heads true ls h = (refl, h)
lf_heads false ls h = h

lines_heads : (start : Bool) (t : List ℕ) → dashless start t ≡ true → Heads start (lines t)
unfolding lines
lines_heads start [] e = tt
lines_heads start (c ∷ t) e =
    let p = and_parts (not (start && c == 45)) (dashless (c == 10) t) e in
    by (c == 10) p.0 (lines_heads (c == 10) t p.1)
  where
    by : (q : Bool) → not (start && c == 45) ≡ true → Heads q (lines t) → Heads start (cond q ((10 ∷ []) ∷ lines t) (onto c (lines t)))
    by true f h = lf_heads start (lines t) h
    by false f h = onto_heads start c (lines t) f h

head_apart : (y l : List ℕ) → begins_dash l ≡ false → (IsDelimiter y l → ⊥) × (IsClosing y l → ⊥)
head_apart y l e = (λ d. (let q = sym (ap begins_dash d.whole) ∙ e in absurd cc), λ c. (let q = sym (ap begins_dash c.whole) ∙ e in absurd cc))

heads_plain : (y : List ℕ) (ls : List (List ℕ)) → Heads true ls → ArePlain y ls
heads_plain y [] h = tt
heads_plain y (l ∷ ls) h = (head_apart y l h.0, heads_plain y ls h.1)

-- the lines of such a text are plain to every multipart
pub dashless_plain : (y t : List ℕ) → dashless true t ≡ true → ArePlain y (lines t)
dashless_plain y t e = heads_plain y (lines t) (lines_heads true t e)

-- ---- headers

no_lf : (c : ℕ) → is_line_octet c ≡ true → (c == 10) ≡ false
no_lf c e = grind arith

inner_dashless : (x t : List ℕ) → Each is_line_octet x → dashless false t ≡ true → dashless false (x ++ t) ≡ true
inner_dashless [] t e f = f
inner_dashless (c ∷ x) t e f = ap (λ (q : Bool). dashless q (x ++ t)) (no_lf c e.0) ∙ inner_dashless x t e.1 f

gap_dashless : (short : Bool) (t : List ℕ) → dashless false t ≡ true → dashless false (gap short ++ t) ≡ true
gap_dashless true t e = e
gap_dashless false t e = e

laid_dashless : (line : Line) (ps : List FieldPiece) (t : List ℕ) → ArePrinted ps → dashless false t ≡ true → dashless false (laid line ps ++ t) ≡ true
unfolding laid
laid_dashless line [] t e f = f
laid_dashless line (p ∷ ps) t e f =
    let g = gap (is_short (line_with line p)) in
    let more = laid (next_line line p) ps in
    subst (λ (u : List ℕ). dashless false u ≡ true) (sym (append_assoc g (p.text ++ more) t ∙ ap (λ (u : List ℕ). g ++ u) (append_assoc p.text more t)))
    (gap_dashless (is_short (line_with line p)) (p.text ++ (more ++ t)) (inner_dashless p.text (more ++ t) e.0 (laid_dashless (next_line line p) ps t e.1 f)))

-- a field whose name begins with no "-"
pub record IsDashless (f : Field) : Type 0 where
  pub first : begins_dash f.name ≡ false
  pub name : Each is_line_octet f.name
  pub pieces : ArePrinted f.pieces

abbrev pub AreDashless : List Field → Type 0
AreDashless [] = Unit {0}
AreDashless (f ∷ fs) = IsDashless f × AreDashless fs

field_dashless : (f : Field) (t : List ℕ) → IsDashless f → dashless true t ≡ true → dashless true (field_text f ++ t) ≡ true
field_dashless f t i d = by f.name i.first i.name
  where
    rest : List ℕ
    rest = field_value f ++ (crlf ++ t)

    value : dashless false (58 ∷ rest) ≡ true
    value = laid_dashless (begun f.name) f.pieces (crlf ++ t) i.pieces d

    whole : (x : List ℕ) → (x ++ 58 ∷ (field_value f ++ crlf)) ++ t ≡ x ++ 58 ∷ rest
    whole x = append_assoc x (58 ∷ (field_value f ++ crlf)) t ∙ ap (λ (u : List ℕ). x ++ 58 ∷ u) (append_assoc (field_value f) crlf t)

    by : (x : List ℕ) → begins_dash x ≡ false → Each is_line_octet x → dashless true ((x ++ 58 ∷ (field_value f ++ crlf)) ++ t) ≡ true
    by [] b n = ap (dashless true) (whole []) ∙ value
    by (c ∷ x) b n =
        ap (dashless true) (whole (c ∷ x))
        ∙ ap (λ (q : Bool). not q && dashless (c == 10) (x ++ 58 ∷ rest)) b
        ∙ ap (λ (q : Bool). dashless q (x ++ 58 ∷ rest)) (no_lf c n.0)
        ∙ inner_dashless x (58 ∷ rest) n.1 value

pub fields_dashless : (fs : List Field) (t : List ℕ) → AreDashless fs → dashless true t ≡ true → dashless true (fields_text fs ++ t) ≡ true
fields_dashless [] t a d = d
fields_dashless (f ∷ fs) t a d =
    subst (λ (u : List ℕ). dashless true u ≡ true) (sym (append_assoc (field_text f) (fields_text fs) t)) (field_dashless f (fields_text fs ++ t) a.0 (fields_dashless fs t a.1 d))

-- ---- bodies in base64

abbrev is_base64_octet : ℕ → Bool
is_base64_octet c = is_symbol c || c == 61

octet_facts : (c : ℕ) → is_base64_octet c ≡ true → ((c == 45) ≡ false) × ((c == 10) ≡ false)
octet_facts c e = (grind arith, grind arith)

no_dash : (start q : Bool) → q ≡ false → not (start && q) ≡ true
no_dash true q e = ap not e
no_dash false q e = refl

octet_dashless : (start : Bool) (c : ℕ) (t : List ℕ) → is_base64_octet c ≡ true → dashless false t ≡ true → dashless start (c ∷ t) ≡ true
octet_dashless start c t e h =
    let f = octet_facts c e in
    ap (λ (q : Bool). q && dashless (c == 10) t) (no_dash start (c == 45) f.0) ∙ ap (λ (q : Bool). dashless q t) f.1 ∙ h

lines_dashless : (room : ℕ) (t : List ℕ) → Each is_base64_octet t → dashless false (in_lines room t) ≡ true
unfolding in_lines
lines_dashless room [] e = refl
lines_dashless zero (c ∷ t) e = octet_dashless true c (in_lines 75 t) e.0 (lines_dashless 75 t e.1)
lines_dashless (suc room) (c ∷ t) e = octet_dashless false c (in_lines room t) e.0 (lines_dashless room t e.1)

symbol_octet : (c : ℕ) → is_symbol c ≡ true → is_base64_octet c ≡ true
symbol_octet c e = ap (λ (q : Bool). q || c == 61) e

equals_octet : (c : ℕ) → is_equals_sign c ≡ true → is_base64_octet c ≡ true
equals_octet c e = by (is_symbol c) e
  where
    by : (q : Bool) → (c == 61) ≡ true → (q || c == 61) ≡ true
    by true f = refl
    by false f = f

each_by : (p q : ℕ → Bool) (t : List ℕ) → ((c : ℕ) → p c ≡ true → q c ≡ true) → Each p t → Each q t
each_by p q [] w e = tt
each_by p q (c ∷ t) w e = (w c e.0, each_by p q t w e.1)

encoded_octets : (octets : List ℕ) → Each is_octet octets → Each is_base64_octet (encode_of standard octets)
encoded_octets octets o =
    let b = reads_back octets o in
    subst (λ (u : List ℕ). Each is_base64_octet u) (sym b.whole)
    (each_append is_base64_octet b.symbols b.padding (each_by is_symbol is_base64_octet b.symbols symbol_octet b.alphabet) (each_by is_equals_sign is_base64_octet b.padding equals_octet b.equals))

pub body_dashless : (octets : List ℕ) → Each is_octet octets → dashless true (base64_lines octets) ≡ true
unfolding base64_lines lines_of_76
body_dashless octets o = by (encode_of standard octets) (encoded_octets octets o)
  where
    by : (t : List ℕ) → Each is_base64_octet t → dashless true (lines_of_76 t) ≡ true
    by [] e = refl
    by (c ∷ t) e = octet_dashless true c (in_lines 75 t) e.0 (lines_dashless 75 t e.1)

-- an entity with such a header and such a body
pub entity_dashless : (e : Entity) → AreDashless e.fields → dashless true e.body ≡ true → dashless true (entity_text e) ≡ true
entity_dashless e a d = fields_dashless e.fields (crlf ++ e.body) a d
