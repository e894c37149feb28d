-- Ids that are written are read as they are.
use Rattle.std.proofs.Common.{zero, suc, ◌+◌, ◌/◌, ◌%◌, ◌<◌, cond, codes, ◌≡◌, ◌≢◌, ℕ, ◌≤◌, Bool, true, false, not, ◌&&◌, ◌||◌, List, [], ◌∷◌, ◌++◌, length, map, IsUtf8, refl, sym, ap, subst, arith, eqb, Some, None}
use Rattle.std.specs.Prelude.{nat_le}
use Rattle.std.proofs.lemmas.List.{length-append}
use Rattle.std.specs.List.{list_all, list_any}
use Rattle.std.specs.Str.{is_utf8}
use Rattle.std.proofs.lemmas.Bool.{and_parts, leb-true, leb-false}
use Rattle.std.proofs.lemmas.Str.{IsUtf8-nil, IsUtf8-from_ascii, IsUtf8-from_is_utf8}
use Rattle.std.proofs.lemmas.Str.Ascii.{IsAscii-nil, IsAscii-cons}
use Rattle.text_words.specs.Cuts.{Each, IsRun}
use Rattle.text_words.specs.Octets.{is_between}
use Rattle.text_words.proofs.CutLemmas.{each_append, list_all_each}
use Rattle.header_words.specs.EncodedWords.{is_control}
use Rattle.mail_header.specs.Bracketed.{is_bracketed_octet, IsBracketPiece, InBrackets, Passed, HasPieces, IsNamesForm}
use Rattle.mail_header.specs.RawForms.{is_no_zero, raw_form}
use Rattle.mail_drafts.specs.Identifiers.{ends_identifier, is_identifier}
use Rattle.mail_drafts.specs.Lines.{is_line}
use Rattle.message_lines.specs.declared.folding.Line.{Line}
use Rattle.message_lines.specs.Folding.{FieldPiece, gap, is_short, laid, line_with, next_line}
use Rattle.message_lines.specs.Ids.{AreIdTexts, bracketed, drawn_id, hex_digit, hex_digits, id_piece}
use Rattle.message_laws.proofs.DateReading.{clean_text}
use Rattle.message_laws.proofs.RawLines.{IsClean, clean_append, clean_gap, raw_is}

-- ---- octets of an id

bracketed_octet : (c : ℕ) → is_control c ≡ false → ends_identifier c ≡ false → is_bracketed_octet c ≡ true
bracketed_octet c e f = grind arith

-- what none of the octets is
none_of : (p : ℕ → Bool) (t : List ℕ) → not (list_any p t) ≡ true → Each (λ (c : ℕ). not (p c)) t
none_of p [] e = tt
none_of p (c ∷ t) e = by (p c) refl e (none_of p t)
  where
    by : (b : Bool) → p c ≡ b → not (b || list_any p t) ≡ true → (not (list_any p t) ≡ true → Each (λ (k : ℕ). not (p k)) t) → Each (λ (k : ℕ). not (p k)) (c ∷ t)
    by true f g more = absurd cc
    by false f g more = (ap not f, more g)

falsehood : (q : Bool) → not q ≡ true → q ≡ false
falsehood true e = absurd cc
falsehood false e = refl

each_bracketed : (t : List ℕ) → Each (λ (c : ℕ). not (is_control c)) t → Each (λ (c : ℕ). not (ends_identifier c)) t → Each is_bracketed_octet t
each_bracketed [] a b = tt
each_bracketed (c ∷ t) a b = (bracketed_octet c (falsehood (is_control c) a.0) (falsehood (ends_identifier c) b.0), each_bracketed t a.1 b.1)

no_zero_octet : (c : ℕ) → is_control c ≡ false → is_no_zero c ≡ true
no_zero_octet c e = grind arith

no_zeros : (t : List ℕ) → Each (λ (c : ℕ). not (is_control c)) t → Each is_no_zero t
no_zeros [] a = tt
no_zeros (c ∷ t) a = (no_zero_octet c (falsehood (is_control c) a.0), no_zeros t a.1)

-- an id, as a reader sees it
record IsReadId (id : List ℕ) : Type 0 where
  inner : IsRun is_bracketed_octet id
  utf8 : IsUtf8 id
  no_zero : Each is_no_zero id

read_id : (id : List ℕ) → is_identifier id ≡ true → IsReadId id
read_id id e =
    let p = and_parts (is_line id && nat_le 1 (length id)) (not (list_any ends_identifier id)) e in
    let q = and_parts (is_line id) (nat_le 1 (length id)) p.0 in
    let r = and_parts (is_utf8 id) (not (list_any is_control id)) q.0 in
    let clean = none_of is_control id r.1 in
    let some : 1 ≤ length id = leb-true 1 (length id) q.1 in
    record {
      inner = (each_bracketed id clean (none_of ends_identifier id p.1), λ (n : id ≡ []). omega (arith, ap length n));
      utf8 = IsUtf8-from_is_utf8 id r.0;
      no_zero = no_zeros id clean;
    }

abbrev AreReadIds : List (List ℕ) → Type 0
AreReadIds [] = Unit {0}
AreReadIds (id ∷ ids) = IsReadId id × AreReadIds ids

read_ids : (ids : List (List ℕ)) → list_all is_identifier ids ≡ true → AreReadIds ids
read_ids [] e = tt
read_ids (id ∷ ids) e =
    let p = and_parts (is_identifier id) (list_all is_identifier ids) e in
    (read_id id p.0, read_ids ids p.1)

-- ---- raw values

clean_bracket : (c : ℕ) → c ≡ 60 → IsClean (c ∷ [])
clean_bracket c e = subst (λ (k : ℕ). IsClean (k ∷ [])) (sym e) (record { utf8 = IsUtf8-from_ascii (60 ∷ []) (IsAscii-cons 60 [] (omega arith) IsAscii-nil); no_zero = (refl, tt) })

clean_end : IsClean (62 ∷ [])
clean_end = record { utf8 = IsUtf8-from_ascii (62 ∷ []) (IsAscii-cons 62 [] (omega arith) IsAscii-nil); no_zero = (refl, tt) }

clean_id : (id : List ℕ) → IsReadId id → IsClean (bracketed id)
clean_id id r = clean_append (60 ∷ []) (id ++ 62 ∷ []) (clean_bracket 60 refl) (clean_append id (62 ∷ []) (record { utf8 = r.utf8; no_zero = r.no_zero }) clean_end)

clean_laid : (line : Line) (ids : List (List ℕ)) → AreReadIds ids → IsClean (laid line (map id_piece ids))
unfolding laid
clean_laid line [] r = record { utf8 = IsUtf8-nil; no_zero = tt }
clean_laid line (id ∷ ids) r =
    let p = id_piece id in
    let rest = laid (next_line line p) (map id_piece ids) in
    clean_append (gap (is_short (line_with line p))) (p.text ++ rest) (clean_gap (is_short (line_with line p)))
    (clean_append p.text rest (clean_id id r.0) (clean_laid (next_line line p) ids r.1))

-- ---- pieces in brackets

pass : (c : ℕ) (rest : List ℕ) → eqb c 60 ≡ false → IsBracketPiece None (c ∷ []) rest
pass c rest e = Passed c rest (λ x y r w. let f : c ≡ 60 = cc in let g : eqb c 60 ≡ true = ap (λ (k : ℕ). eqb k 60) f in absurd cc)

gap_passed : (short : Bool) (ids : List (List ℕ)) (t : List ℕ) → HasPieces ids t → HasPieces ids (gap short ++ t)
gap_passed true ids t h = record {
  pieces = None ∷ h.pieces;
  are = record { unit = 32 ∷ []; rest = t; whole = refl; is = pass 32 t refl; more = h.are };
  names_are = h.names_are;
}
gap_passed false ids t h = record {
  pieces = None ∷ None ∷ None ∷ h.pieces;
  are = record {
    unit = 13 ∷ [];
    rest = 10 ∷ 32 ∷ t;
    whole = refl;
    is = pass 13 (10 ∷ 32 ∷ t) refl;
    more = record {
      unit = 10 ∷ [];
      rest = 32 ∷ t;
      whole = refl;
      is = pass 10 (32 ∷ t) refl;
      more = record { unit = 32 ∷ []; rest = t; whole = refl; is = pass 32 t refl; more = h.are };
    };
  };
  names_are = h.names_are;
}

id_found : (id : List ℕ) (ids : List (List ℕ)) (t : List ℕ) → IsRun is_bracketed_octet id → HasPieces ids t → HasPieces (id ∷ ids) (bracketed id ++ t)
id_found id ids t r h = record {
  pieces = Some id ∷ h.pieces;
  are = record { unit = bracketed id; rest = t; whole = refl; is = InBrackets id t r; more = h.are };
  names_are = ap (λ (u : List (List ℕ)). id ∷ u) h.names_are;
}

ids_found : (line : Line) (ids : List (List ℕ)) → AreReadIds ids → HasPieces ids (laid line (map id_piece ids))
unfolding laid
ids_found line [] r = record { pieces = []; are = refl; names_are = refl }
ids_found line (id ∷ ids) r =
    let p = id_piece id in
    gap_passed (is_short (line_with line p)) (id ∷ ids) (p.text ++ laid (next_line line p) (map id_piece ids))
    (id_found id ids (laid (next_line line p) (map id_piece ids)) r.0.inner (ids_found (next_line line p) ids r.1))

-- ids that a reader sees as such
ids_read_as : (line : Line) (ids : List (List ℕ)) (ps : List FieldPiece) → ids ≢ [] → AreReadIds ids → AreIdTexts ids ps → IsNamesForm (Some ids) (laid line ps)
ids_read_as line ids ps some r are =
    let read : HasPieces ids (raw_form (laid line (map id_piece ids))) =
    subst (λ (u : List ℕ). HasPieces ids u) (sym (raw_is (laid line (map id_piece ids)) (clean_laid line ids r))) (ids_found line ids r) in
    (some, subst (λ (us : List FieldPiece). HasPieces ids (raw_form (laid line us))) (sym are) read)

pub ids_read : (line : Line) (ids : List (List ℕ)) (ps : List FieldPiece) → ids ≢ [] → list_all is_identifier ids ≡ true → AreIdTexts ids ps → IsNamesForm (Some ids) (laid line ps)
ids_read line ids ps some e are = ids_read_as line ids ps some (read_ids ids e) are

-- ---- the id that is drawn

abbrev is_id_octet : ℕ → Bool
is_id_octet c = is_between 32 126 c && is_bracketed_octet c

low_digit : (n : ℕ) → n ≤ 9 → is_id_octet (48 + n) ≡ true
low_digit n le = grind arith

high_digit : (n : ℕ) → 10 ≤ n → n < 16 → is_id_octet (87 + n) ≡ true
high_digit n ge lt = grind arith

hex_id : (n : ℕ) → n < 16 → is_id_octet (hex_digit n) ≡ true
hex_id n lt = by (nat_le n 9) refl
  where
    by : (b : Bool) → nat_le n 9 ≡ b → is_id_octet (cond b (48 + n) (87 + n)) ≡ true
    by true e = low_digit n (leb-true n 9 e)
    by false e = high_digit n (omega (arith, leb-false n 9 e)) lt

digits_id : (k n : ℕ) → Each is_id_octet (hex_digits k n)
digits_id zero n = tt
digits_id (suc k) n = each_append is_id_octet (hex_digits k (n / 16)) (hex_digit (n % 16) ∷ []) (digits_id k (n / 16)) (hex_id (n % 16) (omega arith), tt)

each_first : (t : List ℕ) → Each is_id_octet t → Each (is_between 32 126) t
each_first [] e = tt
each_first (c ∷ t) e = ((and_parts (is_between 32 126 c) (is_bracketed_octet c) e.0).0, each_first t e.1)

each_second : (t : List ℕ) → Each is_id_octet t → Each is_bracketed_octet t
each_second [] e = tt
each_second (c ∷ t) e = ((and_parts (is_between 32 126 c) (is_bracketed_octet c) e.0).1, each_second t e.1)

read_drawn : (word : ℕ) → IsReadId (drawn_id word)
read_drawn word =
    let octets = each_append is_id_octet (hex_digits 16 word) (codes "@jmapgate.invalid") (digits_id 16 word) (list_all_each is_id_octet (codes "@jmapgate.invalid") refl) in
    let clean = clean_text (drawn_id word) (each_first (drawn_id word) octets) in
    let some : length (drawn_id word) ≡ length (hex_digits 16 word) + 17 = length-append (hex_digits 16 word) (codes "@jmapgate.invalid") in
    record { inner = (each_second (drawn_id word) octets, λ (n : drawn_id word ≡ []). omega (arith, ap length n, some)); utf8 = clean.utf8; no_zero = clean.no_zero }

pub drawn_read : (line : Line) (word : ℕ) (ps : List FieldPiece) → AreIdTexts (drawn_id word ∷ []) ps → IsNamesForm (Some (drawn_id word ∷ [])) (laid line ps)
drawn_read line word ps are = ids_read_as line (drawn_id word ∷ []) ps (λ (n : drawn_id word ∷ [] ≡ []). cc) (read_drawn word, tt) are
