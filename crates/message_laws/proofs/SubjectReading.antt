-- Subjects that are written are read as they are, with a space for each control character.
use Rattle.std.proofs.Common.{◌≡◌, ℕ, Bool, true, false, not, ◌&&◌, ◌||◌, ◌==◌, List, [], ◌∷◌, ◌++◌, length, refl, sym, ap, ◌∙◌, subst, arith, cond}
use Rattle.std.specs.Prelude.{nat_le}
use Rattle.std.specs.List.{filter, list_all}
use Rattle.std.proofs.lemmas.Bool.{and_parts, cond-true, cond-false}
use Rattle.std.proofs.lemmas.List.{append-nil}
use Rattle.std.proofs.lemmas.Str.{IsUtf8-nil}
use Rattle.text_words.specs.Cuts.{Each, back}
use Rattle.text_words.specs.LineEnds.{begins_with_lf}
use Rattle.text_words.specs.Octets.{is_between, is_blank}
use Rattle.text_words.proofs.CutLemmas.{list_all_each}
use Rattle.header_words.specs.EncodedWords.{is_control, is_printed, HasNone, IsText, Text, Plain}
use Rattle.header_words.specs.declared.encoded_word.Edges.TheVariants as edges
use Rattle.header_words.specs.WordList.{utf8_word}
use Rattle.mail_header.specs.Lines.{unfolded}
use Rattle.mail_header.specs.RawForms.{raw_form, IsTextForm}
use Rattle.message_lines.specs.declared.folding.Line.{Line}
use Rattle.message_lines.specs.Folding.{FieldPiece, plain_piece, gap, is_short, laid, line_with, next_line}
use Rattle.message_lines.specs.Subjects.{shown_octet, shown_subject, begins_with, has_word_mark, is_plain_subject, IsSubject, PlainSubject, EncodedSubject}
use Rattle.message_lines.specs.Words.{AreWordsBehind, NoWord, NextWord}
use Rattle.message_laws.specs.SafeTexts.{is_line_octet}
use Rattle.message_laws.proofs.DateReading.{clean_text}
use Rattle.message_laws.proofs.Lines.{ArePrinted}
use Rattle.message_laws.proofs.RawLines.{IsClean, clean_append, clean_gap, raw_is}
use Rattle.message_laws.proofs.ValueLines.{words_printed, subject_printed}
use Rattle.message_laws.proofs.WordReading.{spaced, behind_space, words_read, word_clean}

-- ---- lines without their folds

no_end : (c : ℕ) → is_line_octet c ≡ true → (c == 10) ≡ false
no_end c e = grind arith

no_cr : (c : ℕ) → is_line_octet c ≡ true → (c == 13) ≡ false
no_cr c e = grind arith

unfold_octet : (c : ℕ) (t : List ℕ) → is_line_octet c ≡ true → unfolded (c ∷ t) ≡ c ∷ unfolded t
unfold_octet c t e = by (c == 10) (c == 13) (no_end c e) (no_cr c e)
  where
    by : (p q : Bool) → p ≡ false → q ≡ false → cond (p || (q && begins_with_lf t)) (unfolded t) (c ∷ unfolded t) ≡ c ∷ unfolded t
    by true q f g = absurd cc
    by false true f g = absurd cc
    by false false f g = refl

unfold_text : (x t : List ℕ) → Each is_line_octet x → unfolded (x ++ t) ≡ x ++ unfolded t
unfold_text [] t e = refl
unfold_text (c ∷ x) t e = unfold_octet c (x ++ t) e.0 ∙ ap (λ (u : List ℕ). c ∷ u) (unfold_text x t e.1)

unfold_gap : (short : Bool) (t : List ℕ) → unfolded (gap short ++ t) ≡ 32 ∷ unfolded t
unfold_gap true t = refl
unfold_gap false t = refl

laid_unfolded : (line : Line) (ps : List FieldPiece) → ArePrinted ps → unfolded (laid line ps) ≡ spaced ps
unfolding laid
laid_unfolded line [] e = refl
laid_unfolded line (p ∷ ps) e =
    unfold_gap (is_short (line_with line p)) (p.text ++ laid (next_line line p) ps)
    ∙ ap (λ (u : List ℕ). 32 ∷ u) (unfold_text p.text (laid (next_line line p) ps) e.0 ∙ ap (λ (u : List ℕ). p.text ++ u) (laid_unfolded (next_line line p) ps e.1))

-- ---- raw values

abbrev AreClean : List FieldPiece → Type 0
AreClean [] = Unit {0}
AreClean (p ∷ ps) = IsClean p.text × AreClean ps

laid_clean : (line : Line) (ps : List FieldPiece) → AreClean ps → IsClean (laid line ps)
unfolding laid
laid_clean line [] c = record { utf8 = IsUtf8-nil; no_zero = tt }
laid_clean line (p ∷ ps) c =
    let rest = laid (next_line line p) ps in
    clean_append (gap (is_short (line_with line p))) (p.text ++ rest) (clean_gap (is_short (line_with line p)))
    (clean_append p.text rest c.0 (laid_clean (next_line line p) ps c.1))

words_clean : (line : Line) (text : List ℕ) (ps : List FieldPiece) → AreWordsBehind line text ps → AreClean ps
words_clean _ _ _ (NoWord line) = tt
words_clean _ _ _ (NextWord line piece rest text ps n a) = (word_clean line piece rest text n, words_clean _ rest ps a)

-- ---- subjects

-- a control character is shown as a space
shown_printed : (c : ℕ) → is_printed (shown_octet c) ≡ true
shown_printed c = by (is_control c) refl
  where
    by : (b : Bool) → is_control c ≡ b → is_printed (cond b 32 c) ≡ true
    by true e = refl
    by false e = ap not e

shown_kept : (s : List ℕ) → filter is_printed (shown_subject s) ≡ shown_subject s
shown_kept [] = refl
shown_kept (c ∷ s) =
    cond-true (is_printed (shown_octet c)) (shown_octet c ∷ filter is_printed (shown_subject s)) (filter is_printed (shown_subject s)) (shown_printed c)
    ∙ ap (λ (u : List ℕ). shown_octet c ∷ u) (shown_kept s)

no_mark_in : (before t x : List ℕ) → has_word_mark t ≡ false → t ≡ before ++ 61 ∷ 63 ∷ x → ⊥
no_mark_in [] t x e h = let f : has_word_mark t ≡ true = ap has_word_mark h in absurd cc
no_mark_in (b ∷ before) [] x e h = absurd cc
no_mark_in (b ∷ before) (c ∷ t) x e h = no_mark_in before t x (behind (c == 61 && begins_with 63 t) e) (let g : t ≡ before ++ 61 ∷ 63 ∷ x = cc in g)
  where
    behind : (q : Bool) → cond q true (has_word_mark t) ≡ false → has_word_mark t ≡ false
    behind true f = absurd cc
    behind false f = f

no_mark_none : (t : List ℕ) → has_word_mark t ≡ false → HasNone edges.White t
no_mark_none t e = λ coded before word behind w s. by before word behind w s.word.shape.whole
  where
    by : (before word behind : List ℕ) {x : List ℕ} → t ≡ before ++ (word ++ behind) → word ≡ 61 ∷ 63 ∷ x → ⊥
    by before word behind {x} w h = no_mark_in before t (x ++ behind) e (w ∙ ap (λ (u : List ℕ). before ++ (u ++ behind)) h)

falsehood : (q : Bool) → not q ≡ true → q ≡ false
falsehood true e = absurd cc
falsehood false e = refl

shown_no_blank : (c : ℕ) → is_between 32 126 c ≡ true → (c == 32) ≡ false → is_blank c ≡ false
shown_no_blank c e f = grind arith

blank_passed : (s : List ℕ) → list_all (is_between 32 126) s ≡ true → begins_with 32 s ≡ false → back is_blank (32 ∷ s) ≡ s
unfolding back
blank_passed [] e f = refl
blank_passed (c ∷ s) e f =
    let p = and_parts (is_between 32 126 c) (list_all (is_between 32 126) s) e in
    cond-false (is_blank c) (back is_blank s) (c ∷ s) (shown_no_blank c p.0 f)

word_begins : (piece t : List ℕ) → back is_blank (32 ∷ (utf8_word piece ++ t)) ≡ utf8_word piece ++ t
unfolding back utf8_word
word_begins piece t = refl

words_begin : (line : Line) (text : List ℕ) (ps : List FieldPiece) → AreWordsBehind line text ps → back is_blank (spaced ps) ≡ behind_space ps
unfolding back
words_begin _ _ _ (NoWord line) = refl
words_begin _ _ _ (NextWord line piece rest text ps n a) = word_begins piece (spaced ps)

-- what a plain subject is
record IsPlain (t : List ℕ) : Type 0 where
  shown : list_all (is_between 32 126) t ≡ true
  front : begins_with 32 t ≡ false
  mark : has_word_mark t ≡ false

plain_is : (t : List ℕ) → is_plain_subject t ≡ true → IsPlain t
plain_is t e =
    let a = list_all (is_between 32 126) t in
    let b = not (begins_with 32 t) in
    let c = not (has_word_mark t) in
    let p = and_parts (a && b && c) (nat_le (length t) 989) e in
    let q = and_parts (a && b) c p.0 in
    let r = and_parts a b q.0 in
    record { shown = r.0; front = falsehood (begins_with 32 t) r.1; mark = falsehood (has_word_mark t) q.1 }

-- the text of a line's value
value_is : (line : Line) (ps : List FieldPiece) → ArePrinted ps → AreClean ps → unfolded (raw_form (laid line ps)) ≡ spaced ps
value_is line ps p c = ap unfolded (raw_is (laid line ps) (laid_clean line ps c)) ∙ laid_unfolded line ps p

plain_read : (line : Line) (s : List ℕ) → is_plain_subject (shown_subject s) ≡ true → ArePrinted (plain_piece (shown_subject s) ∷ [])
    → IsTextForm (shown_subject s) (laid line (plain_piece (shown_subject s) ∷ []))
plain_read line s e printed =
    let t = shown_subject s in
    let p = plain_is t e in
    let ps = plain_piece t ∷ [] in
    let clean = clean_text t (list_all_each (is_between 32 126) t p.shown) in
    let same : back is_blank (unfolded (raw_form (laid line ps))) ≡ t =
    ap (back is_blank) (value_is line ps printed (clean, tt) ∙ ap (λ (u : List ℕ). 32 ∷ u) (append-nil t)) ∙ blank_passed t p.shown p.front in
    subst (λ (u : List ℕ). IsText false u t) (sym same) (record { spans = Text t ∷ []; are = Plain false t (no_mark_none t p.mark); text_is = sym (append-nil t) })

encoded_read : (line : Line) (s : List ℕ) (ps : List FieldPiece) → AreWordsBehind line (shown_subject s) ps → IsTextForm (shown_subject s) (laid line ps)
encoded_read line s ps a =
    let t = shown_subject s in
    let same : back is_blank (unfolded (raw_form (laid line ps))) ≡ behind_space ps =
    ap (back is_blank) (value_is line ps (words_printed line t ps a) (words_clean line t ps a)) ∙ words_begin line t ps a in
    subst (λ (u : List ℕ). IsText false u t) (sym same) (subst (λ (u : List ℕ). IsText false (behind_space ps) u) (shown_kept s) (words_read line t ps a))

pub subject_is_read : (line : Line) (s : List ℕ) (ps : List FieldPiece) → IsSubject line s ps → IsTextForm (shown_subject s) (laid line ps)
subject_is_read line s _ (PlainSubject e) = plain_read line s e (subject_printed line s (plain_piece (shown_subject s) ∷ []) (PlainSubject e))
subject_is_read line s _ (EncodedSubject ps e a) = encoded_read line s ps a
