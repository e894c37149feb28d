-- One octet within a line.
use Rattle.std.proofs.Common.{◌≡◌, ◌⊎◌, ℕ, zero, suc, ◌+◌, ◌-◌, ◌*◌, ◌<◌, ◌≤◌, true, false, ◌&&◌, List, [], ◌∷◌, ◌++◌, length, map, drop, get_or, cond, None, refl, sym, ap, subst}
use Rattle.std.proofs.Common.{◌∙◌, arith, inl, inr}
use Rattle.std.specs.Prelude.{◌==◌, nat_lt, nat_le}
use Rattle.std.proofs.lemmas.Bool.{eqb-true, eqb-false, ltb-true, leb-true, and_parts, and_from, lt-ltb, le-leb, eq-eqb}
use Rattle.std.proofs.lemmas.List.{drop_all}
use Rattle.imap_keywords.specs.declared.key.Key.{Key}
use Rattle.imap_keywords.specs.declared.key.Key.TheVariants as key
use Rattle.imap_keywords.specs.declared.key.WordPlace.TheVariants as place
use Rattle.imap_keywords.specs.declared.phrase.Phrase.{Phrase}
use Rattle.imap_keywords.specs.declared.phrase.Phrase.TheVariants as phrase
use Rattle.imap_keywords.specs.declared.count.Pending.TheVariants as pending
use Rattle.imap_automaton.specs.declared.sym.Free.TheVariants as free
use Rattle.imap_automaton.specs.declared.sym.Line.{Line}
use Rattle.imap_automaton.specs.declared.sym.Line.TheVariants as line
use Rattle.imap_automaton.specs.declared.sym.Sym.TheVariants as sym
use Rattle.imap_automaton.specs.declared.sym.Sym.{Sym}
use Rattle.pushdown.specs.declared.moves.Move.{Move}
use Rattle.pushdown.specs.declared.moves.Move.TheVariants as move
use Rattle.imap_keywords.specs.Keys.{key_text, phrase_text, first_key}
use Rattle.imap_automaton.specs.FreeRules.{text_rule}
use Rattle.imap_automaton.specs.WordRules.{word_rule}
use Rattle.imap_automaton.specs.LineRules.{word_start, sequence_rule, fixed_rule, folded_rule, line_rule}
use Rattle.imap_automaton.specs.Fits.{LineFits}
use Rattle.imap_automaton.specs.Langs.{FreeLang, WordSays, WordRest, TagRest, NumberedRest, SequenceRest, LineLang, AfterMove}
use Rattle.pushdown.proofs.Lists.{cons_head, cons_tail}
use Rattle.imap_automaton.proofs.Tests.{from_test, to_test, at_true, at_false, is_true_at, both, crlf_of, crlf_parts, mid}
use Rattle.imap_keywords.proofs.Texts.{drop_at}
use Rattle.imap_keywords.proofs.Classes.{alnum_not_space, text_not_cr, digit_word}
use Rattle.imap_keywords.proofs.Classes.{digit_no_brace}
use Rattle.imap_automaton.proofs.FreeEdges.{text_back, text_forth, free_empty}
use Rattle.imap_keywords.proofs.KeyLemmas.{no_bang}
use Rattle.imap_automaton.proofs.WordEdges.{cut, text_goes, text_comes, word_back, word_forth, word_empty, word_example}
use Rattle.imap_automaton.proofs.CountLemmas.{free_from}
use Rattle.imap_automaton.proofs.LineWords.{plain_key, plain_to, plain_from, numbered_to, numbered_from, tagged_to, tagged_from}
use Rattle.imap_automaton.proofs.Rests.{value_mono}
use Rattle.imap_types.specs.declared.code.Code.{Code}
use Rattle.imap_types.specs.declared.response.Status.{Status}
use Rattle.imap_types.specs.declared.response.Response.{Response}
use Rattle.imap_types.specs.declared.response.Response.TheVariants as response
use Rattle.imap_types.specs.Octets.{is_digit, is_alnum, is_text, is_word, lower}
use Rattle.imap_types.specs.Texts.{Each, crlf}
use Rattle.imap_types.specs.Numbers.{value_from, IsNumber}
use Rattle.imap_types.specs.Lines.{IsLine, IsTagged}
use Rattle.imap_types.specs.Spells.{IsWordLine, Numbered, IsUntagged, Spells}

-- ---- text and fixed texts

line_back : (c : ℕ) (t : List ℕ) → AfterMove (line_rule line.Text c) t → LineLang line.Text (c ∷ t)
line_back c t h = from_test (c == 13) (move.One (sym.Line (line.Fixed phrase.Crlf 1))) (cond (is_text c) (move.One (sym.Line line.Text)) move.Fail) t (IsLine (c ∷ t))
    (λ e k. record { text = []; whole = crlf_of c t (eqb-true c 13 e) k; text_is = tt })
    (λ e k. from_test (is_text c) (move.One (sym.Line line.Text)) move.Fail t (IsLine (c ∷ t))
    (λ f l. record { text = c ∷ l.text; whole = ap (λ (u : List ℕ). c ∷ u) l.whole; text_is = (f, l.text_is) })
    (λ f l. absurd l) k) h

line_at : (c : ℕ) (t text : List ℕ) → c ∷ t ≡ text ++ crlf → Each is_text text → AfterMove (line_rule line.Text c) t
line_at c t [] e f =
    let k = crlf_parts c t e in
    at_true (c == 13) (move.One (sym.Line (line.Fixed phrase.Crlf 1))) (cond (is_text c) (move.One (sym.Line line.Text)) move.Fail) t (eq-eqb c 13 k.0) k.1
line_at c t (d ∷ x) e f =
    let same : c ≡ d = cons_head c d t (x ++ crlf) e in
    let ok : is_text c ≡ true = is_true_at is_text c d same f.0 in
    at_false (c == 13) (move.One (sym.Line (line.Fixed phrase.Crlf 1))) (cond (is_text c) (move.One (sym.Line line.Text)) move.Fail) t (text_not_cr c ok)
    (at_true (is_text c) (move.One (sym.Line line.Text)) move.Fail t ok (record { text = x; whole = cons_tail c d t (x ++ crlf) e; text_is = f.1 }))

fixed_back : (p : Phrase) (at c : ℕ) (t : List ℕ) → AfterMove (fixed_rule p at c) t → c ∷ t ≡ drop at (phrase_text p)
fixed_back p at c t h = from_test (nat_lt at (length (phrase_text p)) && c == get_or (phrase_text p) at 0)
    (cond (at + 1 == length (phrase_text p)) move.End (move.One (sym.Line (line.Fixed p (at + 1))))) move.Fail t (c ∷ t ≡ drop at (phrase_text p))
    (λ e k.
    let b = and_parts (nat_lt at (length (phrase_text p))) (c == get_or (phrase_text p) at 0) e in
    let lt : at < length (phrase_text p) = ltb-true _ _ b.0 in
    let same : c ≡ get_or (phrase_text p) at 0 = eqb-true _ _ b.1 in
    let split = drop_at (phrase_text p) at lt in
    from_test (at + 1 == length (phrase_text p)) move.End (move.One (sym.Line (line.Fixed p (at + 1)))) t (c ∷ t ≡ drop at (phrase_text p))
    (λ f l. let past : drop (at + 1) (phrase_text p) ≡ [] = drop_all (at + 1) (phrase_text p) (omega (arith, eqb-true _ _ f)) in cc)
    (λ f l. cc) k)
    (λ e k. absurd k) h

fixed_forth : (p : Phrase) (at c : ℕ) (t : List ℕ) → nat_lt at (length (phrase_text p)) ≡ true → c ∷ t ≡ drop at (phrase_text p) → AfterMove (fixed_rule p at c) t
fixed_forth p at c t fits h =
    let split = drop_at (phrase_text p) at (ltb-true _ _ fits) in
    let head = cons_head c (get_or (phrase_text p) at 0) t (drop (at + 1) (phrase_text p)) (h ∙ split) in
    let tail = cons_tail c (get_or (phrase_text p) at 0) t (drop (at + 1) (phrase_text p)) (h ∙ split) in
    at_true (nat_lt at (length (phrase_text p)) && c == get_or (phrase_text p) at 0)
    (cond (at + 1 == length (phrase_text p)) move.End (move.One (sym.Line (line.Fixed p (at + 1))))) move.Fail t
    (and_from _ _ fits (eq-eqb _ _ head))
    (to_test (at + 1 == length (phrase_text p)) move.End (move.One (sym.Line (line.Fixed p (at + 1)))) t
    (λ e. tail ∙ drop_all (at + 1) (phrase_text p) (omega (arith, eqb-true _ _ e)))
    (λ e. tail))

folded_back : (p : Phrase) (at c : ℕ) (t : List ℕ) → AfterMove (folded_rule p at c) t → map lower (c ∷ t) ≡ drop at (phrase_text p)
folded_back p at c t h = from_test (nat_lt at (length (phrase_text p)) && lower c == get_or (phrase_text p) at 0)
    (cond (at + 1 == length (phrase_text p)) move.End (move.One (sym.Line (line.Folded p (at + 1))))) move.Fail t (map lower (c ∷ t) ≡ drop at (phrase_text p))
    (λ e k.
    let b = and_parts (nat_lt at (length (phrase_text p))) (lower c == get_or (phrase_text p) at 0) e in
    let lt : at < length (phrase_text p) = ltb-true _ _ b.0 in
    let same : lower c ≡ get_or (phrase_text p) at 0 = eqb-true _ _ b.1 in
    let split = drop_at (phrase_text p) at lt in
    from_test (at + 1 == length (phrase_text p)) move.End (move.One (sym.Line (line.Folded p (at + 1)))) t (map lower (c ∷ t) ≡ drop at (phrase_text p))
    (λ f l. let past : drop (at + 1) (phrase_text p) ≡ [] = drop_all (at + 1) (phrase_text p) (omega (arith, eqb-true _ _ f)) in cc)
    (λ f l. cc) k)
    (λ e k. absurd k) h

lowered_none : (t : List ℕ) → map lower t ≡ [] → t ≡ []
lowered_none [] e = refl
lowered_none (c ∷ t) e = absurd cc

folded_forth : (p : Phrase) (at c : ℕ) (t : List ℕ) → nat_lt at (length (phrase_text p)) ≡ true → map lower (c ∷ t) ≡ drop at (phrase_text p) → AfterMove (folded_rule p at c) t
folded_forth p at c t fits h =
    let split = drop_at (phrase_text p) at (ltb-true _ _ fits) in
    let head = cons_head (lower c) (get_or (phrase_text p) at 0) (map lower t) (drop (at + 1) (phrase_text p)) (h ∙ split) in
    let tail = cons_tail (lower c) (get_or (phrase_text p) at 0) (map lower t) (drop (at + 1) (phrase_text p)) (h ∙ split) in
    at_true (nat_lt at (length (phrase_text p)) && lower c == get_or (phrase_text p) at 0)
    (cond (at + 1 == length (phrase_text p)) move.End (move.One (sym.Line (line.Folded p (at + 1))))) move.Fail t
    (and_from _ _ fits (eq-eqb _ _ head))
    (to_test (at + 1 == length (phrase_text p)) move.End (move.One (sym.Line (line.Folded p (at + 1)))) t
    (λ e. lowered_none t (tail ∙ drop_all (at + 1) (phrase_text p) (omega (arith, eqb-true _ _ e))))
    (λ e. tail))

-- a text that is read in letters of any case
lower_drop : (t : List ℕ) (at : ℕ) → map lower t ≡ t → map lower (drop at t) ≡ drop at t
lower_drop t zero e = e
lower_drop [] (suc at) e = refl
lower_drop (c ∷ t) (suc at) e = lower_drop t at (cons_tail (lower c) c (map lower t) t e)

folded_some : (p : Phrase) (at : ℕ) → (t : List ℕ) × (map lower t ≡ drop at (phrase_text p))
folded_some phrase.Space at = (drop at (phrase_text phrase.Space), lower_drop (phrase_text phrase.Space) at refl)
folded_some phrase.Crlf at = (drop at (phrase_text phrase.Crlf), lower_drop (phrase_text phrase.Crlf) at refl)
folded_some phrase.Close at = (drop at (phrase_text phrase.Close), lower_drop (phrase_text phrase.Close) at refl)
folded_some phrase.Quote at = (drop at (phrase_text phrase.Quote), lower_drop (phrase_text phrase.Quote) at refl)
folded_some phrase.Nil at = (drop at (phrase_text phrase.Nil), lower_drop (phrase_text phrase.Nil) at refl)
folded_some phrase.Earlier at = (drop at (phrase_text phrase.Earlier), lower_drop (phrase_text phrase.Earlier) at refl)

-- ---- tags

tag_back : (n c : ℕ) (t : List ℕ) → LineFits (line.Tag n) ≡ true → AfterMove (line_rule (line.Tag n) c) t → TagRest n (c ∷ t)
tag_back n c t fits h = from_test (c == 32) (move.One (word_start place.Tagged)) (cond (is_alnum c && nat_lt n 32) (move.One (sym.Line (line.Tag (n + 1)))) move.Fail) t
    (TagRest n (c ∷ t))
    (λ e k. record {
      tag = [];
      after = t;
      whole = ap (λ (d : ℕ). d ∷ t) (eqb-true c 32 e);
      tag_is = tt;
      few = omega (arith, leb-true _ _ (and_parts (nat_lt 0 n) (nat_le n 32) fits).1);
      line = k;
    })
    (λ e k. from_test (is_alnum c && nat_lt n 32) (move.One (sym.Line (line.Tag (n + 1)))) move.Fail t (TagRest n (c ∷ t))
    (λ f l. record {
      tag = c ∷ l.tag;
      after = l.after;
      whole = ap (λ (u : List ℕ). c ∷ u) l.whole;
      tag_is = ((and_parts (is_alnum c) (nat_lt n 32) f).0, l.tag_is);
      few = omega (arith, l.few);
      line = l.line;
    })
    (λ f l. absurd l) k) h

tag_at : (n c : ℕ) (t tag after : List ℕ) → c ∷ t ≡ tag ++ 32 ∷ after → Each is_alnum tag → n + length tag ≤ 32 → WordRest place.Tagged [] after
    → AfterMove (line_rule (line.Tag n) c) t
tag_at n c t [] after e all few h =
    at_true (c == 32) (move.One (word_start place.Tagged)) (cond (is_alnum c && nat_lt n 32) (move.One (sym.Line (line.Tag (n + 1)))) move.Fail) t
    (eq-eqb c 32 (cons_head c 32 t after e))
    (subst (WordRest place.Tagged []) (sym (cons_tail c 32 t after e)) h)
tag_at n c t (d ∷ x) after e all few h =
    let same : c ≡ d = cons_head c d t (x ++ 32 ∷ after) e in
    let ok : is_alnum c ≡ true = is_true_at is_alnum c d same all.0 in
    at_false (c == 32) (move.One (word_start place.Tagged)) (cond (is_alnum c && nat_lt n 32) (move.One (sym.Line (line.Tag (n + 1)))) move.Fail) t (alnum_not_space c ok)
    (at_true (is_alnum c && nat_lt n 32) (move.One (sym.Line (line.Tag (n + 1)))) move.Fail t (and_from _ _ ok (lt-ltb n 32 (omega (arith, few))))
    (record { tag = x; after = after; whole = cons_tail c d t (x ++ 32 ∷ after) e; tag_is = all.1; few = omega (arith, few); line = h }))

-- ---- after `* ` and digits

digit_text : (c : ℕ) → is_digit c ≡ true → is_text c ≡ true
digit_text c e = grind arith

digit_no_space : (c : ℕ) → c ≡ 32 → is_digit c ≡ false
digit_no_space c e = grind arith

-- the octet that a number and a line begin with
numbered_at : (v n c : ℕ) (l t more : List ℕ) → c ∷ t ≡ more ++ 32 ∷ l → Each is_digit more → n + length more ≤ 10 → value_from v more ≤ 4294967295 → ((c ≡ 32) × (t ≡ l))
    ⊎ ((is_digit c ≡ true) × (n < 10) × (10 * v + (c - 48) ≤ 4294967295) × NumberedRest (10 * v + (c - 48)) (n + 1) l t)
numbered_at v n c l t [] e all few most = inl (cons_head c 32 t l e, cons_tail c 32 t l e)
numbered_at v n c l t (d ∷ x) e all few most =
    let same : c ≡ d = cons_head c d t (x ++ 32 ∷ l) e in
    let m : value_from (10 * v + (c - 48)) x ≤ 4294967295 = subst (λ (q : ℕ). value_from (10 * v + (q - 48)) x ≤ 4294967295) (sym same) most in
    let mono = value_mono (10 * v + (c - 48)) x in
    inr (
      is_true_at is_digit c d same all.0,
      omega (arith, few),
      omega (arith, mono, m),
      record { more = x; whole = cons_tail c d t (x ++ 32 ∷ l) e; each = all.1; few = omega (arith, few); most = m },
    )

numbered_more : (v n c : ℕ) (l t : List ℕ) → is_digit c ≡ true → NumberedRest (10 * v + (c - 48)) (n + 1) l t → NumberedRest v n l (c ∷ t)
numbered_more v n c l t e h = record { more = c ∷ h.more; whole = ap (λ (u : List ℕ). c ∷ u) h.whole; each = (e, h.each); few = omega (arith, h.few); most = h.most }

numbered_goes : (v n c : ℕ) (l t : List ℕ) → (is_digit c && nat_lt n 10 && nat_le (10 * v + (c - 48)) 4294967295) ≡ true → NumberedRest v n l (c ∷ t)
    → NumberedRest (10 * v + (c - 48)) (n + 1) l t
numbered_goes v n c l t e h = elim (numbered_at v n c l t h.more h.whole h.each h.few h.most) [
  | inl s ↦ absurd (both (is_digit c) (and_parts (is_digit c) (nat_lt n 10) (and_parts (is_digit c && nat_lt n 10) (nat_le (10 * v + (c - 48)) 4294967295) e).0).0
      (digit_no_space c s.0))
  | inr r ↦ r.3
]

numbered_stays : (v n c : ℕ) (l t : List ℕ) → (is_digit c && nat_lt n 10 && nat_le (10 * v + (c - 48)) 4294967295) ≡ false → (c == 32) ≡ false → NumberedRest v n l (c ∷ t) → ⊥
numbered_stays v n c l t e s h = elim (numbered_at v n c l t h.more h.whole h.each h.few h.most) [
  | inl q ↦ eqb-false c 32 s q.0
  | inr r ↦ both (is_digit c && nat_lt n 10 && nat_le (10 * v + (c - 48)) 4294967295)
      (and_from _ _ (and_from _ _ r.0 (lt-ltb n 10 r.1)) (le-leb (10 * v + (c - 48)) 4294967295 r.2)) e
]

numbered_space : (v n c : ℕ) (l t : List ℕ) → c ≡ 32 → NumberedRest v n l (c ∷ t) → t ≡ l
numbered_space v n c l t e h = elim (numbered_at v n c l t h.more h.whole h.each h.few h.most) [
  | inl q ↦ q.1
  | inr r ↦ absurd (both (is_digit c) r.0 (digit_no_space c e))
]

sequence_fits : (v n : ℕ) → LineFits (line.Sequence v n) ≡ true → (0 < n) × (n ≤ 10) × (v ≤ 4294967295)
sequence_fits v n fits =
    let a = and_parts (nat_lt 0 n && nat_le n 10) (nat_le v 4294967295) fits in
    let b = and_parts (nat_lt 0 n) (nat_le n 10) a.0 in
    (ltb-true _ _ b.0, leb-true _ _ b.1, leb-true _ _ a.1)

numbered_here : (v n : ℕ) (t : List ℕ) → n ≤ 10 → v ≤ 4294967295 → NumberedRest v n t (32 ∷ t)
numbered_here v n t few most = record { more = []; whole = refl; each = tt; few = omega (arith, few); most = most }

sequence_back : (v n c : ℕ) (t : List ℕ) → LineFits (line.Sequence v n) ≡ true → AfterMove (sequence_rule v n c) t → SequenceRest v n (c ∷ t)
sequence_back v n c t fits h = from_test (is_digit c && nat_lt n 10 && nat_le (10 * v + (c - 48)) 4294967295) (move.One (sym.Line (line.Sequence (10 * v + (c - 48)) (n + 1))))
    (cond (c == 32) (move.One (word_start place.Numbered)) (text_rule pending.Nothing c)) t (SequenceRest v n (c ∷ t))
    (λ e k.
    let d : is_digit c ≡ true = (and_parts (is_digit c) (nat_lt n 10) (and_parts (is_digit c && nat_lt n 10) (nat_le (10 * v + (c - 48)) 4294967295) e).0).0 in
    elim k [
      | inl r ↦ inl (r.0, numbered_more v n c r.0 t d r.1, r.2)
      | inr r ↦ inr (text_comes c t (digit_text c d) (digit_no_brace c d) r.0, λ l q. r.1 l (numbered_goes v n c l t e q))
    ])
    (λ e k. from_test (c == 32) (move.One (word_start place.Numbered)) (text_rule pending.Nothing c) t (SequenceRest v n (c ∷ t))
    (λ f l. let s = sequence_fits v n fits in inl (t, subst (λ (q : ℕ). NumberedRest v n t (q ∷ t)) (sym (eqb-true c 32 f)) (numbered_here v n t s.1 s.2), l))
    (λ f l. inr (text_back pending.Nothing c t l, λ m q. numbered_stays v n c m t e f q)) k) h

sequence_forth : (v n c : ℕ) (t : List ℕ) → LineFits (line.Sequence v n) ≡ true → SequenceRest v n (c ∷ t) → AfterMove (sequence_rule v n c) t
sequence_forth v n c t fits (inl r) =
    to_test (is_digit c && nat_lt n 10 && nat_le (10 * v + (c - 48)) 4294967295) (move.One (sym.Line (line.Sequence (10 * v + (c - 48)) (n + 1))))
    (cond (c == 32) (move.One (word_start place.Numbered)) (text_rule pending.Nothing c)) t
    (λ e. inl (r.0, numbered_goes v n c r.0 t e r.1, r.2))
    (λ e. to_test (c == 32) (move.One (word_start place.Numbered)) (text_rule pending.Nothing c) t
    (λ f. subst (WordRest place.Numbered []) (sym (numbered_space v n c r.0 t (eqb-true c 32 f) r.1)) r.2)
    (λ f. absurd (numbered_stays v n c r.0 t e f r.1)))
sequence_forth v n c t fits (inr r) =
    let s = sequence_fits v n fits in
    to_test (is_digit c && nat_lt n 10 && nat_le (10 * v + (c - 48)) 4294967295) (move.One (sym.Line (line.Sequence (10 * v + (c - 48)) (n + 1))))
    (cond (c == 32) (move.One (word_start place.Numbered)) (text_rule pending.Nothing c)) t
    (λ e.
    let d : is_digit c ≡ true = (and_parts (is_digit c) (nat_lt n 10) (and_parts (is_digit c && nat_lt n 10) (nat_le (10 * v + (c - 48)) 4294967295) e).0).0 in
    inr (text_goes_on d, λ l q. r.1 l (numbered_more v n c l t d q)))
    (λ e. to_test (c == 32) (move.One (word_start place.Numbered)) (text_rule pending.Nothing c) t
    (λ f. absurd (r.1 t (subst (λ (q : ℕ). NumberedRest v n t (q ∷ t)) (sym (eqb-true c 32 f)) (numbered_here v n t s.1 s.2))))
    (λ f. text_forth pending.Nothing c t r.0))
  where
    text_goes_on : is_digit c ≡ true → FreeLang (free.Text pending.Nothing) t
    text_goes_on d = text_goes c t (digit_text c d) (digit_no_brace c d) r.0

-- ---- after `* `

first_no_digit : (k : Key) → is_digit (get_or (key_text k) 0 0) ≡ false
first_no_digit key.Ok = refl
first_no_digit key.No = refl
first_no_digit key.Bad = refl
first_no_digit key.Preauth = refl
first_no_digit key.Bye = refl
first_no_digit key.Capability = refl
first_no_digit key.Enabled = refl
first_no_digit key.Vanished = refl
first_no_digit key.List = refl
first_no_digit key.Status = refl
first_no_digit key.Exists = refl
first_no_digit key.Expunge = refl
first_no_digit key.Fetch = refl
first_no_digit key.Uid = refl
first_no_digit key.Flags = refl
first_no_digit key.ModSeq = refl
first_no_digit key.Size = refl
first_no_digit key.InternalDate = refl
first_no_digit key.Header = refl
first_no_digit key.HeaderPart = refl
first_no_digit key.Body = refl
first_no_digit key.BodyPart = refl
first_no_digit key.Jan = refl
first_no_digit key.Feb = refl
first_no_digit key.Mar = refl
first_no_digit key.Apr = refl
first_no_digit key.May = refl
first_no_digit key.Jun = refl
first_no_digit key.Jul = refl
first_no_digit key.Aug = refl
first_no_digit key.Sep = refl
first_no_digit key.Oct = refl
first_no_digit key.Nov = refl
first_no_digit key.Dec = refl

lower_digit : (c : ℕ) → is_digit c ≡ true → is_digit (lower c) ≡ true
lower_digit c e = grind arith

digit_no_key : (c : ℕ) (w : List ℕ) (k : Key) → is_digit c ≡ true → map lower (c ∷ w) ≡ key_text k → ⊥
digit_no_key c w k d e = both (is_digit (get_or (key_text k) 0 0)) (ap (λ (u : List ℕ). is_digit (get_or u 0 0)) (sym e) ∙ lower_digit c d) (first_no_digit k)

-- a line whose first word begins with a digit
digit_line : (c : ℕ) (t : List ℕ) → is_digit c ≡ true → FreeLang (free.Text pending.Nothing) t → IsWordLine None response.Other (c ∷ t)
digit_line c t d h =
    let r = cut is_word t refl in
    let f = text_comes c t (digit_text c d) (digit_no_brace c d) h in
    record {
      word = c ∷ r.front;
      tail = r.back;
      whole = ap (λ (u : List ℕ). c ∷ u) r.whole;
      word_is = (digit_word c d, r.each);
      some = λ e. cc;
      longest = r.longest;
      says = (λ k. (let q = plain_key (map lower (c ∷ r.front)) k in digit_no_key c r.front q.0 d q.2), (f.0, free_from f.0 (c ∷ t) f.1));
    }

-- the text of such a line
line_digit : (c : ℕ) (t w tail : List ℕ) → is_digit c ≡ true → c ∷ t ≡ w ++ tail → is_word (get_or tail 0 0) ≡ false → WordSays place.Plain [] (map lower w) tail (c ∷ t)
    → FreeLang (free.Text pending.Nothing) (c ∷ t)
line_digit c t w tail d e longest (inr s) = s.1
line_digit c t [] tail d e longest (inl k) = absurd (both (is_word c) (digit_word c d) (ap (λ (u : List ℕ). is_word (get_or u 0 0)) e ∙ longest))
line_digit c t (x ∷ w) tail d e longest (inl k) = absurd (digit_no_key c w k.0 d (ap (λ (q : ℕ). map lower (q ∷ w)) (cons_head c x t (w ++ tail) e) ∙ k.2))

first_value : (c : ℕ) (t : List ℕ) → value_from 0 (c ∷ t) ≡ value_from (c - 48) t
first_value c t = ap (λ (n : ℕ). value_from n t) (omega arith)

numbered_whole : (c : ℕ) (l t : List ℕ) → is_digit c ≡ true → (h : NumberedRest (c - 48) 1 l t) → Numbered (value_from (c - 48) h.more) l (c ∷ t)
numbered_whole c l t d h = (
  c ∷ h.more,
  ap (λ (u : List ℕ). c ∷ u) h.whole,
  record { digits = (d, h.each); some = omega arith; few = omega (arith, h.few); value = sym (first_value c h.more); most = h.most },
)

numbered_rest : (n c : ℕ) (l t digits : List ℕ) → c ∷ t ≡ digits ++ 32 ∷ l → IsNumber n digits → (is_digit c ≡ true) × NumberedRest (c - 48) 1 l t
numbered_rest n c l t [] e h = absurd (omega (arith, h.some))
numbered_rest n c l t (d ∷ x) e h =
    let same : c ≡ d = cons_head c d t (x ++ 32 ∷ l) e in
    let v : value_from (d - 48) x ≤ 4294967295 = (let q = first_value d x in omega (arith, q, h.value, h.most)) in (
      is_true_at is_digit c d same h.digits.0,
      record {
        more = x;
        whole = cons_tail c d t (x ++ 32 ∷ l) e;
        each = h.digits.1;
        few = omega (arith, h.few);
        most = subst (λ (q : ℕ). value_from (q - 48) x ≤ 4294967295) (sym same) v;
      },
    )

untagged_back : (c : ℕ) (t : List ℕ) → AfterMove (line_rule line.Untagged c) t → LineLang line.Untagged (c ∷ t)
untagged_back c t h = from_test (is_digit c) (move.One (sym.Line (line.Sequence (c - 48) 1))) (word_rule place.Plain (first_key place.Plain) 0 c) t (LineLang line.Untagged (c ∷ t))
    (λ d k. elim k [
      | inl r ↦ (
          let v = numbered_from (value_from (c - 48) r.1.more) r.0 r.2 in
          (v.0, inl (value_from (c - 48) r.1.more, r.0, numbered_whole c r.0 t d r.1, v.1)))
      | inr r ↦ (response.Other, inr (digit_line c t d r.0, λ n l q. r.1 l (numbered_rest n c l t q.0 q.1 q.2).1))
    ])
    (λ d k.
    let v = plain_from (c ∷ t) (word_back place.Plain (first_key place.Plain) 0 c t (omega arith) refl k) in
    (v.0, inr (v.1, λ n l q. both (is_digit c) (numbered_rest n c l t q.0 q.1 q.2).0 d))) h

untagged_at : (v : Response) (c : ℕ) (t : List ℕ) → IsUntagged v (c ∷ t) → AfterMove (line_rule line.Untagged c) t
untagged_at v c t (inl r) =
    let q = numbered_rest r.0 c r.1 t r.2.0 r.2.1 r.2.2 in
    at_true (is_digit c) (move.One (sym.Line (line.Sequence (c - 48) 1))) (word_rule place.Plain (first_key place.Plain) 0 c) t q.0
    (inl (r.1, q.1, numbered_to r.0 v r.1 r.3))
untagged_at v c t (inr r) =
    let w = plain_to v (c ∷ t) r.0 in
    to_test (is_digit c) (move.One (sym.Line (line.Sequence (c - 48) 1))) (word_rule place.Plain (first_key place.Plain) 0 c) t
    (λ d. inr (
      text_goes c t (digit_text c d) (digit_no_brace c d) (line_digit c t w.word w.tail d w.whole w.longest w.says),
      λ l q. r.1 (value_from (c - 48) q.more) l (numbered_whole c l t d q),
    ))
    (λ d. word_forth place.Plain (first_key place.Plain) 0 c t (omega arith) refl w)

-- ---- the first octet

star_from : (v : Response) (t : List ℕ) → IsUntagged v t → Spells v (42 ∷ 32 ∷ t)
star_from (response.Tagged tag status code) t (inl r) = absurd r.3.says
star_from (response.Tagged tag status code) t (inr r) = absurd r.0.says
star_from response.Continue t (inl r) = absurd r.3.says
star_from response.Continue t (inr r) = absurd r.0.says
star_from (response.Untagged status code) t h = (t, refl, h)
star_from (response.Capability ws) t h = (t, refl, h)
star_from (response.Enabled ws) t h = (t, refl, h)
star_from (response.List attributes delimiter name) t h = (t, refl, h)
star_from (response.StatusItems name items) t h = (t, refl, h)
star_from (response.Flags flags) t h = (t, refl, h)
star_from (response.Exists count) t h = (t, refl, h)
star_from (response.Expunge seq) t h = (t, refl, h)
star_from (response.Fetch seq items) t h = (t, refl, h)
star_from (response.Vanished earlier uids) t h = (t, refl, h)
star_from response.Other t h = (t, refl, h)

abbrev tag_or_none : ℕ → Move Sym
tag_or_none c = cond (is_alnum c) (move.One (sym.Line (line.Tag 1))) move.Fail

abbrev plus_or_tag : ℕ → Move Sym
plus_or_tag c = cond (c == 43) (move.One (sym.Line line.Text)) (tag_or_none c)

start_back : (c : ℕ) (t : List ℕ) → AfterMove (line_rule line.Start c) t → LineLang line.Start (c ∷ t)
start_back c t h = from_test (c == 42) (move.Two (sym.Line (line.Fixed phrase.Space 0)) (sym.Line line.Untagged)) (plus_or_tag c) t (LineLang line.Start (c ∷ t))
    (λ e k.
    let is : c ∷ t ≡ 42 ∷ 32 ∷ k.back = ap (λ (n : ℕ). n ∷ t) (eqb-true c 42 e) ∙ ap (λ (u : List ℕ). 42 ∷ u) (k.whole ∙ ap (λ (u : List ℕ). u ++ k.back) k.first) in
    (k.second.0, subst (Spells k.second.0) (sym is) (star_from k.second.0 k.back k.second.1)))
    (λ e k. from_test (c == 43) (move.One (sym.Line line.Text)) (tag_or_none c) t (LineLang line.Start (c ∷ t))
    (λ f l. (response.Continue, (t, ap (λ (n : ℕ). n ∷ t) (eqb-true c 43 f), l)))
    (λ f l. from_test (is_alnum c) (move.One (sym.Line (line.Tag 1))) move.Fail t (LineLang line.Start (c ∷ t))
    (λ g m.
    let s = tagged_from m.after m.line in (
      response.Tagged (c ∷ m.tag) s.0 s.1,
      record {
        after = m.after;
        whole = ap (λ (u : List ℕ). c ∷ u) m.whole;
        tag_is = (g, m.tag_is);
        some = omega arith;
        few = omega (arith, m.few);
        completes = s.2;
        line = s.3;
      },
    ))
    (λ g m. absurd m) l) k) h

alnum_apart : (c : ℕ) → is_alnum c ≡ true → ((c == 42) ≡ false) × ((c == 43) ≡ false)
alnum_apart c e = (grind arith, grind arith)

tagged_at : (s : Status) (code : Code) (c : ℕ) (t tag : List ℕ) → (h : IsTagged tag s code (c ∷ t)) → c ∷ t ≡ tag ++ 32 ∷ h.after → AfterMove (line_rule line.Start c) t
tagged_at s code c t [] h e = absurd (omega (arith, h.some))
tagged_at s code c t (d ∷ x) h e =
    let same : c ≡ d = cons_head c d t (x ++ 32 ∷ h.after) e in
    let ok : is_alnum c ≡ true = is_true_at is_alnum c d same h.tag_is.0 in
    let apart = alnum_apart c ok in
    at_false (c == 42) (move.Two (sym.Line (line.Fixed phrase.Space 0)) (sym.Line line.Untagged)) (plus_or_tag c) t apart.0
    (at_false (c == 43) (move.One (sym.Line line.Text)) (tag_or_none c) t apart.1
    (at_true (is_alnum c) (move.One (sym.Line (line.Tag 1))) move.Fail t ok
    (record {
      tag = x;
      after = h.after;
      whole = cons_tail c d t (x ++ 32 ∷ h.after) e;
      tag_is = h.tag_is.1;
      few = omega (arith, h.few);
      line = tagged_to s code h.after h.completes h.line;
    })))

star_at : (v : Response) (c : ℕ) (t l : List ℕ) → c ∷ t ≡ 42 ∷ 32 ∷ l → IsUntagged v l → AfterMove (line_rule line.Start c) t
star_at v c t l e h =
    at_true (c == 42) (move.Two (sym.Line (line.Fixed phrase.Space 0)) (sym.Line line.Untagged)) (plus_or_tag c) t (eq-eqb c 42 (cons_head c 42 t (32 ∷ l) e))
    (record { front = 32 ∷ []; back = l; whole = cons_tail c 42 t (32 ∷ l) e; first = refl; second = (v, h) })

plus_at : (c : ℕ) (t l : List ℕ) → c ∷ t ≡ 43 ∷ l → IsLine l → AfterMove (line_rule line.Start c) t
plus_at c t l e h =
    let same : c ≡ 43 = cons_head c 43 t l e in
    at_false (c == 42) (move.Two (sym.Line (line.Fixed phrase.Space 0)) (sym.Line line.Untagged)) (plus_or_tag c) t (ap (λ (n : ℕ). n == 42) same)
    (at_true (c == 43) (move.One (sym.Line line.Text)) (tag_or_none c) t (eq-eqb c 43 same) (subst IsLine (sym (cons_tail c 43 t l e)) h))

start_at : (v : Response) (c : ℕ) (t : List ℕ) → Spells v (c ∷ t) → AfterMove (line_rule line.Start c) t
start_at (response.Tagged tag status code) c t h = tagged_at status code c t tag h h.whole
start_at response.Continue c t h = plus_at c t h.0 h.1 h.2
start_at (response.Untagged status code) c t h = star_at (response.Untagged status code) c t h.0 h.1 h.2
start_at (response.Capability ws) c t h = star_at (response.Capability ws) c t h.0 h.1 h.2
start_at (response.Enabled ws) c t h = star_at (response.Enabled ws) c t h.0 h.1 h.2
start_at (response.List attributes delimiter name) c t h = star_at (response.List attributes delimiter name) c t h.0 h.1 h.2
start_at (response.StatusItems name items) c t h = star_at (response.StatusItems name items) c t h.0 h.1 h.2
start_at (response.Flags flags) c t h = star_at (response.Flags flags) c t h.0 h.1 h.2
start_at (response.Exists count) c t h = star_at (response.Exists count) c t h.0 h.1 h.2
start_at (response.Expunge seq) c t h = star_at (response.Expunge seq) c t h.0 h.1 h.2
start_at (response.Fetch seq items) c t h = star_at (response.Fetch seq items) c t h.0 h.1 h.2
start_at (response.Vanished earlier uids) c t h = star_at (response.Vanished earlier uids) c t h.0 h.1 h.2
start_at response.Other c t h = star_at response.Other c t h.0 h.1 h.2

-- ---- the group

-- a fitting symbol of a line reads an octet and any text that its rule still reads after it
pub line_edge_back : (s : Line) (c : ℕ) (t : List ℕ) → LineFits s ≡ true → AfterMove (line_rule s c) t → LineLang s (c ∷ t)
line_edge_back line.Start c t fits h = start_back c t h
line_edge_back (line.Tag n) c t fits h = tag_back n c t fits h
line_edge_back line.Untagged c t fits h = untagged_back c t h
line_edge_back (line.Sequence v n) c t fits h = sequence_back v n c t fits h
line_edge_back line.Text c t fits h = line_back c t h
line_edge_back (line.Fixed p at) c t fits h = fixed_back p at c t h
line_edge_back (line.Folded p at) c t fits h = folded_back p at c t h

-- where a fitting symbol of a line reads an octet and a text, its rule still reads the text after the octet
pub line_edge_forth : (s : Line) (c : ℕ) (t : List ℕ) → LineFits s ≡ true → LineLang s (c ∷ t) → AfterMove (line_rule s c) t
line_edge_forth line.Start c t fits h = start_at h.0 c t h.1
line_edge_forth (line.Tag n) c t fits h = tag_at n c t h.tag h.after h.whole h.tag_is h.few h.line
line_edge_forth line.Untagged c t fits h = untagged_at h.0 c t h.1
line_edge_forth (line.Sequence v n) c t fits h = sequence_forth v n c t fits h
line_edge_forth line.Text c t fits h = line_at c t h.text h.whole h.text_is
line_edge_forth (line.Fixed p at) c t fits h = fixed_forth p at c t fits h
line_edge_forth (line.Folded p at) c t fits h = folded_forth p at c t fits h

start_none : (v : Response) → Spells v [] → ⊥
start_none (response.Tagged tag status code) h = mid tag h.after 32 h.whole
start_none response.Continue h = let e = h.1 in cc
start_none (response.Untagged status code) h = let e = h.1 in cc
start_none (response.Capability ws) h = let e = h.1 in cc
start_none (response.Enabled ws) h = let e = h.1 in cc
start_none (response.List attributes delimiter name) h = let e = h.1 in cc
start_none (response.StatusItems name items) h = let e = h.1 in cc
start_none (response.Flags flags) h = let e = h.1 in cc
start_none (response.Exists count) h = let e = h.1 in cc
start_none (response.Expunge seq) h = let e = h.1 in cc
start_none (response.Fetch seq items) h = let e = h.1 in cc
start_none (response.Vanished earlier uids) h = let e = h.1 in cc
start_none response.Other h = let e = h.1 in cc

untagged_none : (v : Response) → IsUntagged v [] → ⊥
untagged_none v (inl r) = mid r.2.0 r.1 32 r.2.1
untagged_none v (inr r) = word_empty place.Plain [] (plain_to v [] r.0)

sequence_none : (v n : ℕ) → SequenceRest v n [] → ⊥
sequence_none v n (inl r) = mid r.1.more r.0 32 r.1.whole
sequence_none v n (inr r) = free_empty (free.Text pending.Nothing) refl r.0

-- no fitting symbol of a line reads the empty text
pub line_empty : (s : Line) → LineFits s ≡ true → LineLang s [] → ⊥
line_empty line.Start fits h = start_none h.0 h.1
line_empty (line.Tag n) fits h = mid h.tag h.after 32 h.whole
line_empty line.Untagged fits h = untagged_none h.0 h.1
line_empty (line.Sequence v n) fits h = sequence_none v n h
line_empty line.Text fits h = mid h.text (10 ∷ []) 13 h.whole
line_empty (line.Fixed p at) fits h = let split = drop_at (phrase_text p) at (ltb-true _ _ fits) in cc
line_empty (line.Folded p at) fits h = let split = drop_at (phrase_text p) at (ltb-true _ _ fits) in let e : [] ≡ drop at (phrase_text p) = h in cc

ok_line : (t : List ℕ) × WordRest place.Tagged [] t
ok_line = word_example place.Tagged key.Ok 0 (omega arith) refl

bang_word : (t : List ℕ) × WordRest place.Numbered [] t
bang_word = word_example place.Numbered key.Exists 0 (omega arith) refl

bang_line : IsWordLine None response.Other (33 ∷ crlf)
bang_line = record {
  word = 33 ∷ [];
  tail = crlf;
  whole = refl;
  word_is = (refl, tt);
  some = λ e. cc;
  longest = refl;
  says = (
    λ k. (let q = plain_key (33 ∷ []) k in no_bang q.0 [] [] q.2),
    (0, free_from 0 (33 ∷ crlf) (record { text = 33 ∷ []; whole = refl; text_is = (refl, tt); no_count = tt })),
  );
}

bang_untagged : IsUntagged response.Other (33 ∷ crlf)
bang_untagged = inr (bang_line, λ n l q. both (is_digit 33) (numbered_rest n 33 l crlf q.0 q.1 q.2).0 refl)

tag_example : (n : ℕ) → LineFits (line.Tag n) ≡ true → TagRest n (32 ∷ ok_line.0)
tag_example n fits = record {
  tag = [];
  after = ok_line.0;
  whole = refl;
  tag_is = tt;
  few = omega (arith, leb-true _ _ (and_parts (nat_lt 0 n) (nat_le n 32) fits).1);
  line = ok_line.1;
}

-- each fitting symbol of a line reads some text
pub line_example : (s : Line) → LineFits s ≡ true → (t : List ℕ) × LineLang s t
line_example line.Start fits = (42 ∷ 32 ∷ 33 ∷ crlf, (response.Other, (33 ∷ crlf, refl, bang_untagged)))
line_example (line.Tag n) fits = (32 ∷ ok_line.0, tag_example n fits)
line_example line.Untagged fits = (33 ∷ crlf, (response.Other, bang_untagged))
line_example (line.Sequence v n) fits =
    let s = sequence_fits v n fits in
    (32 ∷ bang_word.0, inl (bang_word.0, numbered_here v n bang_word.0 s.1 s.2, bang_word.1))
line_example line.Text fits = (crlf, record { text = []; whole = refl; text_is = tt })
line_example (line.Fixed p at) fits = (drop at (phrase_text p), refl)
line_example (line.Folded p at) fits = folded_some p at
