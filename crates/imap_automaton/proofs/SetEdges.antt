-- One octet at words and at sets of UIDs up to a line's end.
use Rattle.std.proofs.Common.{◌≡◌, ℕ, ◌+◌, ◌-◌, ◌*◌, Bool, true, false, not, ◌&&◌, List, [], ◌∷◌, ◌++◌, map, cond, refl, sym, ap, subst, ◌∙◌, append_assoc, arith, inl, inr}
use Rattle.std.specs.Prelude.{◌==◌, nat_lt, codes}
use Rattle.std.proofs.lemmas.Bool.{eqb-true, ltb-true, and_parts, and_from, lt-ltb, eq-eqb}
use Rattle.imap_keywords.specs.declared.phrase.Phrase.TheVariants as phrase
use Rattle.imap_automaton.specs.declared.sym.Line.TheVariants as line
use Rattle.imap_automaton.specs.declared.sym.Item.TheVariants as item
use Rattle.imap_automaton.specs.declared.sym.Words.{Words}
use Rattle.imap_automaton.specs.declared.sym.Words.TheVariants as words
use Rattle.imap_automaton.specs.declared.sym.Set.{Set}
use Rattle.imap_automaton.specs.declared.sym.Set.TheVariants as set
use Rattle.imap_automaton.specs.declared.sym.Sym.TheVariants as sym
use Rattle.pushdown.specs.declared.moves.Move.TheVariants as move
use Rattle.imap_automaton.specs.SetRules.{words_more, words_rule, set_ends, set_number, set_rule}
use Rattle.imap_automaton.specs.Fits.{ItemFits, SetFits}
use Rattle.imap_automaton.specs.Langs.{FirstWord, WordsLang, NumberRest, SetLine, RangeEnds, NumberEnds, SetLang, AfterMove}
use Rattle.pushdown.proofs.Lists.{cons_head, cons_tail}
use Rattle.imap_automaton.proofs.Tests.{from_test, to_test, at_true, at_false, is_true_at, both, crlf_of, crlf_parts, mid}
use Rattle.imap_automaton.proofs.ItemEdges.{number_more, number_goes, number_none, number_some, next_fits}
use Rattle.imap_automaton.proofs.Rests.{number_from, number_to}
use Rattle.imap_types.specs.declared.uid_set.UidRange.{UidRange}
use Rattle.imap_types.specs.Octets.{is_digit, is_word, lower}
use Rattle.imap_types.specs.Texts.{Each, Then, crlf, IsCrlf, IsWord}
use Rattle.imap_types.specs.Numbers.{value_from}
use Rattle.imap_types.specs.Lines.{IsPrinted, AllPrinted, spaced, IsWords}
use Rattle.imap_types.specs.UidSets.{range_of, IsRange, IsSet, IsSetLine}

-- ---- words

word_apart : (c : ℕ) → is_word c ≡ true → ((c == 32) ≡ false) × ((c == 13) ≡ false)
word_apart c e = (grind arith, grind arith)

-- a word and those after it, after a space
joined_words : (c : ℕ) (t : List ℕ) → c ≡ 32 → FirstWord IsPrinted t → (ws : List (List ℕ)) × IsWords ws (c ∷ t)
joined_words c t e h = (h.word ∷ h.words, ((h.front, h.others), ap (λ (n : ℕ). n ∷ t) e ∙ ap (λ (u : List ℕ). 32 ∷ u) h.whole))

-- after a word, an octet is read and any text that its rule still reads after it
pub words_more_back : (c : ℕ) (t : List ℕ) → AfterMove (words_more c) t → WordsLang words.More (c ∷ t)
words_more_back c t h = from_test (c == 32) (move.One (sym.Words words.First)) (cond (c == 13) (move.One (sym.Line (line.Fixed phrase.Crlf 1))) move.Fail) t
    (WordsLang words.More (c ∷ t))
    (λ e k. joined_words c t (eqb-true c 32 e) k)
    (λ e k. from_test (c == 13) (move.One (sym.Line (line.Fixed phrase.Crlf 1))) move.Fail t (WordsLang words.More (c ∷ t)) (λ f l. ([], (tt, crlf_of c t (eqb-true c 13 f) l)))
    (λ f l. absurd l) k) h

words_at : (ws : List (List ℕ)) (c : ℕ) (t : List ℕ) → AllPrinted ws → c ∷ t ≡ spaced ws ++ crlf → AfterMove (words_more c) t
words_at [] c t all e =
    let k = crlf_parts c t e in
    at_false (c == 32) (move.One (sym.Words words.First)) (cond (c == 13) (move.One (sym.Line (line.Fixed phrase.Crlf 1))) move.Fail) t (ap (λ (n : ℕ). n == 32) k.0)
    (at_true (c == 13) (move.One (sym.Line (line.Fixed phrase.Crlf 1))) move.Fail t (eq-eqb c 13 k.0) k.1)
words_at (w ∷ ws) c t all e =
    at_true (c == 32) (move.One (sym.Words words.First)) (cond (c == 13) (move.One (sym.Line (line.Fixed phrase.Crlf 1))) move.Fail) t
    (eq-eqb c 32 (cons_head c 32 t ((w ++ spaced ws) ++ crlf) e))
    (record { word = w; words = ws; whole = cons_tail c 32 t ((w ++ spaced ws) ++ crlf) e; front = all.0; others = all.1 })

-- where an octet and a text are read after a word, the rule still reads the text after the octet
pub words_more_forth : (c : ℕ) (t : List ℕ) → WordsLang words.More (c ∷ t) → AfterMove (words_more c) t
words_more_forth c t h = words_at h.0 c t h.1.0 h.1.1

-- what follows a word, up to the line's end, isn't the empty text
pub words_more_none : WordsLang words.More [] → ⊥
words_more_none h = mid (spaced h.0) (10 ∷ []) 13 h.1.1

-- one octet more of a word
more_of_word : (c : ℕ) (t : List ℕ) (Front : List ℕ → Type 0) → ((w : List ℕ) → Each is_word w → Front (c ∷ w)) → FirstWord (Each is_word) t → FirstWord Front (c ∷ t)
more_of_word c t Front f h = record { word = c ∷ h.word; words = h.words; whole = ap (λ (u : List ℕ). c ∷ u) h.whole; front = f h.word h.front; others = h.others }

printed : (c : ℕ) → is_word c ≡ true → (w : List ℕ) → Each is_word w → IsPrinted (c ∷ w)
printed c e w h = ((e, h), omega arith)

-- a symbol of words up to a line's end reads an octet and any text that its rule still reads after it
pub words_back : (s : Words) (c : ℕ) (t : List ℕ) → AfterMove (words_rule s c) t → WordsLang s (c ∷ t)
words_back words.More c t h = words_more_back c t h
words_back words.First c t h = from_test (is_word c) (move.One (sym.Words words.Rest)) move.Fail t (FirstWord IsPrinted (c ∷ t)) (λ e k. more_of_word c t IsPrinted (printed c e) k)
    (λ e k. absurd k) h
words_back words.Rest c t h = from_test (is_word c) (move.One (sym.Words words.Rest)) (words_more c) t (FirstWord (Each is_word) (c ∷ t))
    (λ e k. more_of_word c t (Each is_word) (λ w f. (e, f)) k)
    (λ e k. let m = words_more_back c t k in record { word = []; words = m.0; whole = m.1.1; front = tt; others = m.1.0 }) h

first_word : (w : List ℕ) (ws : List (List ℕ)) (c : ℕ) (t : List ℕ) → IsPrinted w → AllPrinted ws → c ∷ t ≡ (w ++ spaced ws) ++ crlf → AfterMove (words_rule words.First c) t
first_word [] ws c t p all e = absurd (omega (arith, p.1))
first_word (d ∷ w) ws c t p all e =
    let same : c ≡ d = cons_head c d t ((w ++ spaced ws) ++ crlf) e in
    at_true (is_word c) (move.One (sym.Words words.Rest)) move.Fail t (is_true_at is_word c d same p.0.0)
    (record { word = w; words = ws; whole = cons_tail c d t ((w ++ spaced ws) ++ crlf) e; front = p.0.1; others = all })

rest_word : (w : List ℕ) (ws : List (List ℕ)) (c : ℕ) (t : List ℕ) → Each is_word w → AllPrinted ws → c ∷ t ≡ (w ++ spaced ws) ++ crlf → AfterMove (words_rule words.Rest c) t
rest_word [] ws c t p all e =
    let m : AfterMove (words_more c) t = words_at ws c t all e in
    to_test (is_word c) (move.One (sym.Words words.Rest)) (words_more c) t (λ f. absurd (no_word c ws t f e)) (λ f. m)
  where
    no_word : (c : ℕ) (ws : List (List ℕ)) (t : List ℕ) → is_word c ≡ true → c ∷ t ≡ spaced ws ++ crlf → ⊥
    no_word c [] t f e = both (c == 13) (eq-eqb c 13 (cons_head c 13 t (10 ∷ []) e)) (word_apart c f).1
    no_word c (w ∷ ws) t f e = both (c == 32) (eq-eqb c 32 (cons_head c 32 t ((w ++ spaced ws) ++ crlf) e)) (word_apart c f).0
rest_word (d ∷ w) ws c t p all e =
    let same : c ≡ d = cons_head c d t ((w ++ spaced ws) ++ crlf) e in
    at_true (is_word c) (move.One (sym.Words words.Rest)) (words_more c) t (is_true_at is_word c d same p.0)
    (record { word = w; words = ws; whole = cons_tail c d t ((w ++ spaced ws) ++ crlf) e; front = p.1; others = all })

-- where a symbol of words up to a line's end reads an octet and a text, its rule still reads the text after the octet
pub words_forth : (s : Words) (c : ℕ) (t : List ℕ) → WordsLang s (c ∷ t) → AfterMove (words_rule s c) t
words_forth words.More c t h = words_more_forth c t h
words_forth words.First c t h = first_word h.word h.words c t h.front h.others h.whole
words_forth words.Rest c t h = rest_word h.word h.words c t h.front h.others h.whole

-- no symbol of words up to a line's end reads the empty text
pub words_empty : (s : Words) → WordsLang s [] → ⊥
words_empty words.More h = words_more_none h
words_empty words.First h = mid (h.word ++ spaced h.words) (10 ∷ []) 13 h.whole
words_empty words.Rest h = mid (h.word ++ spaced h.words) (10 ∷ []) 13 h.whole

-- each symbol of words up to a line's end reads some text
pub words_example : (s : Words) → (t : List ℕ) × WordsLang s t
words_example words.More = (crlf, ([], (tt, refl)))
words_example words.First = (97 ∷ crlf, record { word = 97 ∷ []; words = []; whole = refl; front = ((refl, tt), omega arith); others = tt })
words_example words.Rest = (crlf, record { word = []; words = []; whole = refl; front = tt; others = tt })

-- ---- a set is a number and what may stand after it

-- what follows the first range of a set
ends_of : (r : UidRange) (rs : List UidRange) (t : List ℕ) → IsSetLine (r ∷ rs) t → (front back : List ℕ) × (t ≡ front ++ back) × IsRange r front × RangeEnds back
ends_of r [] t h = (h.front, h.back, h.whole, h.first, inl h.second)
ends_of r (q ∷ rs) t h =
    let s = h.first in (
      s.0,
      44 ∷ s.1 ++ h.back,
      h.whole ∙ ap (λ (u : List ℕ). u ++ h.back) s.2 ∙ append_assoc s.0 (44 ∷ s.1) h.back,
      s.3,
      inr (s.1 ++ h.back, refl, (q ∷ rs, record { front = s.1; back = h.back; whole = refl; first = s.4; second = h.second })),
    )

range_ends : (r : UidRange) (front back : List ℕ) → IsRange r front → RangeEnds back → Then (NumberRest 0 0) (NumberEnds false) (front ++ back)
range_ends r front back (inl n) e = record { front = front; back = back; whole = refl; first = number_from n.0 front n.1; second = inl e }
range_ends r front back (inr p) e = record {
  front = p.2;
  back = 58 ∷ p.3 ++ back;
  whole = ap (λ (u : List ℕ). u ++ back) p.4 ∙ append_assoc p.2 (58 ∷ p.3) back;
  first = number_from p.0 p.2 p.5;
  second = inr (p.3 ++ back, refl, record { front = p.3; back = back; whole = refl; first = number_from p.1 p.3 p.6; second = e });
}

-- a set of UIDs up to the line's end is a nonzero number and what may follow it
pub set_forth : (t : List ℕ) → SetLine t → Then (NumberRest 0 0) (NumberEnds false) t
set_forth t ([], h) = absurd h.first
set_forth t (r ∷ rs, h) =
    let e = ends_of r rs t h in
    subst (λ (u : List ℕ). Then (NumberRest 0 0) (NumberEnds false) u) (sym e.2) (range_ends r e.0 e.1 e.3 e.4)

-- a range and what follows it
with_ends : (r : UidRange) (front back t : List ℕ) → t ≡ front ++ back → IsRange r front → RangeEnds back → SetLine t
with_ends r front back t e h (inl k) = (r ∷ [], record { front = front; back = back; whole = e; first = h; second = k })
with_ends r front back t e h (inr k) = by k.2.0 k.2.1
  where
    by : (rs : List UidRange) → IsSetLine rs k.0 → SetLine t
    by [] s = absurd s.first
    by (q ∷ rs) s = (
      r ∷ q ∷ rs,
      record {
        front = front ++ 44 ∷ s.front;
        back = s.back;
        whole = e ∙ ap (λ (u : List ℕ). front ++ u) (k.1 ∙ ap (λ (u : List ℕ). 44 ∷ u) s.whole) ∙ sym (append_assoc front (44 ∷ s.front) s.back);
        first = (front, s.front, refl, h, s.first);
        second = s.second;
      },
    )

-- a nonzero number and what may follow it are a set of UIDs up to the line's end
pub set_back : (t : List ℕ) → Then (NumberRest 0 0) (NumberEnds false) t → SetLine t
set_back t h = by h.second
  where
    m : ℕ
    m = value_from 0 h.front

    by : NumberEnds false h.back → SetLine t
    by (inl e) = with_ends (range_of m m) h.front h.back t h.whole (inl (m, number_to h.front h.first, refl)) e
    by (inr p) =
        let k = p.2 in
        let n = value_from 0 k.front in
        with_ends (range_of m n) (h.front ++ 58 ∷ k.front) k.back t
        (h.whole ∙ ap (λ (u : List ℕ). h.front ++ u) (p.1 ∙ ap (λ (u : List ℕ). 58 ∷ u) k.whole) ∙ sym (append_assoc h.front (58 ∷ k.front) k.back))
        (inr (m, n, h.front, k.front, refl, number_to h.front h.first, number_to k.front k.first, refl)) k.second

-- ---- after a number

ends_back : (second : Bool) (c : ℕ) (t : List ℕ) → AfterMove (set_ends second c) t → NumberEnds second (c ∷ t)
ends_back second c t h = from_test (c == 13) (move.One (sym.Line (line.Fixed phrase.Crlf 1)))
    (cond (c == 44) (move.One (sym.Set (set.Number 0 0 false))) (cond (c == 58 && not second) (move.One (sym.Set (set.Number 0 0 true))) move.Fail)) t (NumberEnds second (c ∷ t))
    (λ e k. range second (inl (crlf_of c t (eqb-true c 13 e) k)))
    (λ e k. from_test (c == 44) (move.One (sym.Set (set.Number 0 0 false))) (cond (c == 58 && not second) (move.One (sym.Set (set.Number 0 0 true))) move.Fail) t
    (NumberEnds second (c ∷ t))
    (λ f l. range second (inr (t, ap (λ (n : ℕ). n ∷ t) (eqb-true c 44 f), set_back t l)))
    (λ f l. from_test (c == 58 && not second) (move.One (sym.Set (set.Number 0 0 true))) move.Fail t (NumberEnds second (c ∷ t))
    (λ g m. let p = and_parts (c == 58) (not second) g in more second p.1 (t, ap (λ (n : ℕ). n ∷ t) (eqb-true c 58 p.0), m))
    (λ g m. absurd m) l) k) h
  where
    range : (second : Bool) → RangeEnds (c ∷ t) → NumberEnds second (c ∷ t)
    range true r = r
    range false r = inl r

    more : (second : Bool) → not second ≡ true → (rest : List ℕ) × (c ∷ t ≡ 58 ∷ rest) × Then (NumberRest 0 0) RangeEnds rest → NumberEnds second (c ∷ t)
    more true e r = absurd cc
    more false e r = inr r

range_forth : (second : Bool) (c : ℕ) (t : List ℕ) → RangeEnds (c ∷ t) → AfterMove (set_ends second c) t
range_forth second c t (inl e) =
    let k = crlf_parts c t e in
    at_true (c == 13) (move.One (sym.Line (line.Fixed phrase.Crlf 1)))
    (cond (c == 44) (move.One (sym.Set (set.Number 0 0 false))) (cond (c == 58 && not second) (move.One (sym.Set (set.Number 0 0 true))) move.Fail)) t (eq-eqb c 13 k.0) k.1
range_forth second c t (inr r) =
    let same : c ≡ 44 = cons_head c 44 t r.0 r.1 in
    at_false (c == 13) (move.One (sym.Line (line.Fixed phrase.Crlf 1)))
    (cond (c == 44) (move.One (sym.Set (set.Number 0 0 false))) (cond (c == 58 && not second) (move.One (sym.Set (set.Number 0 0 true))) move.Fail)) t
    (ap (λ (n : ℕ). n == 13) same)
    (at_true (c == 44) (move.One (sym.Set (set.Number 0 0 false))) (cond (c == 58 && not second) (move.One (sym.Set (set.Number 0 0 true))) move.Fail) t (eq-eqb c 44 same)
    (set_forth t (subst SetLine (sym (cons_tail c 44 t r.0 r.1)) r.2)))

ends_forth : (second : Bool) (c : ℕ) (t : List ℕ) → NumberEnds second (c ∷ t) → AfterMove (set_ends second c) t
ends_forth true c t h = range_forth true c t h
ends_forth false c t (inl h) = range_forth false c t h
ends_forth false c t (inr r) =
    let same : c ≡ 58 = cons_head c 58 t r.0 r.1 in
    at_false (c == 13) (move.One (sym.Line (line.Fixed phrase.Crlf 1)))
    (cond (c == 44) (move.One (sym.Set (set.Number 0 0 false))) (cond (c == 58 && true) (move.One (sym.Set (set.Number 0 0 true))) move.Fail)) t (ap (λ (n : ℕ). n == 13) same)
    (at_false (c == 44) (move.One (sym.Set (set.Number 0 0 false))) (cond (c == 58 && true) (move.One (sym.Set (set.Number 0 0 true))) move.Fail) t (ap (λ (n : ℕ). n == 44) same)
    (at_true (c == 58 && true) (move.One (sym.Set (set.Number 0 0 true))) move.Fail t (and_from (c == 58) true (eq-eqb c 58 same) refl)
    (subst (λ (u : List ℕ). Then (NumberRest 0 0) RangeEnds u) (sym (cons_tail c 58 t r.0 r.1)) r.2)))

-- what follows a number begins with no digit
ends_digit : (second : Bool) (c : ℕ) (t : List ℕ) → NumberEnds second (c ∷ t) → is_digit c ≡ false
ends_digit second c t h = by second h
  where
    range : RangeEnds (c ∷ t) → is_digit c ≡ false
    range (inl e) = ap is_digit (cons_head c 13 t (10 ∷ []) e)
    range (inr r) = ap is_digit (cons_head c 44 t r.0 r.1)

    by : (second : Bool) → NumberEnds second (c ∷ t) → is_digit c ≡ false
    by true h = range h
    by false (inl h) = range h
    by false (inr r) = ap is_digit (cons_head c 58 t r.0 r.1)

ends_some : (second : Bool) → NumberEnds second [] → ⊥
ends_some second h = by second h
  where
    range : RangeEnds [] → ⊥
    range (inl e) = cc
    range (inr r) = let e = r.1 in cc

    by : (second : Bool) → NumberEnds second [] → ⊥
    by true h = range h
    by false (inl h) = range h
    by false (inr r) = let e = r.1 in cc

number_back : (v n : ℕ) (second : Bool) (c : ℕ) (t : List ℕ) → ItemFits (item.Number v n) ≡ true → AfterMove (set_number v n second c) t → SetLang (set.Number v n second) (c ∷ t)
number_back v n second c t fits h = from_test (is_digit c)
    (cond (next_fits v n c) (move.One (sym.Set (set.Number (10 * v + (c - 48)) (n + 1) second))) move.Fail)
    (cond (nat_lt 0 v) (set_ends second c) move.Fail) t (SetLang (set.Number v n second) (c ∷ t))
    (λ e k. from_test (next_fits v n c) (move.One (sym.Set (set.Number (10 * v + (c - 48)) (n + 1) second))) move.Fail t (SetLang (set.Number v n second) (c ∷ t))
    (λ f l. record { front = c ∷ l.front; back = l.back; whole = ap (λ (u : List ℕ). c ∷ u) l.whole; first = number_more v n c l.front e l.first; second = l.second })
    (λ f l. absurd l) k)
    (λ e k. from_test (nat_lt 0 v) (set_ends second c) move.Fail t (SetLang (set.Number v n second) (c ∷ t))
    (λ f l. record { front = []; back = c ∷ t; whole = refl; first = number_none v n fits (ltb-true 0 v f); second = ends_back second c t l })
    (λ f l. absurd l) k) h

number_at : (v n : ℕ) (second : Bool) (c : ℕ) (t digits rest : List ℕ) → c ∷ t ≡ digits ++ rest → NumberRest v n digits → NumberEnds second rest → AfterMove
    (set_number v n second c) t
number_at v n second c t [] rest e number ends =
    let k : NumberEnds second (c ∷ t) = subst (NumberEnds second) (sym e) ends in
    at_false (is_digit c)
    (cond (next_fits v n c) (move.One (sym.Set (set.Number (10 * v + (c - 48)) (n + 1) second))) move.Fail)
    (cond (nat_lt 0 v) (set_ends second c) move.Fail) t (ends_digit second c t k)
    (at_true (nat_lt 0 v) (set_ends second c) move.Fail t (lt-ltb 0 v number.not_zero) (ends_forth second c t k))
number_at v n second c t (d ∷ digits) rest e number ends =
    let same : c ≡ d = cons_head c d t (digits ++ rest) e in
    let k = number_goes v n c digits (subst (λ (q : ℕ). NumberRest v n (q ∷ digits)) (sym same) number) in
    at_true (is_digit c)
    (cond (next_fits v n c) (move.One (sym.Set (set.Number (10 * v + (c - 48)) (n + 1) second))) move.Fail)
    (cond (nat_lt 0 v) (set_ends second c) move.Fail) t k.0
    (at_true (next_fits v n c) (move.One (sym.Set (set.Number (10 * v + (c - 48)) (n + 1) second))) move.Fail t k.1
    (record { front = digits; back = rest; whole = cons_tail c d t (digits ++ rest) e; first = k.2; second = ends }))

-- ---- the front of a set

folded_earlier : (u : List ℕ) → map lower u ≡ codes "earlier) " → IsWord (codes "(earlier) ") (40 ∷ u)
folded_earlier u e = ap (λ (q : List ℕ). 40 ∷ q) e

open_back : (c : ℕ) (t : List ℕ) → AfterMove (set_rule set.Open c) t → SetLang set.Open (c ∷ t)
open_back c t h = from_test (c == 40) (move.Two (sym.Line (line.Folded phrase.Earlier 1)) (sym.Set (set.Number 0 0 false))) (set_number 0 0 false c) t (SetLang set.Open (c ∷ t))
    (λ e k.
    let s = set_back k.back k.second in (
      true,
      s.0,
      record {
        front = 40 ∷ k.front;
        back = k.back;
        whole = ap (λ (n : ℕ). n ∷ t) (eqb-true c 40 e) ∙ ap (λ (u : List ℕ). 40 ∷ u) k.whole;
        first = folded_earlier k.front k.first;
        second = s.1;
      },
    ))
    (λ e k. let s = set_back (c ∷ t) (number_back 0 0 false c t refl k) in (false, s.0, s.1)) h

lower_bracket : (c : ℕ) → lower c ≡ 40 → c ≡ 40
lower_bracket c e = grind arith

earlier_at : (c : ℕ) (t front back : List ℕ) → c ∷ t ≡ front ++ back → IsWord (codes "(earlier) ") front → (c ≡ 40)
    × ((u : List ℕ) × (t ≡ u ++ back) × (map lower u ≡ codes "earlier) "))
earlier_at c t [] back e h = absurd cc
earlier_at c t (d ∷ front) back e h =
    let same : c ≡ d = cons_head c d t (front ++ back) e in (
      same ∙ lower_bracket d (cons_head (lower d) 40 (map lower front) (codes "earlier) ") h),
      (front, cons_tail c d t (front ++ back) e, cons_tail (lower d) 40 (map lower front) (codes "earlier) ") h),
    )

digit_not_bracket : (c : ℕ) → is_digit c ≡ true → (c == 40) ≡ false
digit_not_bracket c e = grind arith

first_digit : (c : ℕ) (t digits rest : List ℕ) → c ∷ t ≡ digits ++ rest → NumberRest 0 0 digits → is_digit c ≡ true
first_digit c t [] rest e h = absurd (omega (arith, h.some))
first_digit c t (d ∷ digits) rest e h = is_true_at is_digit c d (cons_head c d t (digits ++ rest) e) h.each.0

open_forth : (c : ℕ) (t : List ℕ) → SetLang set.Open (c ∷ t) → AfterMove (set_rule set.Open c) t
open_forth c t (true, rs, h) =
    let k = earlier_at c t h.front h.back h.whole h.first in
    at_true (c == 40) (move.Two (sym.Line (line.Folded phrase.Earlier 1)) (sym.Set (set.Number 0 0 false))) (set_number 0 0 false c) t (eq-eqb c 40 k.0)
    (record { front = k.1.0; back = h.back; whole = k.1.1; first = k.1.2; second = set_forth h.back (rs, h.second) })
open_forth c t (false, rs, h) =
    let k = set_forth (c ∷ t) (rs, h) in
    at_false (c == 40) (move.Two (sym.Line (line.Folded phrase.Earlier 1)) (sym.Set (set.Number 0 0 false))) (set_number 0 0 false c) t
    (digit_not_bracket c (first_digit c t k.front k.back k.whole k.first))
    (number_at 0 0 false c t k.front k.back k.whole k.first k.second)

-- ---- the group

-- a fitting symbol of a set of UIDs reads an octet and any text that its rule still reads after it
pub set_edge_back : (s : Set) (c : ℕ) (t : List ℕ) → SetFits s ≡ true → AfterMove (set_rule s c) t → SetLang s (c ∷ t)
set_edge_back set.Open c t fits h = open_back c t h
set_edge_back (set.Number v n second) c t fits h = number_back v n second c t fits h

-- where a symbol of a set of UIDs reads an octet and a text, its rule still reads the text after the octet
pub set_edge_forth : (s : Set) (c : ℕ) (t : List ℕ) → SetLang s (c ∷ t) → AfterMove (set_rule s c) t
set_edge_forth set.Open c t h = open_forth c t h
set_edge_forth (set.Number v n second) c t h = number_at v n second c t h.front h.back h.whole h.first h.second

none_of_two : (A B : List ℕ → Type 0) → (B [] → ⊥) → Then A B [] → ⊥
none_of_two A B f h = by h.front h.back h.whole h.second
  where
    by : (x y : List ℕ) → [] ≡ x ++ y → B y → ⊥
    by [] [] e b = f b
    by [] (c ∷ y) e b = cc
    by (c ∷ x) y e b = cc

crlf_none : IsCrlf [] → ⊥
crlf_none e = cc

-- no symbol of a set of UIDs reads the empty text
pub set_empty : (s : Set) → SetLang s [] → ⊥
set_empty set.Open (true, rs, h) = none_of_two (IsWord (codes "(earlier) ")) (IsSetLine rs) (none_of_two (IsSet rs) IsCrlf crlf_none) h
set_empty set.Open (false, rs, h) = none_of_two (IsSet rs) IsCrlf crlf_none h
set_empty (set.Number v n second) h = none_of_two (NumberRest v n) (NumberEnds second) (ends_some second) h

crlf_ends : (second : Bool) → NumberEnds second crlf
crlf_ends true = inl refl
crlf_ends false = inl (inl refl)

-- each fitting symbol of a set of UIDs reads some text
pub set_example : (s : Set) → SetFits s ≡ true → (t : List ℕ) × SetLang s t
set_example set.Open fits =
    let k = number_some 0 0 refl in
    let s = set_back (k.0 ++ crlf) (record { front = k.0; back = crlf; whole = refl; first = k.1; second = crlf_ends false }) in
    (k.0 ++ crlf, (false, s.0, s.1))
set_example (set.Number v n second) fits = let k = number_some v n fits in (k.0 ++ crlf, record { front = k.0; back = crlf; whole = refl; first = k.1; second = crlf_ends second })
