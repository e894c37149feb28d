-- One octet at text with literals.
use Rattle.std.proofs.Common.{◌≡◌, ℕ, zero, suc, ◌-◌, ◌≤◌, true, ◌&&◌, List, [], ◌∷◌, ◌++◌, length, cond, refl, sym, ap, subst, ◌∙◌, arith, replicate}
use Rattle.std.specs.Prelude.{◌==◌, nat_lt, nat_le}
use Rattle.std.proofs.lemmas.Bool.{eqb-true, ltb-true, leb-true, and_parts, and_from, lt-ltb, le-leb, eq-eqb}
use Rattle.std.proofs.lemmas.List.{length-replicate, nil_from_length}
use Rattle.imap_keywords.specs.declared.count.Pending.{Pending}
use Rattle.imap_keywords.specs.declared.count.Pending.TheVariants as pending
use Rattle.imap_automaton.specs.declared.sym.Free.{Free}
use Rattle.imap_automaton.specs.declared.sym.Free.TheVariants as free
use Rattle.imap_automaton.specs.declared.sym.Sym.TheVariants as sym
use Rattle.pushdown.specs.declared.moves.Move.TheVariants as move
use Rattle.imap_keywords.specs.Counts.{pend, pends}
use Rattle.imap_automaton.specs.FreeRules.{free_end, text_rule, free_rule}
use Rattle.imap_automaton.specs.Fits.{FreeFits}
use Rattle.imap_automaton.specs.Langs.{NoCount, IsFreeFrom, OctetsRest, FreeLang, AfterMove}
use Rattle.pushdown.proofs.Lists.{cons_head, cons_tail, no_append}
use Rattle.imap_automaton.proofs.Tests.{from_test, to_test, at_true, at_false, is_true_at, crlf_of, crlf_parts, mid}
use Rattle.imap_keywords.proofs.Classes.{text_not_cr}
use Rattle.imap_types.specs.Octets.{is_text, is_inside}
use Rattle.imap_types.specs.Texts.{Each, crlf}

-- ---- text

end_none : (s : Pending) (t : List ℕ) → NoCount s → t ≡ 10 ∷ [] → (k : ℕ) × IsFreeFrom k s (13 ∷ t)
end_none s t n h = (0, record { text = []; whole = crlf_of 13 t refl h; text_is = tt; no_count = n })

end_back : (s : Pending) (t : List ℕ) → AfterMove (free_end s) t → (k : ℕ) × IsFreeFrom k s (13 ∷ t)
end_back pending.Nothing t h = end_none pending.Nothing t tt h
end_back (pending.Open v n) t h = end_none (pending.Open v n) t tt h
end_back (pending.Closed v) t h = from_test (nat_le v 50000000) (move.Two (sym.Free (free.Break v)) (sym.Free (free.Text pending.Nothing))) move.Fail t
    ((k : ℕ) × IsFreeFrom k (pending.Closed v) (13 ∷ t))
    (λ e k. (
      suc k.second.0,
      record {
        text = [];
        count = v;
        octets = k.first.0;
        rest = k.back;
        whole = ap (λ (u : List ℕ). 13 ∷ u) (k.whole ∙ ap (λ (u : List ℕ). u ++ k.back) k.first.1);
        text_is = tt;
        counted = refl;
        most = leb-true _ _ e;
        length_is = k.first.2.counted;
        inside = k.first.2.inside;
        goes_on = k.second.1;
      },
    ))
    (λ e k. absurd k) h

more_back : (k : ℕ) (s : Pending) (c : ℕ) (t : List ℕ) → is_text c ≡ true → IsFreeFrom k (pend s c) t → IsFreeFrom k s (c ∷ t)
more_back zero s c t e h = record { text = c ∷ h.text; whole = ap (λ (u : List ℕ). c ∷ u) h.whole; text_is = (e, h.text_is); no_count = h.no_count }
more_back (suc k) s c t e h = record {
  text = c ∷ h.text;
  count = h.count;
  octets = h.octets;
  rest = h.rest;
  whole = ap (λ (u : List ℕ). c ∷ u) h.whole;
  text_is = (e, h.text_is);
  counted = h.counted;
  most = h.most;
  length_is = h.length_is;
  inside = h.inside;
  goes_on = h.goes_on;
}

-- in text outside literals, an octet is read and any text that its rule still reads after it
pub text_back : (s : Pending) (c : ℕ) (t : List ℕ) → AfterMove (text_rule s c) t → FreeLang (free.Text s) (c ∷ t)
text_back s c t h = from_test (c == 13) (free_end s) (cond (is_text c) (move.One (sym.Free (free.Text (pend s c)))) move.Fail) t (FreeLang (free.Text s) (c ∷ t))
    (λ e k. subst (λ (n : ℕ). FreeLang (free.Text s) (n ∷ t)) (sym (eqb-true c 13 e)) (end_back s t k))
    (λ e k. from_test (is_text c) (move.One (sym.Free (free.Text (pend s c)))) move.Fail t (FreeLang (free.Text s) (c ∷ t)) (λ f l. (l.0, more_back l.0 s c t f l.1))
    (λ f l. absurd l) k) h

-- after an octet of text
pub goes_back : (s : Pending) (c : ℕ) (t : List ℕ) → is_text c ≡ true → FreeLang (free.Text (pend s c)) t → FreeLang (free.Text s) (c ∷ t)
goes_back s c t e h = (h.0, more_back h.0 s c t e h.1)

end_plain : (s : Pending) (t : List ℕ) → NoCount s → t ≡ 10 ∷ [] → AfterMove (free_end s) t
end_plain pending.Nothing t n h = h
end_plain (pending.Open v m) t n h = h
end_plain (pending.Closed v) t n h = absurd n

at_end : (s : Pending) (c : ℕ) (t text : List ℕ) → c ∷ t ≡ text ++ crlf → Each is_text text → NoCount (pends s text) → AfterMove (text_rule s c) t
at_end s c t [] e f n =
    let k = crlf_parts c t e in
    at_true (c == 13) (free_end s) (cond (is_text c) (move.One (sym.Free (free.Text (pend s c)))) move.Fail) t (eq-eqb c 13 k.0) (end_plain s t n k.1)
at_end s c t (d ∷ x) e f n =
    let same : c ≡ d = cons_head c d t (x ++ crlf) e in
    let ok : is_text c ≡ true = is_true_at is_text c d same f.0 in
    at_false (c == 13) (free_end s) (cond (is_text c) (move.One (sym.Free (free.Text (pend s c)))) move.Fail) t (text_not_cr c ok)
    (at_true (is_text c) (move.One (sym.Free (free.Text (pend s c)))) move.Fail t ok
    (0, record { text = x; whole = cons_tail c d t (x ++ crlf) e; text_is = f.1; no_count = subst (λ (q : ℕ). NoCount (pends (pend s q) x)) (sym same) n }))

at_literal : (k : ℕ) (s : Pending) (c v : ℕ) (t text o rest : List ℕ) → c ∷ t ≡ text ++ 13 ∷ 10 ∷ o ++ rest → Each is_text text → pends s text ≡ pending.Closed v → v ≤ 50000000
    → length o ≡ v → Each is_inside o → IsFreeFrom k pending.Nothing rest → AfterMove (text_rule s c) t
at_literal k s c v t [] o rest e f n le len ins g =
    at_true (c == 13) (free_end s) (cond (is_text c) (move.One (sym.Free (free.Text (pend s c)))) move.Fail) t (eq-eqb c 13 (cons_head c 13 t (10 ∷ o ++ rest) e))
    (subst (λ (q : Pending). AfterMove (free_end q) t) (sym n)
    (at_true (nat_le v 50000000) (move.Two (sym.Free (free.Break v)) (sym.Free (free.Text pending.Nothing))) move.Fail t (le-leb v 50000000 le)
    (record { front = 10 ∷ o; back = rest; whole = cons_tail c 13 t (10 ∷ o ++ rest) e; first = (o, refl, record { counted = len; inside = ins }); second = (k, g) })))
at_literal k s c v t (d ∷ x) o rest e f n le len ins g =
    let same : c ≡ d = cons_head c d t (x ++ 13 ∷ 10 ∷ o ++ rest) e in
    let ok : is_text c ≡ true = is_true_at is_text c d same f.0 in
    at_false (c == 13) (free_end s) (cond (is_text c) (move.One (sym.Free (free.Text (pend s c)))) move.Fail) t (text_not_cr c ok)
    (at_true (is_text c) (move.One (sym.Free (free.Text (pend s c)))) move.Fail t ok (
      suc k,
      record {
        text = x;
        count = v;
        octets = o;
        rest = rest;
        whole = cons_tail c d t (x ++ 13 ∷ 10 ∷ o ++ rest) e;
        text_is = f.1;
        counted = subst (λ (q : ℕ). pends (pend s q) x ≡ pending.Closed v) (sym same) n;
        most = le;
        length_is = len;
        inside = ins;
        goes_on = g;
      },
    ))

free_at : (k : ℕ) (s : Pending) (c : ℕ) (t : List ℕ) → IsFreeFrom k s (c ∷ t) → AfterMove (text_rule s c) t
free_at zero s c t h = at_end s c t h.text h.whole h.text_is h.no_count
free_at (suc k) s c t h = at_literal k s c h.count t h.text h.octets h.rest h.whole h.text_is h.counted h.most h.length_is h.inside h.goes_on

-- where an octet and a text are read in text outside literals, the rule still reads the text after the octet
pub text_forth : (s : Pending) (c : ℕ) (t : List ℕ) → FreeLang (free.Text s) (c ∷ t) → AfterMove (text_rule s c) t
text_forth s c t h = free_at h.0 s c t h.1

-- after an octet of text
pub goes_forth : (s : Pending) (c : ℕ) (t : List ℕ) → is_text c ≡ true → FreeLang (free.Text s) (c ∷ t) → FreeLang (free.Text (pend s c)) t
goes_forth s c t e h =
    from_test (c == 13) (free_end s) (cond (is_text c) (move.One (sym.Free (free.Text (pend s c)))) move.Fail) t (FreeLang (free.Text (pend s c)) t)
    (λ f k. absurd (not_both c e f))
    (λ f k. from_test (is_text c) (move.One (sym.Free (free.Text (pend s c)))) move.Fail t (FreeLang (free.Text (pend s c)) t) (λ g l. l) (λ g l. absurd l) k) (text_forth s c t h)
  where
    not_both : (c : ℕ) → is_text c ≡ true → (c == 13) ≡ true → ⊥
    not_both c e f = grind arith

free_none : (k : ℕ) (s : Pending) → IsFreeFrom k s [] → ⊥
free_none zero s h = mid h.text (10 ∷ []) 13 h.whole
free_none (suc k) s h = mid h.text (10 ∷ h.octets) 13 (sym (no_append (h.text ++ 13 ∷ 10 ∷ h.octets) h.rest h.whole).0)

-- `x` and CR LF are the rest of a text with literals, whatever count the text so far ends in
pub free_some : (s : Pending) → FreeLang (free.Text s) (120 ∷ crlf)
free_some pending.Nothing = (0, record { text = 120 ∷ []; whole = refl; text_is = (refl, tt); no_count = tt })
free_some (pending.Open v n) = (0, record { text = 120 ∷ []; whole = refl; text_is = (refl, tt); no_count = tt })
free_some (pending.Closed v) = (0, record { text = 120 ∷ []; whole = refl; text_is = (refl, tt); no_count = tt })

-- ---- the octets of a literal

after_nothing : (n : ℕ) (t : List ℕ) → n ≡ 0 → t ≡ [] → OctetsRest n t
after_nothing n t e f = record { counted = cc; inside = subst (λ (u : List ℕ). Each is_inside u) (sym f) tt }

-- after the CR of a literal, an octet is read and any text that its rule still reads after it
pub break_back : (n c : ℕ) (t : List ℕ) → AfterMove (free_rule (free.Break n) c) t → FreeLang (free.Break n) (c ∷ t)
break_back n c t h = from_test (c == 10) (cond (n == 0) move.End (move.One (sym.Free (free.Octets n)))) move.Fail t (FreeLang (free.Break n) (c ∷ t))
    (λ e k. (
      t,
      ap (λ (d : ℕ). d ∷ t) (eqb-true c 10 e),
      from_test (n == 0) move.End (move.One (sym.Free (free.Octets n))) t (OctetsRest n t) (λ f l. after_nothing n t (eqb-true n 0 f) l) (λ f l. l) k,
    ))
    (λ e k. absurd k) h

-- where an octet and a text are read after the CR of a literal, the rule still reads the text after the octet
pub break_forth : (n c : ℕ) (t : List ℕ) → FreeLang (free.Break n) (c ∷ t) → AfterMove (free_rule (free.Break n) c) t
break_forth n c t h =
    let r : OctetsRest n t = subst (OctetsRest n) (sym (cons_tail c 10 t h.0 h.1)) h.2 in
    at_true (c == 10) (cond (n == 0) move.End (move.One (sym.Free (free.Octets n)))) move.Fail t (eq-eqb c 10 (cons_head c 10 t h.0 h.1))
    (to_test (n == 0) move.End (move.One (sym.Free (free.Octets n))) t (λ e. nil_from_length t (r.counted ∙ eqb-true n 0 e)) (λ e. r))

-- within a literal, an octet is read and any text that its rule still reads after it
pub octets_back : (n c : ℕ) (t : List ℕ) → AfterMove (free_rule (free.Octets n) c) t → FreeLang (free.Octets n) (c ∷ t)
octets_back n c t h = from_test (nat_le 256 c && nat_lt c 512 && nat_lt 0 n) (cond (n == 1) move.End (move.One (sym.Free (free.Octets (n - 1))))) move.Fail t (OctetsRest n (c ∷ t))
    (λ e k.
    let b = and_parts (nat_le 256 c && nat_lt c 512) (nat_lt 0 n) e in
    from_test (n == 1) move.End (move.One (sym.Free (free.Octets (n - 1)))) t (OctetsRest n (c ∷ t))
    (λ f l. record { counted = omega (arith, eqb-true n 1 f, ap length l); inside = (b.0, subst (λ (u : List ℕ). Each is_inside u) (sym l) tt) })
    (λ f l. record { counted = omega (arith, l.counted, ltb-true 0 n b.1); inside = (b.0, l.inside) }) k)
    (λ e k. absurd k) h

-- where an octet and a text are read within a literal, the rule still reads the text after the octet
pub octets_forth : (n c : ℕ) (t : List ℕ) → FreeLang (free.Octets n) (c ∷ t) → AfterMove (free_rule (free.Octets n) c) t
octets_forth n c t h =
    at_true (nat_le 256 c && nat_lt c 512 && nat_lt 0 n) (cond (n == 1) move.End (move.One (sym.Free (free.Octets (n - 1))))) move.Fail t
    (and_from _ _ h.inside.0 (lt-ltb 0 n (omega (arith, h.counted))))
    (to_test (n == 1) move.End (move.One (sym.Free (free.Octets (n - 1)))) t (λ e. nil_from_length t (omega (arith, eqb-true n 1 e, h.counted)))
    (λ e. record { counted = omega (arith, h.counted); inside = h.inside.1 }))

inside : (n : ℕ) → Each is_inside (replicate n 256)
inside zero = tt
inside (suc n) = (refl, inside n)

-- n octets that are 0 within a literal are the rest of a literal with n octets to come
pub octets_some : (n : ℕ) → OctetsRest n (replicate n 256)
octets_some n = record { counted = length-replicate n 256; inside = inside n }

-- ---- the group

-- a symbol of text with literals reads an octet and any text that its rule still reads after it
pub free_back : (s : Free) (c : ℕ) (t : List ℕ) → AfterMove (free_rule s c) t → FreeLang s (c ∷ t)
free_back (free.Text s) c t h = text_back s c t h
free_back (free.Break n) c t h = break_back n c t h
free_back (free.Octets n) c t h = octets_back n c t h

-- where a symbol of text with literals reads an octet and a text, its rule still reads the text after the octet
pub free_forth : (s : Free) (c : ℕ) (t : List ℕ) → FreeLang s (c ∷ t) → AfterMove (free_rule s c) t
free_forth (free.Text s) c t h = text_forth s c t h
free_forth (free.Break n) c t h = break_forth n c t h
free_forth (free.Octets n) c t h = octets_forth n c t h

-- no fitting symbol of text with literals reads the empty text
pub free_empty : (s : Free) → FreeFits s ≡ true → FreeLang s [] → ⊥
free_empty (free.Text s) fits h = free_none h.0 s h.1
free_empty (free.Break n) fits h = let e = h.1 in cc
free_empty (free.Octets n) fits h = omega (arith, h.counted, ltb-true _ _ (and_parts (nat_lt 0 n) (nat_le n 50000000) fits).0)

-- each symbol of text with literals reads some text
pub free_example : (s : Free) → (t : List ℕ) × FreeLang s t
free_example (free.Text s) = (120 ∷ crlf, free_some s)
free_example (free.Break n) = (10 ∷ replicate n 256, (replicate n 256, refl, octets_some n))
free_example (free.Octets n) = (replicate n 256, octets_some n)
