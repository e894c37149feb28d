-- The automaton's reading of a count in braces is the grammar's.
use Rattle.std.proofs.Common.{◌≡◌, ℕ, zero, suc, ◌+◌, ◌-◌, ◌*◌, ◌<◌, ◌≤◌, Bool, true, false, ◌&&◌, List, [], ◌∷◌, ◌++◌, length, cond, refl, sym, ap, subst, ◌∙◌, append_assoc}
use Rattle.std.proofs.Common.{arith}
use Rattle.std.specs.Prelude.{◌==◌, nat_lt, nat_le}
use Rattle.std.proofs.lemmas.Bool.{eqb-true, ltb-true, leb-false, and_parts, lt-ltb, le-leb, cond-true, cond-false}
use Rattle.std.proofs.lemmas.List.{length-append, append-nil}
use Rattle.imap_types.proofs.EachLemmas.{each_append}
use Rattle.imap_keywords.specs.declared.count.Pending.{Pending}
use Rattle.imap_keywords.specs.declared.count.Pending.TheVariants as pending
use Rattle.imap_keywords.specs.Counts.{capped, pend_on, pend, pends}
use Rattle.imap_automaton.specs.Langs.{NoCount, IsFreeFrom}
use Rattle.imap_keywords.proofs.Classes.{digit_no_brace}
use Rattle.imap_types.specs.Octets.{is_digit}
use Rattle.imap_types.specs.Texts.{Each}
use Rattle.imap_types.specs.Numbers.{value_from}
use Rattle.imap_types.specs.Free.{EndsInCount, IsFree}

-- ---- from the automaton to the grammar

record EndsOpen (v n : ℕ) (text : List ℕ) : Type 0 where
  front : List ℕ
  digits : List ℕ
  whole : text ≡ front ++ 123 ∷ digits
  are_digits : Each is_digit digits
  counted : n ≡ length digits
  few : n ≤ 8
  value : v ≡ capped (value_from 0 digits)

abbrev Holds : Pending → List ℕ → Type 0
Holds pending.Nothing text = Unit {0}
Holds (pending.Open v n) text = EndsOpen v n text
Holds (pending.Closed v) text = (n : ℕ) × EndsInCount n text × (v ≡ capped n)

value_last : (v : ℕ) (t : List ℕ) (c : ℕ) → value_from v (t ++ c ∷ []) ≡ 10 * value_from v t + (c - 48)
value_last v [] c = refl
value_last v (d ∷ t) c = value_last (10 * v + (d - 48)) t c

capped_more : (v d : ℕ) → capped (10 * capped v + d) ≡ capped (10 * v + d)
capped_more v d = by (nat_le v 50000000) refl
  where
    by : (b : Bool) → nat_le v 50000000 ≡ b → capped (10 * capped v + d) ≡ capped (10 * v + d)
    by true e = ap (λ (n : ℕ). capped (10 * n + d)) (cond-true (nat_le v 50000000) v 50000001 e)
    by false e =
        let over : 50000000 < v = leb-false v 50000000 e in
        let is : capped v ≡ 50000001 = cond-false (nat_le v 50000000) v 50000001 e in
        past (10 * capped v + d) (omega (arith, is)) ∙ sym (past (10 * v + d) (omega (arith, over)))
      where
        past : (n : ℕ) → 50000000 < n → capped n ≡ 50000001
        past n lt = grind arith

pick : (P : Pending → Type 0) (b : Bool) (x y : Pending) → (b ≡ true → P x) → (b ≡ false → P y) → P (cond b x y)
pick P true x y f g = f refl
pick P false x y f g = g refl

holds_step : (s : Pending) (text : List ℕ) (c : ℕ) → Holds s text → Holds (pend s c) (text ++ c ∷ [])
holds_step s text c h = pick (λ q. Holds q (text ++ c ∷ [])) (c == 123) (pending.Open 0 0) (pend_on s c)
    (λ e. record { front = text; digits = []; whole = ap (λ (n : ℕ). text ++ n ∷ []) (eqb-true c 123 e); are_digits = tt; counted = refl; few = omega arith; value = refl })
    (λ e. on s h)
  where
    on : (s : Pending) → Holds s text → Holds (pend_on s c) (text ++ c ∷ [])
    on pending.Nothing h = tt
    on (pending.Open v n) h = pick (λ q. Holds q (text ++ c ∷ [])) (is_digit c) (cond (nat_lt n 8) (pending.Open (capped (10 * v + (c - 48))) (n + 1)) pending.Nothing)
        (cond (c == 125 && nat_lt 0 n) (pending.Closed v) pending.Nothing)
        (λ e. pick (λ q. Holds q (text ++ c ∷ [])) (nat_lt n 8) (pending.Open (capped (10 * v + (c - 48))) (n + 1)) pending.Nothing
        (λ f. record {
          front = h.front;
          digits = h.digits ++ c ∷ [];
          whole = ap (λ (u : List ℕ). u ++ c ∷ []) h.whole ∙ append_assoc h.front (123 ∷ h.digits) (c ∷ []);
          are_digits = each_append is_digit h.digits (c ∷ []) h.are_digits (e, tt);
          counted = omega (arith, h.counted, length-append h.digits (c ∷ []));
          few = omega (arith, ltb-true n 8 f);
          value = ap (λ (m : ℕ). capped (10 * m + (c - 48))) h.value ∙ capped_more (value_from 0 h.digits) (c - 48) ∙ ap capped (sym (value_last 0 h.digits c));
        })
        (λ f. tt))
        (λ e. pick (λ q. Holds q (text ++ c ∷ [])) (c == 125 && nat_lt 0 n) (pending.Closed v) pending.Nothing
        (λ f. let p = and_parts (c == 125) (nat_lt 0 n) f in (
          value_from 0 h.digits,
          record {
            front = h.front;
            digits = h.digits;
            whole = ap (λ (u : List ℕ). u ++ c ∷ []) h.whole ∙ append_assoc h.front (123 ∷ h.digits) (c ∷ [])
                ∙ ap (λ (n : ℕ). h.front ++ 123 ∷ (h.digits ++ n ∷ [])) (eqb-true c 125 p.0) ∙ sym (append_assoc h.front (123 ∷ h.digits) (125 ∷ []));
            are_digits = h.are_digits;
            some = omega (arith, h.counted, ltb-true 0 n p.1);
            few = omega (arith, h.counted, h.few);
            value = refl;
          },
          h.value,
        ))
        (λ f. tt))
    on (pending.Closed v) h = tt

holds_all : (s : Pending) (text t : List ℕ) → Holds s text → Holds (pends s t) (text ++ t)
holds_all s text [] h = subst (Holds s) (sym (append-nil text)) h
holds_all s text (c ∷ t) h = subst (Holds (pends (pend s c) t)) (append_assoc text (c ∷ []) t) (holds_all (pend s c) (text ++ c ∷ []) t (holds_step s text c h))

closed_count : (v : ℕ) (text : List ℕ) → pends pending.Nothing text ≡ pending.Closed v → (n : ℕ) × EndsInCount n text × (v ≡ capped n)
closed_count v text e = subst (λ (s : Pending). Holds s text) e (holds_all pending.Nothing [] text tt)

-- ---- from the grammar to the automaton

pends_append : (s : Pending) (x y : List ℕ) → pends s (x ++ y) ≡ pends (pends s x) y
pends_append s [] y = refl
pends_append s (c ∷ x) y = pends_append (pend s c) x y

open_digit : (v n c : ℕ) → is_digit c ≡ true → n < 8 → pend (pending.Open v n) c ≡ pending.Open (capped (10 * v + (c - 48))) (n + 1)
open_digit v n c e lt =
    cond-false (c == 123) (pending.Open 0 0) (pend_on (pending.Open v n) c) (digit_no_brace c e)
    ∙ cond-true (is_digit c) (cond (nat_lt n 8) (pending.Open (capped (10 * v + (c - 48))) (n + 1)) pending.Nothing)
    (cond (c == 125 && nat_lt 0 n) (pending.Closed v) pending.Nothing) e
    ∙ cond-true (nat_lt n 8) (pending.Open (capped (10 * v + (c - 48))) (n + 1)) pending.Nothing (lt-ltb n 8 lt)

open_closes : (v n : ℕ) (digits : List ℕ) → Each is_digit digits → 0 < n + length digits → n + length digits ≤ 8
    → pends (pending.Open (capped v) n) (digits ++ 125 ∷ []) ≡ pending.Closed (capped (value_from v digits))
open_closes v n [] all some few = cond-true (125 == 125 && nat_lt 0 n) (pending.Closed (capped v)) pending.Nothing (lt-ltb 0 n (omega (arith, some)))
open_closes v n (c ∷ digits) all some few =
    ap (λ (s : Pending). pends s (digits ++ 125 ∷ [])) (open_digit (capped v) n c all.0 (omega (arith, few)) ∙ ap (λ (m : ℕ). pending.Open m (n + 1)) (capped_more v (c - 48)))
    ∙ open_closes (10 * v + (c - 48)) (n + 1) digits all.1 (omega arith) (omega (arith, few))

count_closed : (n : ℕ) (text : List ℕ) → EndsInCount n text → pends pending.Nothing text ≡ pending.Closed (capped n)
count_closed n text h =
    ap (pends pending.Nothing) (h.whole ∙ append_assoc h.front (123 ∷ h.digits) (125 ∷ []))
    ∙ pends_append pending.Nothing h.front (123 ∷ (h.digits ++ 125 ∷ []))
    ∙ open_closes 0 0 h.digits h.are_digits (omega (arith, h.some)) (omega (arith, h.few)) ∙ ap (λ (m : ℕ). pending.Closed (capped m)) (sym h.value)

capped_small : (n : ℕ) → n ≤ 50000000 → capped n ≡ n
capped_small n le = cond-true (nat_le n 50000000) n 50000001 (le-leb n 50000000 le)

small_capped : (v n : ℕ) → v ≡ capped n → v ≤ 50000000 → n ≡ v
small_capped v n e le = by (nat_le n 50000000) refl
  where
    by : (b : Bool) → nat_le n 50000000 ≡ b → n ≡ v
    by true f = sym (e ∙ cond-true (nat_le n 50000000) n 50000001 f)
    by false f = absurd (omega (arith, le, e ∙ cond-false (nat_le n 50000000) n 50000001 f))

-- ---- whole texts

closed_none : (s : Pending) (text : List ℕ) → pends pending.Nothing text ≡ s → ((n : ℕ) → EndsInCount n text → ⊥) → NoCount s
closed_none pending.Nothing text e no_count = tt
closed_none (pending.Open v n) text e no_count = tt
closed_none (pending.Closed v) text e no_count = let c = closed_count v text e in no_count c.0 c.1

none_closed : (s : Pending) (n : ℕ) (text : List ℕ) → pends pending.Nothing text ≡ s → NoCount s → EndsInCount n text → ⊥
none_closed s n text e h c = subst NoCount (sym e ∙ count_closed n text c) h

-- text with k literals by the grammar is such text by the automaton's reading of counts
pub free_to : (k : ℕ) (t : List ℕ) → IsFree k t → IsFreeFrom k pending.Nothing t
free_to zero t h = record { text = h.text; whole = h.whole; text_is = h.text_is; no_count = closed_none (pends pending.Nothing h.text) h.text refl h.no_count }
free_to (suc k) t h = record {
  text = h.text;
  count = length h.octets;
  octets = h.octets;
  rest = h.rest;
  whole = h.whole;
  text_is = h.text_is;
  counted = count_closed (length h.octets) h.text h.counted ∙ ap (λ (m : ℕ). pending.Closed m) (capped_small (length h.octets) h.most);
  most = h.most;
  length_is = refl;
  inside = h.inside;
  goes_on = free_to k h.rest h.goes_on;
}

-- text with k literals by the automaton's reading of counts is such text by the grammar
pub free_from : (k : ℕ) (t : List ℕ) → IsFreeFrom k pending.Nothing t → IsFree k t
free_from zero t h = record { text = h.text; whole = h.whole; text_is = h.text_is; no_count = λ n c. none_closed (pends pending.Nothing h.text) n h.text refl h.no_count c }
free_from (suc k) t h =
    let c = closed_count h.count h.text h.counted in
    let same : c.0 ≡ length h.octets = small_capped h.count c.0 c.2 h.most ∙ sym h.length_is in
    record {
      text = h.text;
      octets = h.octets;
      rest = h.rest;
      whole = h.whole;
      text_is = h.text_is;
      counted = subst (λ (n : ℕ). EndsInCount n h.text) same c.1;
      most = omega (arith, h.length_is, h.most);
      inside = h.inside;
      goes_on = free_from k h.rest h.goes_on;
    }
