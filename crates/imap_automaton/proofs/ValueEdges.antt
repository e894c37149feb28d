-- One octet at a value.
use Rattle.std.proofs.Common.{◌≡◌, ◌⊎◌, ℕ, zero, suc, ◌+◌, ◌-◌, ◌<◌, true, false, List, [], ◌∷◌, ◌++◌, cond, refl, sym, ap, subst, ◌∙◌, append_assoc, arith, inl, inr}
use Rattle.std.specs.Prelude.{◌==◌, nat_lt}
use Rattle.std.proofs.lemmas.Bool.{eqb-true, eqb-false, ltb-true, lt-ltb, eq-eqb, ne_eqb}
use Rattle.imap_automaton.specs.declared.sym.Value.{Value}
use Rattle.imap_automaton.specs.declared.sym.Value.TheVariants as value
use Rattle.imap_automaton.specs.declared.sym.Sym.TheVariants as sym
use Rattle.pushdown.specs.declared.moves.Move.TheVariants as move
use Rattle.imap_automaton.specs.StringRules.{flat_start, alone, before}
use Rattle.imap_automaton.specs.ValueRules.{inner_rule, closes, value_rule}
use Rattle.imap_automaton.specs.Flow.{stops}
use Rattle.imap_automaton.specs.StringLangs.{ValuesFirst, ValuesMore, Opened, ValueLang}
use Rattle.imap_automaton.specs.Langs.{AfterMove}
use Rattle.pushdown.proofs.Lists.{cons_head, cons_tail, regroup, ungroup}
use Rattle.imap_automaton.proofs.Tests.{from_test, at_true, at_false, is_true_at, mid}
use Rattle.imap_automaton.proofs.StringEdges.{Starts, after_alone, alone_after, after_before, before_after, flat_back, flat_forth, no_flat, flat_some}
use Rattle.imap_types.specs.Octets.{is_atom}
use Rattle.imap_types.specs.Texts.{Then}
use Rattle.imap_types.specs.Lines.{joined, spaced}
use Rattle.imap_types.specs.Strings.{escaped, IsAString}
use Rattle.imap_types.specs.Values.{AllOf, IsFlat, IsValue}

-- ---- the kinds of values

-- an atom or a string is a value, whatever number of brackets may be open
pub flat_value : (d : ℕ) (t : List ℕ) → IsFlat t → IsValue d t
flat_value zero t h = h
flat_value (suc d) t h = inl h

list_value : (d : ℕ) (t : List ℕ) → 0 < d → ValuesFirst (d - 1) t → IsValue d (40 ∷ t)
list_value zero t pos h = absurd (omega arith)
list_value (suc d) t pos h =
    let same : suc d - 1 ≡ d = omega arith in
    let k : ValuesFirst d t = subst (λ (n : ℕ). ValuesFirst n t) same h in
    inr (k.0, k.1, ap (λ (u : List ℕ). 40 ∷ u) k.2)

-- a value begins as a flat one or with a bracket
value_begins : (d c : ℕ) (t : List ℕ) → IsValue d (c ∷ t) → IsFlat (c ∷ t) ⊎ ((c ≡ 40) × (0 < d) × ValuesFirst (d - 1) t)
value_begins zero c t h = inl h
value_begins (suc d) c t (inl h) = inl h
value_begins (suc d) c t (inr h) =
    let same : d ≡ suc d - 1 = omega arith in
    inr (cons_head c 40 t (joined h.0 ++ 41 ∷ []) h.2, omega arith, subst (λ (n : ℕ). ValuesFirst n t) same (h.0, h.1, cons_tail c 40 t (joined h.0 ++ 41 ∷ []) h.2))

-- no value is the empty text
pub no_value : (d : ℕ) → IsValue d [] → ⊥
no_value zero h = no_flat h
no_value (suc d) (inl h) = no_flat h
no_value (suc d) (inr h) = let e = h.2 in cc

-- the first octet of a flat value is no bracket
flat_first : (c : ℕ) (t : List ℕ) → IsFlat (c ∷ t) → ((c == 40) ≡ false) × ((c == 41) ≡ false)
flat_first c t h = by h.0 h.1
  where
    atom_not : (c : ℕ) → is_atom c ≡ true → ((c == 40) ≡ false) × ((c == 41) ≡ false)
    atom_not c e = (grind arith, grind arith)

    is : (d : ℕ) → c ≡ d → ((d == 40) ≡ false) × ((d == 41) ≡ false) → ((c == 40) ≡ false) × ((c == 41) ≡ false)
    is d e f = (ap (λ (n : ℕ). n == 40) e ∙ f.0, ap (λ (n : ℕ). n == 41) e ∙ f.1)

    by : (s : List ℕ) → IsAString s (c ∷ t) → ((c == 40) ≡ false) × ((c == 41) ≡ false)
    by s (inl a) = atom_not c a.0.0.0
    by s (inr (inl q)) = is 34 (cons_head c 34 t (escaped s ++ 34 ∷ []) q.1) (refl, refl)
    by s (inr (inr (inl k))) = is 123 (cons_head c 123 t (k.digits ++ 125 ∷ 13 ∷ 10 ∷ k.octets) k.whole) (refl, refl)
    by s (inr (inr (inr l))) = is 126 (cons_head c 126 t l.0 l.1) (refl, refl)

value_first : (d c : ℕ) (t : List ℕ) → IsValue d (c ∷ t) → (c == 41) ≡ false
value_first d c t h = elim (value_begins d c t h) [ inl f ↦ (flat_first c t f).1 | inr l ↦ ap (λ (n : ℕ). n == 41) l.0 ]

-- ---- Start

start_back : (c : ℕ) (t : List ℕ) → AfterMove (value_rule value.Start c) t → IsValue 64 (c ∷ t)
start_back c t h = from_test (c == 40) (move.One (sym.Value (value.First 0))) (alone (flat_start c)) t (IsValue 64 (c ∷ t))
    (λ e k.
    let inner : ValuesFirst 63 t = subst (ValuesFirst 63) (sym (k.whole ∙ ap (λ (u : List ℕ). k.front ++ u) k.second ∙ append_none k.front)) k.first in
    subst (λ (n : ℕ). IsValue 64 (n ∷ t)) (sym (eqb-true c 40 e)) (list_value 64 t (omega arith) inner))
    (λ e k. flat_value 64 (c ∷ t) (flat_back c t (after_alone (flat_start c) t k))) h
  where
    append_none : (x : List ℕ) → x ++ [] ≡ x
    append_none [] = refl
    append_none (c ∷ x) = ap (λ (u : List ℕ). c ∷ u) (append_none x)

append_nothing : (x : List ℕ) → x ≡ x ++ []
append_nothing [] = refl
append_nothing (c ∷ x) = ap (λ (u : List ℕ). c ∷ u) (append_nothing x)

start_forth : (c : ℕ) (t : List ℕ) → IsValue 64 (c ∷ t) → AfterMove (value_rule value.Start c) t
start_forth c t h = elim (value_begins 64 c t h) [
  | inl f ↦ at_false (c == 40) (move.One (sym.Value (value.First 0))) (alone (flat_start c)) t (flat_first c t f).0 (alone_after (flat_start c) t (flat_forth c t f))
  | inr l ↦ at_true (c == 40) (move.One (sym.Value (value.First 0))) (alone (flat_start c)) t (eq-eqb c 40 l.0)
      (record { front = t; back = []; whole = append_nothing t; first = l.2; second = refl })
]

-- ---- a value in a bracket

add_one : (n : ℕ) → n + 1 ≡ suc n
add_one n = omega arith

abbrev Inner : ℕ → List ℕ → Type 0
Inner w t = Then (IsValue (63 - w)) (Opened (suc w)) t

with_octet : (c : ℕ) (t : List ℕ) (A B C : List ℕ → Type 0) → ((u : List ℕ) → A u → C (c ∷ u)) → Then A B t → Then C B (c ∷ t)
with_octet c t A B C f k = record { front = c ∷ k.front; back = k.back; whole = ap (λ (u : List ℕ). c ∷ u) k.whole; first = f k.front k.first; second = k.second }

inner_back : (w c : ℕ) (t : List ℕ) → AfterMove (inner_rule w c) t → Inner w (c ∷ t)
inner_back w c t h = from_test (c == 40) (cond (nat_lt w 63) (move.One (sym.Value (value.First (w + 1)))) move.Fail) (before (sym.Value (value.More w)) (flat_start c)) t
    (Inner w (c ∷ t))
    (λ e k. from_test (nat_lt w 63) (move.One (sym.Value (value.First (w + 1)))) move.Fail t (Inner w (c ∷ t))
    (λ f l.
    let lt : w < 63 = ltb-true w 63 f in
    let deep : 63 - (w + 1) ≡ 63 - w - 1 = omega arith in
    let j : Then (ValuesFirst (63 - w - 1)) (Opened (suc w)) t =
    subst (λ (n : ℕ). Then (ValuesFirst n) (Opened (suc w)) t) deep (subst (λ (n : ℕ). Then (ValuesFirst (63 - (w + 1))) (Opened n) t) (add_one w) l) in
    with_octet c t (ValuesFirst (63 - w - 1)) (Opened (suc w)) (IsValue (63 - w))
    (λ u a. subst (λ (n : ℕ). IsValue (63 - w) (n ∷ u)) (sym (eqb-true c 40 e)) (list_value (63 - w) u (omega (arith, lt)) a)) j)
    (λ f l. absurd l) k)
    (λ e k. with_octet c t (Starts (flat_start c)) (Opened (suc w)) (IsValue (63 - w)) (λ u a. flat_value (63 - w) (c ∷ u) (flat_back c u a))
    (after_before (sym.Value (value.More w)) (flat_start c) t k)) h

inner_at : (w c : ℕ) (t x y : List ℕ) → c ∷ t ≡ x ++ y → IsValue (63 - w) x → Opened (suc w) y → AfterMove (inner_rule w c) t
inner_at w c t [] y e v o = absurd (no_value (63 - w) v)
inner_at w c t (d ∷ x) y e v o =
    let v' : IsValue (63 - w) (c ∷ x) = subst (λ (n : ℕ). IsValue (63 - w) (n ∷ x)) (sym (cons_head c d t (x ++ y) e)) v in
    let f : t ≡ x ++ y = cons_tail c d t (x ++ y) e in
    elim (value_begins (63 - w) c x v') [
      | inl a ↦ at_false (c == 40) (cond (nat_lt w 63) (move.One (sym.Value (value.First (w + 1)))) move.Fail) (before (sym.Value (value.More w)) (flat_start c)) t
          (flat_first c x a).0
          (before_after (sym.Value (value.More w)) (flat_start c) t (record { front = x; back = y; whole = f; first = flat_forth c x a; second = o }))
      | inr l ↦ (
          let lt : w < 63 = (let p = l.1 in omega (arith, p)) in
          let deep : 63 - w - 1 ≡ 63 - (w + 1) = omega arith in
          at_true (c == 40) (cond (nat_lt w 63) (move.One (sym.Value (value.First (w + 1)))) move.Fail) (before (sym.Value (value.More w)) (flat_start c)) t (eq-eqb c 40 l.0)
          (at_true (nat_lt w 63) (move.One (sym.Value (value.First (w + 1)))) move.Fail t (lt-ltb w 63 lt)
          (record { front = x; back = y; whole = f; first = subst (λ (n : ℕ). ValuesFirst n x) deep l.2; second = subst (λ (n : ℕ). Opened n y) (sym (add_one w)) o })))
    ]

inner_forth : (w c : ℕ) (t : List ℕ) → Inner w (c ∷ t) → AfterMove (inner_rule w c) t
inner_forth w c t h = inner_at w c t h.front h.back h.whole h.first h.second

-- ---- the closing bracket

closes_back : (w : ℕ) (t : List ℕ) → AfterMove (closes w) t → Opened w t
closes_back w t h = from_test (w == 0) move.End (move.One (sym.Value (value.More (w - 1)))) t (Opened w t)
    (λ e k. subst (λ (n : ℕ). Opened n t) (sym (eqb-true w 0 e)) k)
    (λ e k. let ne : w ≡ 0 → ⊥ = eqb-false w 0 e in subst (λ (n : ℕ). Opened n t) (less w ne) k) h
  where
    less : (w : ℕ) → (w ≡ 0 → ⊥) → suc (w - 1) ≡ w
    less w ne = omega (arith, ne)

closes_forth : (w : ℕ) (t : List ℕ) → Opened w t → AfterMove (closes w) t
closes_forth zero t h = at_true (0 == 0) move.End (move.One (sym.Value (value.More (0 - 1)))) t refl h
closes_forth (suc w) t h =
    let same : w ≡ suc w - 1 = omega arith in
    at_false (suc w == 0) move.End (move.One (sym.Value (value.More (suc w - 1)))) t (ne_eqb (suc w) 0 (λ e. omega (arith, e))) (subst (λ (n : ℕ). Opened (suc n) t) same h)

-- after a bracket that closes
closed_more : (w c : ℕ) (t : List ℕ) → c ≡ 41 → Opened w t → Opened (suc w) (c ∷ t)
closed_more w c t e h = record { front = 41 ∷ []; back = t; whole = ap (λ (n : ℕ). n ∷ t) e; first = ([], tt, refl); second = h }

-- ---- First and More

-- a value and those after it
values_join : (d : ℕ) (x : List ℕ) → (j : Then (IsValue d) (ValuesMore d) x) → x ≡ (j.front ++ spaced j.second.0) ++ 41 ∷ []
values_join d x j = j.whole ∙ ap (λ (u : List ℕ). j.front ++ u) j.second.2 ∙ sym (append_assoc j.front (spaced j.second.0) (41 ∷ []))

first_of : (w : ℕ) (t : List ℕ) → Inner w t → Then (ValuesFirst (63 - w)) (Opened w) t
first_of w t h =
    let k = regroup (IsValue (63 - w)) (ValuesMore (63 - w)) (Opened w) t h in
    let j = k.first in
    record { front = k.front; back = k.back; whole = k.whole; first = (j.front ∷ j.second.0, (j.first, j.second.1), values_join (63 - w) k.front j); second = k.second }

first_back : (w c : ℕ) (t : List ℕ) → AfterMove (value_rule (value.First w) c) t → ValueLang (value.First w) (c ∷ t)
first_back w c t h = from_test (c == 41) (closes w) (inner_rule w c) t (ValueLang (value.First w) (c ∷ t))
    (λ e k. record { front = 41 ∷ []; back = t; whole = ap (λ (n : ℕ). n ∷ t) (eqb-true c 41 e); first = ([], tt, refl); second = closes_back w t k })
    (λ e k. first_of w (c ∷ t) (inner_back w c t k)) h

-- values after a value
behind_value : (w : ℕ) (v : List ℕ) (vs : List (List ℕ)) (t x y : List ℕ) → t ≡ x ++ y → x ≡ (v ++ spaced vs) ++ 41 ∷ [] → IsValue (63 - w) v → AllOf (IsValue (63 - w)) vs
    → Opened w y → Inner w t
behind_value w v vs t x y e f h all o = ungroup (IsValue (63 - w)) (ValuesMore (63 - w)) (Opened w) t (record {
  front = x;
  back = y;
  whole = e;
  first = record { front = v; back = spaced vs ++ 41 ∷ []; whole = f ∙ append_assoc v (spaced vs) (41 ∷ []); first = h; second = (vs, all, refl) };
  second = o;
})

-- the first octet of values is no closing bracket
inner_first : (w c : ℕ) (t : List ℕ) → Inner w (c ∷ t) → (c == 41) ≡ false
inner_first w c t h = by h.front h.back h.whole h.first
  where
    by : (x y : List ℕ) → c ∷ t ≡ x ++ y → IsValue (63 - w) x → (c == 41) ≡ false
    by [] y e v = absurd (no_value (63 - w) v)
    by (d ∷ x) y e v = ap (λ (n : ℕ). n == 41) (cons_head c d t (x ++ y) e) ∙ value_first (63 - w) d x v

first_at : (w c : ℕ) (t x y : List ℕ) (vs : List (List ℕ)) → c ∷ t ≡ x ++ y → AllOf (IsValue (63 - w)) vs → x ≡ joined vs ++ 41 ∷ [] → Opened w y
    → AfterMove (value_rule (value.First w) c) t
first_at w c t x y [] e all f o =
    let g : c ∷ t ≡ 41 ∷ y = e ∙ ap (λ (u : List ℕ). u ++ y) f in
    at_true (c == 41) (closes w) (inner_rule w c) t (eq-eqb c 41 (cons_head c 41 t y g)) (closes_forth w t (subst (Opened w) (sym (cons_tail c 41 t y g)) o))
first_at w c t x y (v ∷ vs) e all f o =
    let i : Inner w (c ∷ t) = behind_value w v vs (c ∷ t) x y e f all.0 all.1 o in
    at_false (c == 41) (closes w) (inner_rule w c) t (inner_first w c t i) (inner_forth w c t i)

more_of : (w c : ℕ) (t : List ℕ) → c ≡ 32 → Inner w t → Opened (suc w) (c ∷ t)
more_of w c t e h =
    let k = regroup (IsValue (63 - w)) (ValuesMore (63 - w)) (Opened w) t h in
    let j = k.first in
    record {
      front = 32 ∷ k.front;
      back = k.back;
      whole = ap (λ (n : ℕ). n ∷ t) e ∙ ap (λ (u : List ℕ). 32 ∷ u) k.whole;
      first = (j.front ∷ j.second.0, (j.first, j.second.1), ap (λ (u : List ℕ). 32 ∷ u) (values_join (63 - w) k.front j));
      second = k.second;
    }

more_back : (w c : ℕ) (t : List ℕ) → AfterMove (value_rule (value.More w) c) t → Opened (suc w) (c ∷ t)
more_back w c t h = from_test (c == 32) (move.One (sym.Value (value.Next w))) (cond (c == 41) (closes w) move.Fail) t (Opened (suc w) (c ∷ t))
    (λ e k. more_of w c t (eqb-true c 32 e) k)
    (λ e k. from_test (c == 41) (closes w) move.Fail t (Opened (suc w) (c ∷ t)) (λ f l. closed_more w c t (eqb-true c 41 f) (closes_back w t l)) (λ f l. absurd l) k) h

more_at : (w c : ℕ) (t x y : List ℕ) (vs : List (List ℕ)) → c ∷ t ≡ x ++ y → AllOf (IsValue (63 - w)) vs → x ≡ spaced vs ++ 41 ∷ [] → Opened w y
    → AfterMove (value_rule (value.More w) c) t
more_at w c t x y [] e all f o =
    let g : c ∷ t ≡ 41 ∷ y = e ∙ ap (λ (u : List ℕ). u ++ y) f in
    let same : c ≡ 41 = cons_head c 41 t y g in
    at_false (c == 32) (move.One (sym.Value (value.Next w))) (cond (c == 41) (closes w) move.Fail) t (ap (λ (n : ℕ). n == 32) same)
    (at_true (c == 41) (closes w) move.Fail t (eq-eqb c 41 same) (closes_forth w t (subst (Opened w) (sym (cons_tail c 41 t y g)) o)))
more_at w c t x y (v ∷ vs) e all f o =
    let inner : List ℕ = (v ++ spaced vs) ++ 41 ∷ [] in
    let g : c ∷ t ≡ 32 ∷ inner ++ y = e ∙ ap (λ (u : List ℕ). u ++ y) f in
    at_true (c == 32) (move.One (sym.Value (value.Next w))) (cond (c == 41) (closes w) move.Fail) t (eq-eqb c 32 (cons_head c 32 t (inner ++ y) g))
    (behind_value w v vs t inner y (cons_tail c 32 t (inner ++ y) g) refl all.0 all.1 o)

-- ---- the group

-- a symbol of a value reads an octet and any text that its rule still reads after it
pub value_back : (s : Value) (c : ℕ) (t : List ℕ) → AfterMove (value_rule s c) t → ValueLang s (c ∷ t)
value_back value.Start c t h = start_back c t h
value_back (value.First w) c t h = first_back w c t h
value_back (value.Next w) c t h = inner_back w c t h
value_back (value.More w) c t h = more_back w c t h

-- where a symbol of a value reads an octet and a text, its rule still reads the text after the octet
pub value_forth : (s : Value) (c : ℕ) (t : List ℕ) → ValueLang s (c ∷ t) → AfterMove (value_rule s c) t
value_forth value.Start c t h = start_forth c t h
value_forth (value.First w) c t h = first_at w c t h.front h.back h.first.0 h.whole h.first.1 h.first.2 h.second
value_forth (value.Next w) c t h = inner_forth w c t h
value_forth (value.More w) c t h = more_at w c t h.front h.back h.first.0 h.whole h.first.1 h.first.2 h.second

-- a text of values and a closing bracket isn't empty
pub value_empty : (s : Value) → ValueLang s [] → ⊥
value_empty value.Start h = no_value 64 h
value_empty (value.First w) h = mid (joined h.first.0) h.back 41 (h.whole ∙ ap (λ (u : List ℕ). u ++ h.back) h.first.2 ∙ append_assoc (joined h.first.0) (41 ∷ []) h.back)
value_empty (value.Next w) h = by h.front h.back h.whole h.first
  where
    by : (x y : List ℕ) → [] ≡ x ++ y → IsValue (63 - w) x → ⊥
    by [] y e v = no_value (63 - w) v
    by (d ∷ x) y e v = cc
value_empty (value.More w) h = mid (spaced h.first.0) h.back 41 (h.whole ∙ ap (λ (u : List ℕ). u ++ h.back) h.first.2 ∙ append_assoc (spaced h.first.0) (41 ∷ []) h.back)

-- what follows a value in brackets begins with a stop
pub opened_stops : (w c : ℕ) (t : List ℕ) → Opened (suc w) (c ∷ t) → stops c ≡ true
opened_stops w c t h = by h.first.0 (h.whole ∙ ap (λ (u : List ℕ). u ++ h.back) h.first.2)
  where
    by : (vs : List (List ℕ)) → c ∷ t ≡ (spaced vs ++ 41 ∷ []) ++ h.back → stops c ≡ true
    by [] e = is_true_at stops c 41 (cons_head c 41 t h.back e) refl
    by (v ∷ vs) e = is_true_at stops c 32 (cons_head c 32 t (((v ++ spaced vs) ++ 41 ∷ []) ++ h.back) e) refl

-- n closing brackets
closing : (w : ℕ) → (t : List ℕ) × Opened w t
closing zero = ([], refl)
closing (suc w) = let k = closing w in (41 ∷ k.0, record { front = 41 ∷ []; back = k.0; whole = refl; first = ([], tt, refl); second = k.1 })

-- each symbol of a value reads some text
pub value_example : (s : Value) → (t : List ℕ) × ValueLang s t
value_example value.Start = (97 ∷ [], flat_value 64 (97 ∷ []) flat_some)
value_example (value.First w) = let k = closing w in (41 ∷ k.0, record { front = 41 ∷ []; back = k.0; whole = refl; first = ([], tt, refl); second = k.1 })
value_example (value.Next w) = let k = closing (suc w) in (
  97 ∷ k.0,
  record { front = 97 ∷ []; back = k.0; whole = refl; first = flat_value (63 - w) (97 ∷ []) flat_some; second = k.1 },
)
value_example (value.More w) = closing (suc w)
