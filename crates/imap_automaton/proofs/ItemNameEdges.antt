-- One octet at the name of another item.
use Rattle.std.proofs.Common.{◌≡◌, ◌⊎◌, ℕ, ◌<◌, Bool, true, false, not, ◌&&◌, ◌||◌, List, [], ◌∷◌, ◌++◌, length, map, cond, refl, sym, ap, subst, ◌∙◌, append_assoc, arith, inl}
use Rattle.std.proofs.Common.{inr}
use Rattle.std.specs.Prelude.{◌==◌, nat_lt, codes}
use Rattle.std.proofs.lemmas.Bool.{eqb-true, eq-eqb, and_parts, and_from, or_left, or_right, not-true}
use Rattle.imap_automaton.specs.declared.sym.Str.TheVariants as str
use Rattle.imap_automaton.specs.declared.sym.Value.TheVariants as value
use Rattle.imap_automaton.specs.declared.sym.ItemName.{ItemName}
use Rattle.imap_automaton.specs.declared.sym.ItemName.TheVariants as name
use Rattle.imap_automaton.specs.declared.sym.Sym.TheVariants as sym
use Rattle.pushdown.specs.declared.moves.Move.TheVariants as move
use Rattle.imap_automaton.specs.ItemNameRules.{may_end, in_section, takes, next_name, name_from, item_name_rule}
use Rattle.imap_automaton.specs.StringLangs.{QuotedRest}
use Rattle.imap_automaton.specs.ItemNameLangs.{SectionRest, NameForm, NameRest}
use Rattle.imap_automaton.specs.Langs.{AfterMove}
use Rattle.pushdown.proofs.Lists.{cons_head, cons_tail}
use Rattle.imap_automaton.proofs.Tests.{from_test, at_true, at_false, both, mid}
use Rattle.imap_types.specs.Octets.{is_digit, is_atom, lower}
use Rattle.imap_types.specs.Texts.{Each, Then}
use Rattle.imap_types.specs.Strings.{escaped}
use Rattle.imap_types.specs.Values.{AllOf, IsValue}
use Rattle.imap_types.specs.ItemNames.{is_plain, is_inner, IsUnit, concat, IsPartial, IsSection}

-- ---- names that may end

ends_form : (s : ItemName) → may_end s ≡ true → NameForm s []
ends_form name.Plain e = inl tt
ends_form name.After e = inl refl
ends_form name.End e = refl
ends_form _ e = absurd cc

form_ends : (s : ItemName) → NameForm s [] → may_end s ≡ true
form_ends name.Plain h = refl
form_ends name.Section h = absurd (mid (concat h.units) h.rest 93 h.whole)
form_ends name.After h = refl
form_ends name.Part h = absurd (mid h.0 [] 62 h.1)
form_ends name.Digits h = absurd (mid h.0 [] 62 h.1)
form_ends name.End h = refl

-- ---- an octet that goes on with a name

plain_from : (c : ℕ) → is_atom c ≡ true → (c == 91) ≡ false → is_plain c ≡ true
plain_from c e f = and_from (is_atom c) (not (c == 91)) e (ap not f)

plain_back : (c : ℕ) (t : List ℕ) (b : Bool) → (c == 91) ≡ b → is_atom c ≡ true → NameForm (cond b name.Section name.Plain) t → NameForm name.Plain (c ∷ t)
plain_back c t true e a h = inr (record {
  front = [];
  back = c ∷ t;
  whole = refl;
  first = tt;
  second = record {
    units = h.units;
    rest = h.rest;
    whole = ap (λ (d : ℕ). d ∷ t) (eqb-true c 91 e) ∙ ap (λ (u : List ℕ). 91 ∷ u) h.whole;
    units_are = h.units_are;
    rest_is = h.rest_is;
  };
})
plain_back c t false e a (inl h) = inl (plain_from c a e, h)
plain_back c t false e a (inr h) = inr (record {
  front = c ∷ h.front;
  back = h.back;
  whole = ap (λ (u : List ℕ). c ∷ u) h.whole;
  first = (plain_from c a e, h.first);
  second = h.second;
})

-- where the first of two tests fails, the other holds
other : (p q : Bool) → p ≡ false → (p || q) ≡ true → q ≡ true
other p q e f = grind arith

section_back : (c : ℕ) (t : List ℕ) (b : Bool) → (c == 93) ≡ b → (c == 93 || is_inner c) ≡ true → NameForm (cond b name.After name.Section) t → SectionRest (c ∷ t)
section_back c t true e a h = record { units = []; rest = t; whole = ap (λ (d : ℕ). d ∷ t) (eqb-true c 93 e); units_are = tt; rest_is = h }
section_back c t false e a h = record {
  units = (c ∷ []) ∷ h.units;
  rest = h.rest;
  whole = ap (λ (u : List ℕ). c ∷ u) h.whole;
  units_are = (inl (c, refl, other (c == 93) (is_inner c) e a), h.units_are);
  rest_is = h.rest_is;
}

digits_back : (c : ℕ) (t : List ℕ) (b : Bool) → (c == 62) ≡ b → (c == 62 || is_digit c) ≡ true → NameForm (cond b name.End name.Digits) t → NameForm name.Digits (c ∷ t)
digits_back c t true e a h = ([], ap (λ (d : ℕ). d ∷ t) (eqb-true c 62 e) ∙ ap (λ (u : List ℕ). 62 ∷ u) h, tt)
digits_back c t false e a h = (c ∷ h.0, ap (λ (u : List ℕ). c ∷ u) h.1, (other (c == 62) (is_digit c) e a, h.2))

-- an octet that goes on with a name, and then a rest of the name after it, are a rest of the name before it
pub form_back : (s : ItemName) (c : ℕ) (t : List ℕ) → takes s c ≡ true → NameForm (next_name s c) t → NameForm s (c ∷ t)
form_back name.Plain c t e h = plain_back c t (c == 91) refl e h
form_back name.Section c t e h = section_back c t (c == 93) refl e h
form_back name.After c t e h = inr (h.0, ap (λ (d : ℕ). d ∷ t) (eqb-true c 60 e) ∙ ap (λ (u : List ℕ). 60 ∷ u) h.1, h.2, h.3)
form_back name.Part c t e h = (c ∷ h.0, ap (λ (u : List ℕ). c ∷ u) h.1, (e, h.2), omega arith)
form_back name.Digits c t e h = digits_back c t (c == 62) refl e h
form_back name.End c t e h = absurd cc

-- what an octet of a name is: it goes on with it by itself, or begins a quoted text
abbrev Goes : ItemName → ℕ → List ℕ → Type 0
Goes s c t = (takes s c ≡ true) × NameForm (next_name s c) t

abbrev Quotes : ItemName → ℕ → List ℕ → Type 0
Quotes s c t = (s ≡ name.Section) × (c ≡ 34) × Then QuotedRest SectionRest t

next_at : (s x y : ItemName) (b : Bool) (t : List ℕ) (e : Bool) → b ≡ e → NameForm (cond e x y) t → NameForm (cond b x y) t
next_at s x y b t e f h = subst (λ (q : Bool). NameForm (cond q x y) t) (sym f) h

plain_parts : (c : ℕ) → is_plain c ≡ true → (is_atom c ≡ true) × ((c == 91) ≡ false)
plain_parts c e = let p = and_parts (is_atom c) (not (c == 91)) e in (p.0, not-true (c == 91) p.1)

atom_91 : (c : ℕ) → c ≡ 91 → is_atom c ≡ true
atom_91 c e = ap is_atom e

then_goes : (c : ℕ) (t front back : List ℕ) → c ∷ t ≡ front ++ back → Each is_plain front → IsSection back → Goes name.Plain c t
then_goes c t [] back e each h =
    let q = e ∙ h.whole in
    let is : c ≡ 91 = cons_head c 91 t (concat h.units ++ 93 ∷ h.rest) q in (
      atom_91 c is,
      next_at name.Plain name.Section name.Plain (c == 91) t true (eq-eqb c 91 is)
          (record { units = h.units; rest = h.rest; whole = cons_tail c 91 t (concat h.units ++ 93 ∷ h.rest) q; units_are = h.units_are; rest_is = h.rest_is }),
    )
then_goes c t (d ∷ x) back e each h =
    let same : c ≡ d = cons_head c d t (x ++ back) e in
    let p = plain_parts c (ap is_plain same ∙ each.0) in (
      p.0,
      next_at name.Plain name.Section name.Plain (c == 91) t false p.1
          (inr (record { front = x; back = back; whole = cons_tail c d t (x ++ back) e; first = each.1; second = h })),
    )

plain_goes : (c : ℕ) (t : List ℕ) → NameForm name.Plain (c ∷ t) → Goes name.Plain c t
plain_goes c t (inl h) = let p = plain_parts c h.0 in (p.0, next_at name.Plain name.Section name.Plain (c == 91) t false p.1 (inl h.1))
plain_goes c t (inr h) = then_goes c t h.front h.back h.whole h.first h.second

inner_not : (c : ℕ) → is_inner c ≡ true → (c == 93) ≡ false
inner_not c e = grind arith

section_goes : (c : ℕ) (t rest : List ℕ) (us : List (List ℕ)) → c ∷ t ≡ concat us ++ 93 ∷ rest → AllOf IsUnit us → IsPartial rest → Quotes name.Section c t ⊎ Goes name.Section c t
section_goes c t rest [] e all p =
    let is : c ≡ 93 = cons_head c 93 t rest e in
    inr (
      or_left (c == 93) (is_inner c) (eq-eqb c 93 is),
      next_at name.Section name.After name.Section (c == 93) t true (eq-eqb c 93 is)
          (subst IsPartial (sym (cons_tail c 93 t rest e)) p),
    )
section_goes c t rest (u ∷ us) e (inl one, all) p =
    let f : c ∷ t ≡ one.0 ∷ (concat us ++ 93 ∷ rest) = e ∙ ap (λ (v : List ℕ). (v ++ concat us) ++ 93 ∷ rest) one.1 in
    let is : c ≡ one.0 = cons_head c one.0 t (concat us ++ 93 ∷ rest) f in
    let i : is_inner c ≡ true = ap is_inner is ∙ one.2 in
    inr (
      or_right (c == 93) (is_inner c) i,
      next_at name.Section name.After name.Section (c == 93) t false (inner_not c i)
          (record { units = us; rest = rest; whole = cons_tail c one.0 t (concat us ++ 93 ∷ rest) f; units_are = all; rest_is = p }),
    )
section_goes c t rest (u ∷ us) e (inr q, all) p =
    let inner : List ℕ = escaped q.0 ++ 34 ∷ [] in
    let f : c ∷ t ≡ 34 ∷ (inner ++ (concat us ++ 93 ∷ rest)) = e ∙ ap (λ (v : List ℕ). (v ++ concat us) ++ 93 ∷ rest) q.1.1
    ∙ ap (λ (v : List ℕ). 34 ∷ v) (append_assoc inner (concat us) (93 ∷ rest)) in
    inl (
      refl,
      cons_head c 34 t (inner ++ (concat us ++ 93 ∷ rest)) f,
      record {
        front = inner;
        back = concat us ++ 93 ∷ rest;
        whole = cons_tail c 34 t (inner ++ (concat us ++ 93 ∷ rest)) f;
        first = (q.0, q.1.0, refl);
        second = record { units = us; rest = rest; whole = refl; units_are = all; rest_is = p };
      },
    )

digit_not : (c : ℕ) → is_digit c ≡ true → (c == 62) ≡ false
digit_not c e = grind arith

digits_go : (c : ℕ) (t digits : List ℕ) → c ∷ t ≡ digits ++ 62 ∷ [] → Each is_digit digits → Goes name.Digits c t
digits_go c t [] e each =
    let is : c ≡ 62 = cons_head c 62 t [] e in
    (or_left (c == 62) (is_digit c) (eq-eqb c 62 is), next_at name.Digits name.End name.Digits (c == 62) t true (eq-eqb c 62 is) (cons_tail c 62 t [] e))
digits_go c t (d ∷ x) e each =
    let i : is_digit c ≡ true = ap is_digit (cons_head c d t (x ++ 62 ∷ []) e) ∙ each.0 in
    (or_right (c == 62) (is_digit c) i, next_at name.Digits name.End name.Digits (c == 62) t false (digit_not c i) (x, cons_tail c d t (x ++ 62 ∷ []) e, each.1))

part_goes : (c : ℕ) (t digits : List ℕ) → c ∷ t ≡ digits ++ 62 ∷ [] → Each is_digit digits → 0 < length digits → Goes name.Part c t
part_goes c t [] e each some = absurd (omega (arith, some))
part_goes c t (d ∷ x) e each some = (ap is_digit (cons_head c d t (x ++ 62 ∷ []) e) ∙ each.0, (x, cons_tail c d t (x ++ 62 ∷ []) e, each.1))

partial_goes : (c : ℕ) (t : List ℕ) → IsPartial (c ∷ t) → Goes name.After c t
partial_goes c t (inl e) = absurd cc
partial_goes c t (inr h) = (eq-eqb c 60 (cons_head c 60 t (h.0 ++ 62 ∷ []) h.1), (h.0, cons_tail c 60 t (h.0 ++ 62 ∷ []) h.1, h.2, h.3))

-- the first octet of a name's rest goes on with the name, or begins a quoted text in its section
pub form_forth : (s : ItemName) (c : ℕ) (t : List ℕ) → NameForm s (c ∷ t) → Quotes s c t ⊎ Goes s c t
form_forth name.Plain c t h = inr (plain_goes c t h)
form_forth name.Section c t h = section_goes c t h.rest h.units h.whole h.units_are h.rest_is
form_forth name.After c t h = inr (partial_goes c t h)
form_forth name.Part c t h = inr (part_goes c t h.0 h.1 h.2 h.3)
form_forth name.Digits c t h = inr (digits_go c t h.0 h.1 h.2)
form_forth name.End c t h = absurd cc

-- ---- an octet

quoted_back : (s : ItemName) (c : ℕ) (t : List ℕ) → c ≡ 34 → in_section s ≡ true → Then QuotedRest (NameRest name.Section) t → NameRest s (c ∷ t)
quoted_back name.Section c t e i h =
    let k = h.second in
    let q = h.first in
    record {
      rest = 34 ∷ (h.front ++ k.rest);
      value = k.value;
      whole = ap (λ (d : ℕ). d ∷ t) e ∙ ap (λ (u : List ℕ). 34 ∷ u) (h.whole ∙ ap (λ (u : List ℕ). h.front ++ u) k.whole ∙ sym (append_assoc h.front k.rest (32 ∷ k.value)));
      form = record {
        units = (34 ∷ h.front) ∷ k.form.units;
        rest = k.form.rest;
        whole = ap (λ (u : List ℕ). 34 ∷ u) (ap (λ (u : List ℕ). h.front ++ u) k.form.whole ∙ sym (append_assoc h.front (concat k.form.units) (93 ∷ k.form.rest)));
        units_are = (inr (q.0, (q.1, ap (λ (u : List ℕ). 34 ∷ u) q.2)), k.form.units_are);
        rest_is = k.form.rest_is;
      };
      value_is = k.value_is;
    }
quoted_back _ c t e i h = absurd cc

-- a symbol of an item's name reads an octet and any text that its rule still reads after it
pub item_name_back : (s : ItemName) (c : ℕ) (t : List ℕ) → AfterMove (item_name_rule s c) t → NameRest s (c ∷ t)
item_name_back s c t h = from_test (c == 32 && may_end s) (move.One (sym.Value value.Start))
    (cond (c == 34 && in_section s) (move.Two (sym.Str str.Quoted) (sym.ItemName name.Section)) (cond (takes s c) (move.One (sym.ItemName (next_name s c))) move.Fail)) t
    (NameRest s (c ∷ t))
    (λ e k. let p = and_parts (c == 32) (may_end s) e in record { rest = []; value = t; whole = ap (λ (d : ℕ). d ∷ t) (eqb-true c 32 p.0); form = ends_form s p.1; value_is = k })
    (λ e k. from_test (c == 34 && in_section s) (move.Two (sym.Str str.Quoted) (sym.ItemName name.Section)) (cond (takes s c) (move.One (sym.ItemName (next_name s c))) move.Fail) t
    (NameRest s (c ∷ t))
    (λ f l. let p = and_parts (c == 34) (in_section s) f in quoted_back s c t (eqb-true c 34 p.0) p.1 l)
    (λ f l. from_test (takes s c) (move.One (sym.ItemName (next_name s c))) move.Fail t (NameRest s (c ∷ t))
    (λ g m. record { rest = c ∷ m.rest; value = m.value; whole = ap (λ (u : List ℕ). c ∷ u) m.whole; form = form_back s c m.rest g m.form; value_is = m.value_is })
    (λ g m. absurd m) l) k) h

-- an octet that goes on with a name is no space where the name may end, and no quote
goes_no_end : (s : ItemName) (c : ℕ) → takes s c ≡ true → ((c == 32 && may_end s) ≡ false) × ((c == 34 && in_section s) ≡ false)
goes_no_end name.Plain c e = (grind arith, grind arith)
goes_no_end name.Section c e = (grind arith, grind arith)
goes_no_end name.After c e = (grind arith, grind arith)
goes_no_end name.Part c e = (grind arith, grind arith)
goes_no_end name.Digits c e = (grind arith, grind arith)
goes_no_end name.End c e = absurd cc

goes_after : (s : ItemName) (c : ℕ) (t : List ℕ) → takes s c ≡ true → NameRest (next_name s c) t → AfterMove (item_name_rule s c) t
goes_after s c t e h =
    let n = goes_no_end s c e in
    at_false (c == 32 && may_end s) (move.One (sym.Value value.Start))
    (cond (c == 34 && in_section s) (move.Two (sym.Str str.Quoted) (sym.ItemName name.Section)) (cond (takes s c) (move.One (sym.ItemName (next_name s c))) move.Fail)) t n.0
    (at_false (c == 34 && in_section s) (move.Two (sym.Str str.Quoted) (sym.ItemName name.Section)) (cond (takes s c) (move.One (sym.ItemName (next_name s c))) move.Fail) t n.1
    (at_true (takes s c) (move.One (sym.ItemName (next_name s c))) move.Fail t e h))

quotes_after : (s : ItemName) (c : ℕ) (t : List ℕ) → s ≡ name.Section → c ≡ 34 → Then QuotedRest (NameRest name.Section) t → AfterMove (item_name_rule s c) t
quotes_after s c t i e h =
    let space : (c == 32 && may_end s) ≡ false = ap (λ (d : ℕ). d == 32 && may_end s) e in
    let quote : (c == 34 && in_section s) ≡ true = ap (λ (d : ℕ). d == 34 && in_section s) e ∙ ap in_section i in
    at_false (c == 32 && may_end s) (move.One (sym.Value value.Start))
    (cond (c == 34 && in_section s) (move.Two (sym.Str str.Quoted) (sym.ItemName name.Section)) (cond (takes s c) (move.One (sym.ItemName (next_name s c))) move.Fail)) t space
    (at_true (c == 34 && in_section s) (move.Two (sym.Str str.Quoted) (sym.ItemName name.Section)) (cond (takes s c) (move.One (sym.ItemName (next_name s c))) move.Fail) t quote h)

name_at : (s : ItemName) (c : ℕ) (t rest value : List ℕ) → c ∷ t ≡ rest ++ 32 ∷ value → NameForm s rest → IsValue 64 value → AfterMove (item_name_rule s c) t
name_at s c t [] v e form h =
    let is : c ≡ 32 = cons_head c 32 t v e in
    at_true (c == 32 && may_end s) (move.One (sym.Value value.Start))
    (cond (c == 34 && in_section s) (move.Two (sym.Str str.Quoted) (sym.ItemName name.Section)) (cond (takes s c) (move.One (sym.ItemName (next_name s c))) move.Fail)) t
    (and_from (c == 32) (may_end s) (eq-eqb c 32 is) (form_ends s form))
    (subst (IsValue 64) (sym (cons_tail c 32 t v e)) h)
name_at s c t (d ∷ x) v e form h =
    let same : c ≡ d = cons_head c d t (x ++ 32 ∷ v) e in
    let rest : t ≡ x ++ 32 ∷ v = cons_tail c d t (x ++ 32 ∷ v) e in
    elim (form_forth s c x (subst (λ (q : ℕ). NameForm s (q ∷ x)) (sym same) form)) [
      | inl q ↦ quotes_after s c t q.0 q.1 (record {
        front = q.2.front;
        back = q.2.back ++ 32 ∷ v;
        whole = rest ∙ ap (λ (u : List ℕ). u ++ 32 ∷ v) q.2.whole
            ∙ append_assoc q.2.front q.2.back (32 ∷ v);
        first = q.2.first;
        second = record { rest = q.2.back; value = v; whole = refl; form = q.2.second; value_is = h };
      })
      | inr g ↦ goes_after s c t g.0 (record { rest = x; value = v; whole = rest; form = g.1; value_is = h })
    ]

-- where a symbol of an item's name reads an octet and a text, its rule still reads the text after the octet
pub item_name_forth : (s : ItemName) (c : ℕ) (t : List ℕ) → NameRest s (c ∷ t) → AfterMove (item_name_rule s c) t
item_name_forth s c t h = name_at s c t h.rest h.value h.whole h.form h.value_is

-- no symbol of an item's name reads the empty text
pub item_name_empty : (s : ItemName) → NameRest s [] → ⊥
item_name_empty s h = mid h.rest h.value 32 h.whole

form_example : (s : ItemName) → (t : List ℕ) × NameForm s t
form_example name.Plain = ([], inl tt)
form_example name.Section = (93 ∷ [], record { units = []; rest = []; whole = refl; units_are = tt; rest_is = inl refl })
form_example name.After = ([], inl refl)
form_example name.Part = (codes "0>", (codes "0", refl, (refl, tt), omega arith))
form_example name.Digits = (codes ">", ([], refl, tt))
form_example name.End = ([], refl)

atom_value : IsValue 64 (codes "a")
atom_value = inl (codes "a", inl (((refl, tt), omega arith), refl))

-- each symbol of an item's name reads some text
pub item_name_example : (s : ItemName) → (t : List ℕ) × NameRest s t
item_name_example s =
    let f = form_example s in
    (f.0 ++ 32 ∷ codes "a", record { rest = f.0; value = codes "a"; whole = refl; form = f.1; value_is = atom_value })

-- an octet that goes on with a name stands outside literals
pub takes_small : (s : ItemName) (c : ℕ) → takes s c ≡ true → nat_lt c 256 ≡ true
takes_small name.Plain c e = grind arith
takes_small name.Section c e = grind arith
takes_small name.After c e = grind arith
takes_small name.Part c e = grind arith
takes_small name.Digits c e = grind arith
takes_small name.End c e = absurd cc

-- ---- runs of an atom's octets

-- a name reads a letter whatever its case
lower_91 : (c : ℕ) → (lower c == 91) ≡ (c == 91)
lower_91 c = grind arith

lower_93 : (c : ℕ) → (lower c == 93) ≡ (c == 93)
lower_93 c = grind arith

lower_62 : (c : ℕ) → (lower c == 62) ≡ (c == 62)
lower_62 c = grind arith

lower_next : (s : ItemName) (c : ℕ) → next_name s c ≡ next_name s (lower c)
lower_next name.Plain c = ap (λ (b : Bool). cond b name.Section name.Plain) (sym (lower_91 c))
lower_next name.Section c = ap (λ (b : Bool). cond b name.After name.Section) (sym (lower_93 c))
lower_next name.After c = refl
lower_next name.Part c = refl
lower_next name.Digits c = ap (λ (b : Bool). cond b name.End name.Digits) (sym (lower_62 c))
lower_next name.End c = refl

-- reading octets of a name and one more is reading the octets and then the one
pub next_from : (s : ItemName) (x : List ℕ) (c : ℕ) → name_from s (x ++ c ∷ []) ≡ next_name (name_from s x) c
next_from s [] c = refl
next_from s (d ∷ x) c = next_from (next_name s d) x c

no_quote : (c : ℕ) → is_atom c ≡ true → c ≡ 34 → ⊥
no_quote c e f = both (is_atom c) e (ap is_atom f)

no_space : (c : ℕ) → is_atom c ≡ true → c ≡ 32 → ⊥
no_space c e f = both (is_atom c) e (ap is_atom f)

atom_goes : (s : ItemName) (c : ℕ) (t : List ℕ) → is_atom c ≡ true → NameForm s (c ∷ t) → NameForm (next_name s (lower c)) t
atom_goes s c t e h = elim (form_forth s c t h) [
  | inl q ↦ absurd (no_quote c e q.1)
  | inr g ↦ subst (λ (n : ItemName). NameForm n t) (lower_next s c) g.1
]

rest_goes : (s : ItemName) (c : ℕ) (t rest value : List ℕ) → is_atom c ≡ true → c ∷ t ≡ rest ++ 32 ∷ value → NameForm s rest → IsValue 64 value → NameRest (next_name s (lower c)) t
rest_goes s c t [] v a e form h = absurd (no_space c a (cons_head c 32 t v e))
rest_goes s c t (d ∷ x) v a e form h = record {
  rest = x;
  value = v;
  whole = cons_tail c d t (x ++ 32 ∷ v) e;
  form = atom_goes s c x a (subst (λ (q : ℕ). NameForm s (q ∷ x)) (sym (cons_head c d t (x ++ 32 ∷ v) e)) form);
  value_is = h;
}

-- what follows an octet of an atom is the rest of a name that began with that octet too, in lower case, and its value
pub name_goes : (begun : List ℕ) (c : ℕ) (t : List ℕ) → is_atom c ≡ true → NameRest (name_from name.Plain begun) (c ∷ t) → NameRest (name_from name.Plain (begun ++ lower c ∷ [])) t
name_goes begun c t e h = subst (λ (s : ItemName). NameRest s t) (sym (next_from name.Plain begun (lower c)))
    (rest_goes (name_from name.Plain begun) c t h.rest h.value e h.whole h.form h.value_is)

-- the same backwards, where the octet goes on with the name
pub name_comes : (begun : List ℕ) (c : ℕ) (t : List ℕ) → takes (name_from name.Plain begun) c ≡ true → NameRest (name_from name.Plain (begun ++ lower c ∷ [])) t
    → NameRest (name_from name.Plain begun) (c ∷ t)
name_comes begun c t e h =
    let k : NameRest (next_name (name_from name.Plain begun) c) t =
    subst (λ (s : ItemName). NameRest s t) (next_from name.Plain begun (lower c) ∙ sym (lower_next (name_from name.Plain begun) c)) h in
    record {
      rest = c ∷ k.rest;
      value = k.value;
      whole = ap (λ (u : List ℕ). c ∷ u) k.whole;
      form = form_back (name_from name.Plain begun) c k.rest e k.form;
      value_is = k.value_is;
    }

-- what is left of a name after octets of an atom
pub record Walked (s : ItemName) (w n tail v : List ℕ) : Type 0 where
  pub rest : List ℕ
  pub whole : n ≡ w ++ rest
  pub back : tail ≡ rest ++ 32 ∷ v
  pub form : NameForm (name_from s (map lower w)) rest

-- octets of an atom at the front of a name, a space and a value are a front of the name, and its rest goes on from there
pub walk : (w : List ℕ) (s : ItemName) (n tail v : List ℕ) → Each is_atom w → w ++ tail ≡ n ++ 32 ∷ v → NameForm s n → Walked s w n tail v
walk [] s n tail v each e h = record { rest = n; whole = refl; back = e; form = h }
walk (c ∷ w) s [] tail v each e h = absurd (no_space c each.0 (cons_head c 32 (w ++ tail) v e))
walk (c ∷ w) s (d ∷ n) tail v each e h =
    let same : c ≡ d = cons_head c d (w ++ tail) (n ++ 32 ∷ v) e in
    let k = walk w (next_name s (lower c)) n tail v each.1 (cons_tail c d (w ++ tail) (n ++ 32 ∷ v) e)
    (atom_goes s c n each.0 (subst (λ (q : ℕ). NameForm s (q ∷ n)) (sym same) h)) in
    record { rest = k.rest; whole = (λ i. (sym same i) ∷ (k.whole i)); back = k.back; form = k.form }

atom_at : (s : ItemName) (c : ℕ) → may_end s ≡ true → takes s c ≡ true → is_atom c ≡ true
atom_at name.Plain c m e = e
atom_at name.After c m e = ap is_atom (eqb-true c 60 e)
atom_at name.End c m e = absurd cc
atom_at _ c m e = absurd cc

-- a name goes on from where it may end with an octet of an atom alone
pub goes_atom : (s : ItemName) (c : ℕ) (t : List ℕ) → may_end s ≡ true → NameForm s (c ∷ t) → is_atom c ≡ true
goes_atom s c t m h = elim (form_forth s c t h) [
  | inl q ↦ absurd (both (may_end s) m (ap may_end q.0))
  | inr g ↦ atom_at s c m g.0
]
