-- One octet at names in brackets.
use Rattle.std.proofs.Common.{◌≡◌, ℕ, true, false, List, [], ◌∷◌, ◌++◌, cond, refl, sym, ap, subst, ◌∙◌, append_assoc, arith, inl, inr}
use Rattle.std.specs.Prelude.{◌==◌}
use Rattle.std.proofs.lemmas.Bool.{eqb-true, eq-eqb}
use Rattle.imap_automaton.specs.declared.sym.Names.{Names}
use Rattle.imap_automaton.specs.declared.sym.Names.TheVariants as names
use Rattle.imap_automaton.specs.declared.sym.Sym.TheVariants as sym
use Rattle.pushdown.specs.declared.moves.Move.TheVariants as move
use Rattle.imap_automaton.specs.NamesRules.{names_rule}
use Rattle.imap_automaton.specs.Flow.{stops}
use Rattle.imap_automaton.specs.Langs.{NamesLang, AfterMove}
use Rattle.pushdown.proofs.Lists.{cons_head, cons_tail}
use Rattle.imap_automaton.proofs.Tests.{from_test, at_true, at_false, is_true_at, mid}
use Rattle.imap_types.specs.Octets.{is_atom}
use Rattle.imap_types.specs.Texts.{Each}
use Rattle.imap_types.specs.Lines.{spaced}
use Rattle.imap_types.specs.Items.{IsAtom, IsName, AllNames, joined}

atom_not : (c : ℕ) → is_atom c ≡ true → ((c == 40) ≡ false) × ((c == 41) ≡ false) × ((c == 92) ≡ false) × ((c == 32) ≡ false)
atom_not c e = (grind arith, grind arith, grind arith, grind arith)

-- ---- Open

open_back : (c : ℕ) (t : List ℕ) → AfterMove (names_rule names.Open c) t → NamesLang names.Open (c ∷ t)
open_back c t h = from_test (c == 40) (move.One (sym.Names names.First)) move.Fail t (NamesLang names.Open (c ∷ t))
    (λ e k. (k.0, (k.1, (ap (λ (d : ℕ). d ∷ t) (eqb-true c 40 e) ∙ ap (λ (u : List ℕ). 40 ∷ u) k.2))))
    (λ e k. absurd k) h

open_forth : (c : ℕ) (t : List ℕ) → NamesLang names.Open (c ∷ t) → AfterMove (names_rule names.Open c) t
open_forth c t h =
    let e = h.1.1 in
    at_true (c == 40) (move.One (sym.Names names.First)) move.Fail t (eq-eqb c 40 (cons_head c 40 t (joined h.0 ++ 41 ∷ []) e))
    (h.0, h.1.0, cons_tail c 40 t (joined h.0 ++ 41 ∷ []) e)

-- ---- a name

atom_back : (c : ℕ) (t : List ℕ) → is_atom c ≡ true → Each is_atom t → IsAtom (c ∷ t)
atom_back c t e h = ((e, h), omega arith)

slash_name : (c : ℕ) (t : List ℕ) → (c == 92) ≡ true → IsAtom t → IsName (c ∷ t)
slash_name c t e h = inr (t, ap (λ (d : ℕ). d ∷ t) (eqb-true c 92 e), h)

name_back : (c : ℕ) (t : List ℕ) → AfterMove (names_rule names.Name c) t → NamesLang names.Name (c ∷ t)
name_back c t h = from_test (c == 92) (move.One (sym.Names names.Atom)) (cond (is_atom c) (move.One (sym.Names names.AtomRest)) move.Fail) t (IsName (c ∷ t))
    (λ e k. slash_name c t e k)
    (λ e k. from_test (is_atom c) (move.One (sym.Names names.AtomRest)) move.Fail t (IsName (c ∷ t)) (λ f l. inl (atom_back c t f l)) (λ f l. absurd l) k) h

name_forth : (c : ℕ) (t : List ℕ) → NamesLang names.Name (c ∷ t) → AfterMove (names_rule names.Name c) t
name_forth c t (inl a) =
    at_false (c == 92) (move.One (sym.Names names.Atom)) (cond (is_atom c) (move.One (sym.Names names.AtomRest)) move.Fail) t (atom_not c a.0.0).2
    (at_true (is_atom c) (move.One (sym.Names names.AtomRest)) move.Fail t a.0.0 a.0.1)
name_forth c t (inr a) =
    at_true (c == 92) (move.One (sym.Names names.Atom)) (cond (is_atom c) (move.One (sym.Names names.AtomRest)) move.Fail) t (eq-eqb c 92 (cons_head c 92 t a.0 a.1))
    (subst IsAtom (sym (cons_tail c 92 t a.0 a.1)) a.2)

start_back : (c : ℕ) (t : List ℕ) → AfterMove (names_rule names.Atom c) t → NamesLang names.Atom (c ∷ t)
start_back c t h = from_test (is_atom c) (move.One (sym.Names names.AtomRest)) move.Fail t (IsAtom (c ∷ t)) (λ e k. atom_back c t e k) (λ e k. absurd k) h

start_forth : (c : ℕ) (t : List ℕ) → NamesLang names.Atom (c ∷ t) → AfterMove (names_rule names.Atom c) t
start_forth c t h = at_true (is_atom c) (move.One (sym.Names names.AtomRest)) move.Fail t h.0.0 h.0.1

rest_back : (c : ℕ) (t : List ℕ) → AfterMove (names_rule names.AtomRest c) t → NamesLang names.AtomRest (c ∷ t)
rest_back c t h = from_test (is_atom c) (move.One (sym.Names names.AtomRest)) move.Yield t (Each is_atom (c ∷ t)) (λ e k. (e, k)) (λ e k. absurd k) h

rest_forth : (c : ℕ) (t : List ℕ) → NamesLang names.AtomRest (c ∷ t) → AfterMove (names_rule names.AtomRest c) t
rest_forth c t h = at_true (is_atom c) (move.One (sym.Names names.AtomRest)) move.Yield t h.0 h.1

-- ---- First and More

-- a name, and what follows it
first_of_two : (c : ℕ) (t x y : List ℕ) (ns : List (List ℕ)) → IsName (c ∷ x) → AllNames ns → t ≡ x ++ y → y ≡ spaced ns ++ 41 ∷ [] → NamesLang names.First (c ∷ t)
first_of_two c t x y ns n all e f = (
  (c ∷ x) ∷ ns,
  (n, all),
  ap (λ (u : List ℕ). c ∷ u) (e ∙ ap (λ (u : List ℕ). x ++ u) f ∙ sym (append_assoc x (spaced ns) (41 ∷ []))),
)

first_back : (c : ℕ) (t : List ℕ) → AfterMove (names_rule names.First c) t → NamesLang names.First (c ∷ t)
first_back c t h = from_test (c == 41) move.End (cond (c == 92) (move.Two (sym.Names names.Atom) (sym.Names names.More))
    (cond (is_atom c) (move.Two (sym.Names names.AtomRest) (sym.Names names.More)) move.Fail)) t (NamesLang names.First (c ∷ t))
    (λ e k. ([], tt, ap (λ (d : ℕ). d ∷ t) (eqb-true c 41 e) ∙ ap (λ (u : List ℕ). 41 ∷ u) k))
    (λ e k. from_test (c == 92) (move.Two (sym.Names names.Atom) (sym.Names names.More)) (cond (is_atom c) (move.Two (sym.Names names.AtomRest) (sym.Names names.More)) move.Fail) t
    (NamesLang names.First (c ∷ t))
    (λ f l. first_of_two c t l.front l.back l.second.0 (slash_name c l.front f l.first) l.second.1 l.whole l.second.2)
    (λ f l. from_test (is_atom c) (move.Two (sym.Names names.AtomRest) (sym.Names names.More)) move.Fail t (NamesLang names.First (c ∷ t))
    (λ g m. first_of_two c t m.front m.back m.second.0 (inl (atom_back c m.front g m.first)) m.second.1 m.whole m.second.2) (λ g m. absurd m) l) k) h

more_back : (c : ℕ) (t : List ℕ) → AfterMove (names_rule names.More c) t → NamesLang names.More (c ∷ t)
more_back c t h = from_test (c == 32) (move.Two (sym.Names names.Name) (sym.Names names.More)) (cond (c == 41) move.End move.Fail) t (NamesLang names.More (c ∷ t))
    (λ e k. (
      k.front ∷ k.second.0,
      (k.first, k.second.1),
      ap (λ (d : ℕ). d ∷ t) (eqb-true c 32 e) ∙ ap (λ (u : List ℕ). 32 ∷ u)
          (k.whole ∙ ap (λ (u : List ℕ). k.front ++ u) k.second.2 ∙ sym (append_assoc k.front (spaced k.second.0) (41 ∷ []))),
    ))
    (λ e k. from_test (c == 41) move.End move.Fail t (NamesLang names.More (c ∷ t))
    (λ f l. ([], tt, ap (λ (d : ℕ). d ∷ t) (eqb-true c 41 f) ∙ ap (λ (u : List ℕ). 41 ∷ u) l)) (λ f l. absurd l) k) h

more_at : (ns : List (List ℕ)) (c : ℕ) (t : List ℕ) → AllNames ns → c ∷ t ≡ spaced ns ++ 41 ∷ [] → AfterMove (names_rule names.More c) t
more_at [] c t all e =
    at_false (c == 32) (move.Two (sym.Names names.Name) (sym.Names names.More)) (cond (c == 41) move.End move.Fail) t (ap (λ (d : ℕ). d == 32) (cons_head c 41 t [] e))
    (at_true (c == 41) move.End move.Fail t (eq-eqb c 41 (cons_head c 41 t [] e)) (cons_tail c 41 t [] e))
more_at (n ∷ ns) c t all e =
    at_true (c == 32) (move.Two (sym.Names names.Name) (sym.Names names.More)) (cond (c == 41) move.End move.Fail) t (eq-eqb c 32 (cons_head c 32 t (n ++ spaced ns ++ 41 ∷ []) e))
    (record {
      front = n;
      back = spaced ns ++ 41 ∷ [];
      whole = cons_tail c 32 t ((n ++ spaced ns) ++ 41 ∷ []) e ∙ append_assoc n (spaced ns) (41 ∷ []);
      first = all.0;
      second = (ns, all.1, refl);
    })

more_forth : (c : ℕ) (t : List ℕ) → NamesLang names.More (c ∷ t) → AfterMove (names_rule names.More c) t
more_forth c t h = more_at h.0 c t h.1 h.2

first_name : (n : List ℕ) (ns : List (List ℕ)) (c : ℕ) (t : List ℕ) → IsName n → AllNames ns → c ∷ t ≡ (n ++ spaced ns) ++ 41 ∷ [] → AfterMove (names_rule names.First c) t
first_name [] ns c t (inl a) all e = absurd (omega (arith, a.1))
first_name [] ns c t (inr a) all e = let f = a.1 in absurd cc
first_name (d ∷ x) ns c t (inl a) all e =
    let same : c ≡ d = cons_head c d t ((x ++ spaced ns) ++ 41 ∷ []) e in
    let ok : is_atom c ≡ true = is_true_at is_atom c d same a.0.0 in
    let apart = atom_not c ok in
    at_false (c == 41) move.End (cond (c == 92) (move.Two (sym.Names names.Atom) (sym.Names names.More))
    (cond (is_atom c) (move.Two (sym.Names names.AtomRest) (sym.Names names.More)) move.Fail)) t apart.1
    (at_false (c == 92) (move.Two (sym.Names names.Atom) (sym.Names names.More)) (cond (is_atom c) (move.Two (sym.Names names.AtomRest) (sym.Names names.More)) move.Fail) t apart.2
    (at_true (is_atom c) (move.Two (sym.Names names.AtomRest) (sym.Names names.More)) move.Fail t ok
    (record {
      front = x;
      back = spaced ns ++ 41 ∷ [];
      whole = cons_tail c d t ((x ++ spaced ns) ++ 41 ∷ []) e ∙ append_assoc x (spaced ns) (41 ∷ []);
      first = a.0.1;
      second = (ns, all, refl);
    })))
first_name (d ∷ x) ns c t (inr a) all e =
    let same : c ≡ d = cons_head c d t ((x ++ spaced ns) ++ 41 ∷ []) e in
    let slash : c ≡ 92 = same ∙ cons_head d 92 x a.0 a.1 in
    at_false (c == 41) move.End (cond (c == 92) (move.Two (sym.Names names.Atom) (sym.Names names.More))
    (cond (is_atom c) (move.Two (sym.Names names.AtomRest) (sym.Names names.More)) move.Fail)) t (ap (λ (q : ℕ). q == 41) slash)
    (at_true (c == 92) (move.Two (sym.Names names.Atom) (sym.Names names.More)) (cond (is_atom c) (move.Two (sym.Names names.AtomRest) (sym.Names names.More)) move.Fail) t
    (eq-eqb c 92 slash)
    (record {
      front = x;
      back = spaced ns ++ 41 ∷ [];
      whole = cons_tail c d t ((x ++ spaced ns) ++ 41 ∷ []) e ∙ append_assoc x (spaced ns) (41 ∷ []);
      first = subst IsAtom (sym (cons_tail d 92 x a.0 a.1)) a.2;
      second = (ns, all, refl);
    }))

first_at : (ns : List (List ℕ)) (c : ℕ) (t : List ℕ) → AllNames ns → c ∷ t ≡ joined ns ++ 41 ∷ [] → AfterMove (names_rule names.First c) t
first_at [] c t all e =
    at_true (c == 41) move.End (cond (c == 92) (move.Two (sym.Names names.Atom) (sym.Names names.More))
    (cond (is_atom c) (move.Two (sym.Names names.AtomRest) (sym.Names names.More)) move.Fail)) t (eq-eqb c 41 (cons_head c 41 t [] e)) (cons_tail c 41 t [] e)
first_at (n ∷ ns) c t all e = first_name n ns c t all.0 all.1 e

first_forth : (c : ℕ) (t : List ℕ) → NamesLang names.First (c ∷ t) → AfterMove (names_rule names.First c) t
first_forth c t h = first_at h.0 c t h.1 h.2

-- ---- the group

-- a symbol of names in brackets reads an octet and any text that its rule still reads after it
pub names_back : (s : Names) (c : ℕ) (t : List ℕ) → AfterMove (names_rule s c) t → NamesLang s (c ∷ t)
names_back names.Open c t h = open_back c t h
names_back names.First c t h = first_back c t h
names_back names.More c t h = more_back c t h
names_back names.Name c t h = name_back c t h
names_back names.Atom c t h = start_back c t h
names_back names.AtomRest c t h = rest_back c t h

-- where a symbol of names in brackets reads an octet and a text, its rule still reads the text after the octet
pub names_forth : (s : Names) (c : ℕ) (t : List ℕ) → NamesLang s (c ∷ t) → AfterMove (names_rule s c) t
names_forth names.Open c t h = open_forth c t h
names_forth names.First c t h = first_forth c t h
names_forth names.More c t h = more_forth c t h
names_forth names.Name c t h = name_forth c t h
names_forth names.Atom c t h = start_forth c t h
names_forth names.AtomRest c t h = rest_forth c t h

no_name : IsName [] → ⊥
no_name (inl a) = omega (arith, a.1)
no_name (inr a) = let f = a.1 in cc

-- only an atom that has begun may end
pub names_empty : (s : Names) → NamesLang s [] → s ≡ names.AtomRest
names_empty names.Open h = let e = h.1.1 in absurd cc
names_empty names.First h = absurd (mid (joined h.0) [] 41 h.2)
names_empty names.More h = absurd (mid (spaced h.0) [] 41 h.2)
names_empty names.Name h = absurd (no_name h)
names_empty names.Atom h = absurd (omega (arith, h.1))
names_empty names.AtomRest h = refl

-- what follows a name begins with a stop
pub more_stops : (ns : List (List ℕ)) (c : ℕ) (t : List ℕ) → c ∷ t ≡ spaced ns ++ 41 ∷ [] → stops c ≡ true
more_stops [] c t e = is_true_at stops c 41 (cons_head c 41 t [] e) refl
more_stops (n ∷ ns) c t e = is_true_at stops c 32 (cons_head c 32 t ((n ++ spaced ns) ++ 41 ∷ []) e) refl

-- each symbol of names in brackets reads some text
pub names_example : (s : Names) → (t : List ℕ) × NamesLang s t
names_example names.Open = (40 ∷ 41 ∷ [], ([], (tt, refl)))
names_example names.First = (41 ∷ [], ([], tt, refl))
names_example names.More = (41 ∷ [], ([], tt, refl))
names_example names.Name = (97 ∷ [], inl ((refl, tt), omega arith))
names_example names.Atom = (97 ∷ [], ((refl, tt), omega arith))
names_example names.AtomRest = ([], tt)
