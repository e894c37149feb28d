-- Symbols in turn read a text exactly where the automaton comes from them to no symbol.
use Rattle.std.proofs.Common.{◌≡◌, ℕ, ◌+◌, ◌≤◌, Bool, true, false, not, ◌&&◌, ◌||◌, List, [], ◌∷◌, ◌++◌, length, Option, Some, None, refl, sym, ap, subst, ◌∙◌, arith}
use Rattle.std.specs.Prelude.{nat_le}
use Rattle.std.proofs.lemmas.Bool.{and_parts, leb-true}
use Rattle.std.proofs.lemmas.Option.{same_Some}
use Rattle.pushdown.specs.declared.moves.Move.{Move}
use Rattle.pushdown.specs.declared.moves.Move.TheVariants as move
use Rattle.pushdown.specs.Automaton.{Automaton, Langs, After}
use Rattle.pushdown.specs.Run.{moved, step, run}
use Rattle.pushdown.specs.Flow.{first_begins, Good, move_good, move_needs, Room, Ready, AllFit, CanStep}
use Rattle.pushdown.specs.Lawful.{IsLawful}
use Rattle.pushdown.proofs.Leading.{no_symbols, none_stays}
use Rattle.pushdown.proofs.Lists.{cons_head, cons_tail, no_append, regroup, ungroup}

-- where the first flag implies the second and is set, the second is set
pub open_begins : (o b : Bool) → (not o || b) ≡ true → o ≡ true → b ≡ true
open_begins o b e f = grind arith

chain : (p q r : Bool) → (not p || q) ≡ true → (not q || r) ≡ true → (not p || r) ≡ true
chain p q r e f = grind arith

-- what a step leads to
pub record Leads {S : Type 0} (a : Automaton S) (ss : List S) (c : ℕ) (t : List ℕ) : Type 0 where
  pub left : List S
  pub by : step a ss c ≡ Some left
  pub reads : Langs a.language left t

record MoveLeads {S : Type 0} (a : Automaton S) (m : Move S) (rest : List S) (other : Option (List S)) (t : List ℕ) : Type 0 where
  left : List S
  by : moved m rest other ≡ Some left
  reads : Langs a.language left t

module _ {S : Type 0} (machine : Automaton S) (laws : IsLawful machine) where
  -- ---- from a text read after an octet to a text read with it

  unmoved : (s : S) (rest : List S) (c : ℕ) (left : List S) (t : List ℕ) (m : Move S) → machine.rule_of s c ≡ m → machine.fits s ≡ true
      → (step machine rest c ≡ Some left → Langs machine.language rest (c ∷ t))
      → moved m rest (step machine rest c) ≡ Some left → Langs machine.language left t → Langs machine.language (s ∷ rest) (c ∷ t)
  unmoved s rest c left t move.Fail r fits ih e h = absurd cc
  unmoved s rest c left t move.Yield r fits ih e h = record { front = []; back = c ∷ t; whole = refl; first = (laws.yields s c fits r).1; second = ih e }
  unmoved s rest c left t move.End r fits ih e h = record {
    front = c ∷ [];
    back = t;
    whole = refl;
    first = laws.back s c [] fits (subst (λ (m : Move S). After machine.language m []) (sym r) refl);
    second = subst (λ (ss : List S). Langs machine.language ss t) (sym (same_Some rest left e)) h;
  }
  unmoved s rest c left t (move.One a) r fits ih e h =
      let k = subst (λ (ss : List S). Langs machine.language ss t) (sym (same_Some (a ∷ rest) left e)) h in
      record {
        front = c ∷ k.front;
        back = k.back;
        whole = ap (λ (u : List ℕ). c ∷ u) k.whole;
        first = laws.back s c k.front fits (subst (λ (m : Move S). After machine.language m k.front) (sym r) k.first);
        second = k.second;
      }
  unmoved s rest c left t (move.Two a b) r fits ih e h =
      let k =
      regroup (machine.language a) (machine.language b) (Langs machine.language rest) t (subst (λ (ss : List S). Langs machine.language ss t) (sym (same_Some
      (a ∷ b ∷ rest) left e)) h) in
      record {
        front = c ∷ k.front;
        back = k.back;
        whole = ap (λ (u : List ℕ). c ∷ u) k.whole;
        first = laws.back s c k.front fits (subst (λ (m : Move S). After machine.language m k.front) (sym r) k.first);
        second = k.second;
      }

  pub unstep : (last : Bool) (ss : List S) (c : ℕ) (left : List S) (t : List ℕ) → Good machine last ss → step machine ss c ≡ Some left → Langs machine.language left t
      → Langs machine.language ss (c ∷ t)
  unstep last [] c left t good e h = absurd cc
  unstep last (s ∷ rest) c left t good e h = unmoved s rest c left t (machine.rule_of s c) refl good.0 (λ e'. unstep last rest c left t good.2 e' h) e h

  -- ---- from a text to what is read after its first octet

  begin_some : (s : S) → machine.begins s ≡ true → machine.fits s ≡ true → machine.language s [] → ⊥
  begin_some s b fits h = laws.begins_some s b (laws.empty s fits h)

  stop_at : (s : S) (c : ℕ) (t x y : List ℕ) → machine.begins s ≡ true → machine.fits s ≡ true → c ∷ t ≡ x ++ y → machine.language s x → machine.stops c ≡ true
  stop_at s c t [] y b fits e h = absurd (begin_some s b fits h)
  stop_at s c t (d ∷ x) y b fits e h = laws.begins_stop s c x b (subst (λ (n : ℕ). machine.language s (n ∷ x)) (sym (cons_head c d t (x ++ y) e)) h)

  stop_of : (last : Bool) (ss : List S) (c : ℕ) (t : List ℕ) → first_begins machine last ss ≡ true → Good machine last ss → Langs machine.language ss (c ∷ t)
      → machine.stops c ≡ true
  stop_of last [] c t b good h = absurd cc
  stop_of last (s ∷ ss) c t b good h = stop_at s c t h.front h.back b good.0 h.whole h.first

  removed : (m : Move S) (rest : List S) (other : Option (List S)) (t x y : List ℕ) → t ≡ x ++ y → After machine.language m x → Langs machine.language rest y
      → MoveLeads machine m rest other t
  removed move.Fail rest other t x y e a h = absurd a
  removed move.Yield rest other t x y e a h = absurd a
  removed move.End rest other t x y e a h =
      record { left = rest; by = refl; reads = subst (λ (u : List ℕ). Langs machine.language rest u) (sym (e ∙ ap (λ (u : List ℕ). u ++ y) a)) h }
  removed (move.One p) rest other t x y e a h = record { left = p ∷ rest; by = refl; reads = record { front = x; back = y; whole = e; first = a; second = h } }
  removed (move.Two p q) rest other t x y e a h = record {
    left = p ∷ q ∷ rest;
    by = refl;
    reads = ungroup (machine.language p) (machine.language q) (Langs machine.language rest) t (record { front = x; back = y; whole = e; first = a; second = h });
  }

  forth_at : (last : Bool) (s : S) (rest : List S) (c : ℕ) (t x y : List ℕ) → Good machine last (s ∷ rest) → c ∷ t ≡ x ++ y → machine.language s x
      → Langs machine.language rest y
      → ((u : List ℕ) → Langs machine.language rest (c ∷ u) → Leads machine rest c u) → Leads machine (s ∷ rest) c t
  forth_at last s rest c t [] y good e f h ih =
      let k : Langs machine.language rest (c ∷ t) = subst (λ (u : List ℕ). Langs machine.language rest u) (sym e) h in
      let may = laws.empty s good.0 f in
      let b : first_begins machine last rest ≡ true = open_begins (machine.ends_open s) (first_begins machine last rest) good.1 (laws.yields_open s may) in
      let l = ih t k in
      let r = laws.ends s c may f (stop_of last rest c t b good.2 k) in
      record { left = l.left; by = ap (λ (m : Move S). moved m rest (step machine rest c)) r ∙ l.by; reads = l.reads }
  forth_at last s rest c t (d ∷ x) y good e f h ih =
      let a : After machine.language (machine.rule_of s c) x = laws.forth s c x good.0 (subst (λ (n : ℕ). machine.language s (n ∷ x)) (sym (cons_head c d t (x ++ y) e)) f) in
      let l = removed (machine.rule_of s c) rest (step machine rest c) t x y (cons_tail c d t (x ++ y) e) a h in
      record { left = l.left; by = l.by; reads = l.reads }

  pub forth : (last : Bool) (ss : List S) (c : ℕ) (t : List ℕ) → Good machine last ss → Langs machine.language ss (c ∷ t) → Leads machine ss c t
  forth last [] c t good h = absurd cc
  forth last (s ∷ rest) c t good h = forth_at last s rest c t h.front h.back good h.whole h.first h.second (λ u k. forth last rest c u good.2 k)

  -- ---- a step keeps the symbols good, and room for those to come

  keeps_move : (last : Bool) (m : Move S) (s : S) (rest left : List S) (other : Option (List S)) → move_good machine (machine.ends_open s) m ≡ true
      → Good machine last (s ∷ rest)
      → (other ≡ Some left → Good machine last left) → moved m rest other ≡ Some left → Good machine last left
  keeps_move last move.Fail s rest left other g good ih e = absurd cc
  keeps_move last move.Yield s rest left other g good ih e = ih e
  keeps_move last move.End s rest left other g good ih e = subst (Good machine last) (same_Some rest left e) good.2
  keeps_move last (move.One a) s rest left other g good ih e =
      let p = and_parts (machine.fits a) (not (machine.ends_open a) || machine.ends_open s) g in
      subst (Good machine last) (same_Some (a ∷ rest) left e) (p.0, chain (machine.ends_open a) (machine.ends_open s) (first_begins machine last rest) p.1 good.1, good.2)
  keeps_move last (move.Two a b) s rest left other g good ih e =
      let p = and_parts (machine.fits a && machine.fits b && (not (machine.ends_open a) || machine.begins b)) (not (machine.ends_open b) || machine.ends_open s) g in
      let q = and_parts (machine.fits a && machine.fits b) (not (machine.ends_open a) || machine.begins b) p.0 in
      let r = and_parts (machine.fits a) (machine.fits b) q.0 in
      subst (Good machine last) (same_Some (a ∷ b ∷ rest) left e) (
        r.0,
        q.1,
        (
          r.1,
          chain (machine.ends_open b) (machine.ends_open s)
              (first_begins machine last rest) p.1 good.1,
          good.2,
        ),
      )

  pub keeps : (last : Bool) (ss : List S) (c : ℕ) (left : List S) → Good machine last ss → step machine ss c ≡ Some left → Good machine last left
  keeps last [] c left good e = absurd cc
  keeps last (s ∷ rest) c left good e =
      keeps_move last (machine.rule_of s c) s rest left (step machine rest c) (laws.good s c good.0) good (λ e'. keeps last rest c left good.2 e') e

  room_move : (m : Move S) (s : S) (rest left : List S) (other : Option (List S)) → move_needs machine (machine.need s) m ≡ true → Room machine (s ∷ rest)
      → (other ≡ Some left → Room machine left)
      → moved m rest other ≡ Some left → Room machine left
  room_move move.Fail s rest left other g room ih e = absurd cc
  room_move move.Yield s rest left other g room ih e = ih e
  room_move move.End s rest left other g room ih e = subst (Room machine) (same_Some rest left e) room.1
  room_move (move.One a) s rest left other g room ih e =
      subst (Room machine) (same_Some (a ∷ rest) left e) (omega (arith, leb-true _ _ g, room.0), room.1)
  room_move (move.Two a b) s rest left other g room ih e =
      let p = and_parts (nat_le (machine.need a + 1) (machine.need s)) (nat_le (machine.need b) (machine.need s)) g in
      subst (Room machine) (same_Some (a ∷ b ∷ rest) left e) (omega (arith, leb-true _ _ p.0, room.0), (omega (arith, leb-true _ _ p.1, room.0), room.1))

  pub room_keeps : (ss : List S) (c : ℕ) (left : List S) → AllFit machine ss → Room machine ss → step machine ss c ≡ Some left → Room machine left
  room_keeps [] c left fits room e = absurd cc
  room_keeps (s ∷ rest) c left fits room e =
      room_move (machine.rule_of s c) s rest left (step machine rest c) (laws.needs s c fits.0) room (λ e'. room_keeps rest c left fits.1 room.1 e') e

  pub good_fits : (last : Bool) (ss : List S) → Good machine last ss → AllFit machine ss
  good_fits last [] g = tt
  good_fits last (s ∷ ss) g = (g.0, good_fits last ss g.2)

  pub ready_keeps : (ss : List S) (c : ℕ) (left : List S) → Ready machine ss → step machine ss c ≡ Some left → Ready machine left
  ready_keeps ss c left r e = (keeps false ss c left r.0 e, room_keeps ss c left (good_fits false ss r.0) r.1 e)

  pub ready_can : (ss : List S) → Ready machine ss → CanStep machine ss
  ready_can ss r = (good_fits false ss r.0, r.1)

  -- ---- whole texts

  back_at : (o : Option (List S)) (ss : List S) (c : ℕ) (t : List ℕ) → Good machine false ss → ((left : List S) → Good machine false left
      → run machine (Some left) t ≡ Some [] → Langs machine.language left t)
      → run machine (Some ss) (c ∷ t) ≡ Some [] → step machine ss c ≡ o → Langs machine.language ss (c ∷ t)
  back_at None ss c t good ih e s = absurd (no_symbols [] (sym (none_stays machine t) ∙ ap (λ (o : Option (List S)). run machine o t) (sym s) ∙ e))
  back_at (Some left) ss c t good ih e s = unstep false ss c left t good s (ih left (keeps false ss c left good s) (ap (λ (o : Option (List S)). run machine o t) (sym s) ∙ e))

  pub reads_back : (t : List ℕ) (ss : List S) → Good machine false ss → run machine (Some ss) t ≡ Some [] → Langs machine.language ss t
  reads_back [] ss good e = subst (λ (u : List S). Langs machine.language u []) (sym (same_Some ss [] e)) refl
  reads_back (c ∷ t) ss good e = back_at (step machine ss c) ss c t good (λ left g k. reads_back t left g k) e refl

  begun : (rest : List S) → first_begins machine false rest ≡ true → Good machine false rest → Langs machine.language rest [] → ⊥
  begun [] b good h = cc
  begun (q ∷ rest) b good h =
      let n = no_append h.front h.back h.whole in
      begin_some q b good.0 (subst (λ (u : List ℕ). machine.language q u) n.0 h.first)

  empty_only : (ss : List S) → Good machine false ss → Langs machine.language ss [] → ss ≡ []
  empty_only [] good h = refl
  empty_only (s ∷ rest) good h =
      let n = no_append h.front h.back h.whole in
      let o = laws.yields_open s (laws.empty s good.0 (subst (λ (u : List ℕ). machine.language s u) n.0 h.first)) in
      absurd (begun rest (open_begins (machine.ends_open s) (first_begins machine false rest) good.1 o) good.2 (subst (λ
      (u : List ℕ). Langs machine.language rest u) n.1 h.second))

  pub reads_forth : (t : List ℕ) (ss : List S) → Good machine false ss → Langs machine.language ss t → run machine (Some ss) t ≡ Some []
  reads_forth [] ss good h = ap (λ (u : List S). Some u) (empty_only ss good h)
  reads_forth (c ∷ t) ss good h =
      let l = forth false ss c t good h in
      ap (λ (o : Option (List S)). run machine o t) l.by ∙ reads_forth t l.left (keeps false ss c l.left good l.by) l.reads

  -- each list of symbols reads some text
  pub reads_some : (last : Bool) (ss : List S) → Good machine last ss → (t : List ℕ) × Langs machine.language ss t
  reads_some last [] good = ([], refl)
  reads_some last (s ∷ ss) good =
      let a = laws.example s good.0 in
      let b = reads_some last ss good.2 in
      (a.0 ++ b.0, record { front = a.0; back = b.0; whole = refl; first = a.1; second = b.1 })
