-- An octet's mark is forced by the symbols, so octets lead to one text alone; and what a step leaves of literals.
use Rattle.std.proofs.Common.{◌≡◌, ℕ, suc, ◌+◌, ◌-◌, ◌*◌, ◌≤◌, Bool, true, false, not, ◌||◌, List, [], ◌∷◌, ◌++◌, cond, Option, Some, None, refl, sym, ap, subst, ◌∙◌, arith}
use Rattle.std.specs.Prelude.{nat_lt}
use Rattle.std.proofs.lemmas.Bool.{ltb-false, cond-true, cond-false}
use Rattle.std.proofs.lemmas.Option.{same_Some}
use Rattle.std.proofs.Math.Nat.{mul-suc}
use Rattle.pushdown.specs.declared.moves.Move.{Move}
use Rattle.pushdown.specs.declared.moves.Move.TheVariants as move
use Rattle.pushdown.specs.Automaton.{Automaton}
use Rattle.pushdown.specs.Run.{start, moved, step, stepped, run, inside, inside_top, mark}
use Rattle.pushdown.specs.Flow.{first_begins, Good, left_of, is_go, pushed_left, Leaves}
use Rattle.pushdown.specs.Lawful.{IsLawful}
use Rattle.pushdown.proofs.Leading.{no_symbols, none_stays, alive}
use Rattle.pushdown.proofs.Whole.{keeps, open_begins}
use Rattle.pushdown.proofs.Lists.{cons_head, cons_tail}
use Rattle.imap_types.specs.Texts.{plain_of, plain_octets}

-- a number of 256 or more in a text stands for the octet 256 below it
pub plain_large : (c : ℕ) → nat_lt c 256 ≡ false → plain_of c ≡ c - 256
plain_large c e = cond-false (nat_lt c 256) c (c - 256) e

-- a number below 256 in a text stands for the octet itself
pub plain_small : (c : ℕ) → nat_lt c 256 ≡ true → plain_of c ≡ c
plain_small c e = cond-true (nat_lt c 256) c (c - 256) e

-- no boolean is both true and false
pub both : {P : Type 0} (b : Bool) → b ≡ true → b ≡ false → P
both true e f = absurd cc
both false e f = absurd cc

-- the bound on what was taken
pub bound_keeps : (most : ℕ) (inside : Bool) (taken out k old new : ℕ) → k ≡ cond inside 0 1 → Leaves most inside old new → taken + old ≤ (most + 1) * out
    → (taken + 1) + new ≤ (most + 1) * (out + k)
bound_keeps most true taken out k old new e h b =
    let same : out + k ≡ out = omega (arith, e) in subst (λ (n : ℕ). (taken + 1) + new ≤ (most + 1) * n) (sym same) (omega (arith, h, b))
bound_keeps most false taken out k old new e h b =
    let same : out + k ≡ out + 1 = omega (arith, e) in
    let next : out + 1 ≡ suc out = omega arith in
    let more : (most + 1) * (out + 1) ≡ (most + 1) * out + (most + 1) = subst (λ (n : ℕ). (most + 1) * n ≡ (most + 1) * out + (most + 1)) (sym next) (mul-suc (most + 1) out) in
    subst (λ (n : ℕ). (taken + 1) + new ≤ (most + 1) * n) (sym same) (omega (arith, h, b, more))

module _ {S : Type 0} (machine : Automaton S) (laws : IsLawful machine) where
  -- a symbol that is no literal's takes no octet of one, unless it ends before it
  small_at : (m : Move S) (s : S) (rest left : List S) (c : ℕ) → machine.rule_of s c ≡ m → inside machine s ≡ false → machine.fits s ≡ true → nat_lt c 256 ≡ false
      → (m ≡ move.Yield → step machine rest c ≡ Some left → ⊥) → moved m rest (step machine rest c) ≡ Some left → ⊥
  small_at move.Fail s rest left c r o fits e f h = cc
  small_at move.Yield s rest left c r o fits e f h = f refl h
  small_at move.End s rest left c r o fits e f h = both (is_go (machine.rule_of s c)) (ap is_go r) (laws.unmarked s c o fits e)
  small_at (move.One a) s rest left c r o fits e f h = both (is_go (machine.rule_of s c)) (ap is_go r) (laws.unmarked s c o fits e)
  small_at (move.Two a b) s rest left c r o fits e f h = both (is_go (machine.rule_of s c)) (ap is_go r) (laws.unmarked s c o fits e)

  small_step : (last : Bool) (s : S) (rest left : List S) (c : ℕ) → Good machine last (s ∷ rest) → inside machine s ≡ false → nat_lt c 256 ≡ false
      → step machine (s ∷ rest) c ≡ Some left → ⊥
  small_step last s [] left c good o e h = small_at (machine.rule_of s c) s [] left c refl o good.0 e (λ y q. cc) h
  small_step last s (q ∷ rest) left c good o e h = small_at (machine.rule_of s c) s (q ∷ rest) left c refl o good.0 e
      (λ y k. small_step last q rest left c good.2
      (laws.begins_outside q (open_begins (machine.ends_open s) (machine.begins q) good.1 (laws.yields_open s (laws.yields s c good.0 y).0))) e k) h

  forced_small : (last : Bool) (s : S) (rest left : List S) (c : ℕ) (b : Bool) → nat_lt c 256 ≡ b → Good machine last (s ∷ rest) → inside machine s ≡ false
      → step machine (s ∷ rest) c ≡ Some left → c ≡ plain_of c
  forced_small last s rest left c true e good o h = sym (plain_small c e)
  forced_small last s rest left c false e good o h = absurd (small_step last s rest left c good o e h)

  forced_large : (s : S) (rest left : List S) (c : ℕ) (b : Bool) → nat_lt c 256 ≡ b → inside machine s ≡ true → step machine (s ∷ rest) c ≡ Some left → c ≡ plain_of c + 256
  forced_large s rest left c true e o h = absurd (no_symbols left (ap (λ (m : Move S). moved m rest (step machine rest c)) (sym (laws.marked s c o e)) ∙ h))
  forced_large s rest left c false e o h = let p = plain_large c e in omega (arith, p, ltb-false _ _ e)

  forced_by : (last : Bool) (s : S) (rest left : List S) (c : ℕ) (b : Bool) → inside machine s ≡ b → Good machine last (s ∷ rest) → step machine (s ∷ rest) c ≡ Some left
      → c ≡ cond b (plain_of c + 256) (plain_of c)
  forced_by last s rest left c true o good h = forced_large s rest left c (nat_lt c 256) refl o h
  forced_by last s rest left c false o good h = forced_small last s rest left c (nat_lt c 256) refl good o h

  pub forced : (last : Bool) (ss left : List S) (c : ℕ) → Good machine last ss → step machine ss c ≡ Some left → c ≡ mark machine ss (plain_of c)
  forced last [] left c good h = absurd cc
  forced last (s ∷ rest) left c good h = forced_by last s rest left c (inside machine s) refl good h

  -- ---- what octets lead to

  pub start_good : Good machine false (start machine)
  start_good = (laws.start_fits, by (machine.ends_open machine.start) laws.start_ends, tt)
    where
      by : (b : Bool) → b ≡ false → (not b || false) ≡ true
      by true e = absurd cc
      by false e = refl

  good_from : (t : List ℕ) (o : Option (List S)) (left : List S) → ((ss : List S) → o ≡ Some ss → Good machine false ss) → run machine o t ≡ Some left → Good machine false left
  good_from [] o left good e = good left e
  good_from (c ∷ t) None left good e = absurd (no_symbols left (sym (none_stays machine t) ∙ e))
  good_from (c ∷ t) (Some ss) left good e = good_from t (step machine ss c) left (λ next f. keeps machine laws false ss c next (good ss refl) f) e

  pub good_of : (t : List ℕ) (ss left : List S) → Good machine false ss → run machine (Some ss) t ≡ Some left → Good machine false left
  good_of t ss left good e = good_from t (Some ss) left (λ other f. subst (Good machine false) (same_Some ss other f) good) e

  -- one octet of a text that leads on
  head_is : (ss : List S) (c : ℕ) (t : List ℕ) (left : List S) → Good machine false ss → run machine (step machine ss c) t ≡ Some left → c ≡ mark machine ss (plain_of c)
  head_is ss c t left good e = let a = alive machine (step machine ss c) t left e in forced false ss a.symbols c good a.is

  -- a text of those octets that leads on is one alone
  same_text : (t u : List ℕ) (o : Option (List S)) (left other : List S) → ((ss : List S) → o ≡ Some ss → Good machine false ss) → run machine o t ≡ Some left
      → run machine o u ≡ Some other
      → plain_octets t ≡ plain_octets u → t ≡ u
  same_text [] [] o left other good e f p = refl
  same_text [] (d ∷ u) o left other good e f p = absurd cc
  same_text (c ∷ t) [] o left other good e f p = absurd cc
  same_text (c ∷ t) (d ∷ u) None left other good e f p = absurd (no_symbols left (sym (none_stays machine t) ∙ e))
  same_text (c ∷ t) (d ∷ u) (Some ss) left other good e f p =
      let g = good ss refl in
      let same : c ≡ d = head_is ss c t left g e ∙ ap (mark machine ss) (cons_head (plain_of c) (plain_of d) (plain_octets t) (plain_octets u) p) ∙ sym
      (head_is ss d u other g f) in
      let rest : t ≡ u =
      same_text t u (step machine ss c) left other (λ next h. keeps machine laws false ss c next g h) e (ap (λ (n : ℕ). run machine (step machine ss n) u) same ∙ f)
      (cons_tail (plain_of c) (plain_of d) (plain_octets t) (plain_octets u) p) in
      cc

  pub start_same : (t u : List ℕ) (left other : List S) → run machine (Some (start machine)) t ≡ Some left → run machine (Some (start machine)) u ≡ Some other
      → plain_octets t ≡ plain_octets u → t ≡ u
  start_same t u left other e f p = same_text t u (Some (start machine)) left other (λ ss h. subst (Good machine false) (same_Some (start machine) ss h) start_good) e f p

  -- ---- what is left of literals

  left_move : (m : Move S) (s : S) (rest left : List S) (other : Option (List S)) → Leaves machine.most (inside machine s) (machine.left s) (pushed_left machine m)
      → (m ≡ move.Yield → other ≡ Some left → Leaves machine.most (inside machine s) (left_of machine (s ∷ rest)) (left_of machine left)) → moved m rest other ≡ Some left
      → Leaves machine.most (inside machine s) (left_of machine (s ∷ rest)) (left_of machine left)
  left_move move.Fail s rest left other g ih e = absurd cc
  left_move move.Yield s rest left other g ih e = ih refl e
  left_move move.End s rest left other g ih e =
      subst (λ (q : List S). Leaves machine.most (inside machine s) (left_of machine (s ∷ rest)) (left_of machine q)) (same_Some rest left e)
      (omega (arith, g))
  left_move (move.One a) s rest left other g ih e =
      subst (λ (q : List S). Leaves machine.most (inside machine s) (left_of machine (s ∷ rest)) (left_of machine q)) (same_Some (a ∷ rest) left e)
      (omega (arith, g))
  left_move (move.Two a b) s rest left other g ih e =
      subst (λ (q : List S). Leaves machine.most (inside machine s) (left_of machine (s ∷ rest)) (left_of machine q)) (same_Some (a ∷ b ∷ rest) left e) (omega (arith, g))

  top_begins : (ss : List S) → first_begins machine false ss ≡ true → inside_top machine ss ≡ false
  top_begins [] e = refl
  top_begins (s ∷ ss) e = laws.begins_outside s e

  pub step_left : (ss : List S) (c : ℕ) (left : List S) → Good machine false ss → step machine ss c ≡ Some left
      → Leaves machine.most (inside_top machine ss) (left_of machine ss) (left_of machine left)
  step_left [] c left good e = absurd cc
  step_left (s ∷ rest) c left good e = left_move (machine.rule_of s c) s rest left (step machine rest c) (laws.leaves s c good.0)
      (λ y f.
      let o : machine.ends_open s ≡ true = laws.yields_open s (laws.yields s c good.0 y).0 in
      let n : inside machine s ≡ false = laws.open_outside s o in
      let t : inside_top machine rest ≡ false = top_begins rest (open_begins (machine.ends_open s) (first_begins machine false rest) good.1 o) in
      let h = step_left rest c left good.2 f in
      let k : Leaves machine.most false (left_of machine rest) (left_of machine left) =
      subst (λ (b : Bool). Leaves machine.most b (left_of machine rest) (left_of machine left)) t h in
      subst (λ (b : Bool). Leaves machine.most b (left_of machine (s ∷ rest)) (left_of machine left)) (sym n) (omega (arith, k))) e
