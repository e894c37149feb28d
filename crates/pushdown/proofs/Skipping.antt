-- Octets of a literal that are taken at once.
use Rattle.std.proofs.Common.{◌≡◌, ◌≢◌, ℕ, zero, suc, ◌+◌, ◌-◌, ◌<◌, ◌≤◌, ◌*◌, true, false, min, List, [], ◌∷◌, ◌++◌, length, take, drop, get_or}
use Rattle.std.proofs.Common.{Some, inl, inr, refl, sym, ap, subst, ◌∙◌}
use Rattle.std.proofs.Common.{append_assoc, length-append, arith}
use Rattle.std.specs.Prelude.{Bool, nat_lt, not, ◌||◌}
use Rattle.std.proofs.Math.Nat.{min-le_left, min-le_right}
use Rattle.std.proofs.lemmas.Bool.{ltb-true, lt-ltb, cases_lt, cond-true, cond-false}
use Rattle.std.proofs.lemmas.List.{append-nil, length-take-le, take-append-drop, drop_min, length-drop}
use Rattle.pushdown.specs.declared.moves.Move.{Move}
use Rattle.pushdown.specs.declared.scanner.Scanner.{Scanner}
use Rattle.pushdown.specs.Automaton.{Automaton}
use Rattle.pushdown.specs.Symbols.{symbols_of}
use Rattle.pushdown.specs.Run.{moved, step, mark, cost, inside, inside_left, skipped}
use Rattle.pushdown.specs.Flow.{room, first_begins, Ready, left_of}
use Rattle.pushdown.specs.Lawful.{IsLawful}
use Rattle.pushdown.specs.Fed.{LeavesSymbols, Fed, FedUpTo}
use Rattle.pushdown.proofs.Standing.{stands_step}
use Rattle.imap_types.specs.Texts.{Each}

abbrev pub small : ℕ → Bool
small c = nat_lt c 256

-- where every element of a list is below 256, so are its first k
pub small_front : (k : ℕ) (octets : List ℕ) → ((i : ℕ) → get_or octets i 0 < 256) → Each small (take k octets)
small_front zero octets h = tt
small_front (suc k) [] h = tt
small_front (suc k) (c ∷ octets) h = (lt-ltb c 256 (h 0), small_front k octets (λ i. h (suc i)))

-- what a stack keeps, where octets of the literal at hand are taken
pub record Skips {S : Type 0} (machine : Automaton S) (ss : List S) (out : ℕ) (b cs : List ℕ) : Type 0 where
  pub ready : Ready machine (skipped machine (length cs) ss)
  pub more : skipped machine (length cs) ss ≢ []
  pub stands : LeavesSymbols machine (skipped machine (length cs) ss) out (b ++ cs)
  pub left : left_of machine (skipped machine (length cs) ss) + length cs ≡ left_of machine ss

module _ {S : Type 0} (machine : Automaton S) (laws : IsLawful machine) where
  -- an octet that isn't the last of its literal
  pub step_inside : (s : S) (c : ℕ) (ss : List S) → c < 256 → 1 < machine.left s
      → step machine (s ∷ ss) (mark machine (s ∷ ss) c) ≡ Some (machine.with_left s (machine.left s - 1) ∷ ss)
  step_inside s c ss lt more =
      let at : mark machine (s ∷ ss) c ≡ c + 256 = cond-true (inside machine s) (c + 256) c (lt-ltb 0 (machine.left s) (omega (arith, more))) in
      ap (step machine (s ∷ ss)) at ∙ ap (λ (m : Move S). moved m ss (step machine ss (c + 256))) (laws.taken s c more lt)

  inside_free : (s : S) (ss : List S) → 0 < machine.left s → cost machine (s ∷ ss) ≡ 0
  inside_free s ss some = cond-true (inside machine s) 0 1 (lt-ltb 0 (machine.left s) some)

  -- as many octets as n are taken of the literal at hand
  stands_skip : (cs : List ℕ) (s : S) (ss : List S) (out n : ℕ) (b : List ℕ) → Each small cs → length cs < n → machine.left s ≡ n → LeavesSymbols machine (s ∷ ss) out b
      → LeavesSymbols machine (machine.with_left s (n - length cs) ∷ ss) out (b ++ cs)
  stands_skip [] s ss out n b each lt at h =
      let same : n - 0 ≡ machine.left s = omega (arith, at) in
      subst (λ (u : List ℕ). LeavesSymbols machine (machine.with_left s (n - 0) ∷ ss) out u) (sym (append-nil b))
      (subst (λ (q : S). LeavesSymbols machine (q ∷ ss) out b) (sym (ap (machine.with_left s) same ∙ laws.with_same s)) h)
  stands_skip (c ∷ cs) s ss out n b each lt at h =
      let small_c : c < 256 = ltb-true c 256 each.0 in
      let free : cost machine (s ∷ ss) ≡ 0 = inside_free s ss (omega (arith, at, lt)) in
      let next : S = machine.with_left s (machine.left s - 1) in
      let here = stands_step machine laws (s ∷ ss) (next ∷ ss) out b c h small_c (step_inside s c ss small_c (omega (arith, lt, at))) (omega (arith, free, h.within)) in
      let same : out + cost machine (s ∷ ss) ≡ out = omega (arith, free) in
      let left : machine.left next ≡ n - 1 = laws.left_with s (machine.left s - 1) (omega (arith, at, lt)) ∙ ap (λ (m : ℕ). m - 1) at in
      let on = stands_skip cs next ss out (n - 1) (b ++ c ∷ []) each.1 (omega (arith, lt)) left (subst (λ (m : ℕ). LeavesSymbols machine (next ∷ ss) m (b ++ c ∷ [])) same here) in
      let count : n - 1 - length cs ≡ n - suc (length cs) = omega arith in
      let is : machine.with_left next (n - 1 - length cs) ≡ machine.with_left s (n - suc (length cs)) =
      laws.with_with s (machine.left s - 1) (n - 1 - length cs) ∙ ap (machine.with_left s) count in
      subst (λ (u : List ℕ). LeavesSymbols machine (machine.with_left s (n - suc (length cs)) ∷ ss) out u) (append_assoc b (c ∷ []) cs)
      (subst (λ (q : S). LeavesSymbols machine (q ∷ ss) out ((b ++ c ∷ []) ++ cs)) is on)

  -- a literal of which octets were taken stands where it stood
  pub ready_fewer : (s : S) (k : ℕ) (ss : List S) → k < machine.left s → Ready machine (s ∷ ss) → Ready machine (machine.with_left s (machine.left s - k) ∷ ss)
  ready_fewer s k ss lt h =
      let fits = laws.with_fits s (machine.left s - k) h.0.0 (omega (arith, lt)) (omega arith) in
      let open_same = laws.with_open s (machine.left s - k) in
      let need_same = laws.with_need s (machine.left s - k) in (
        (fits, subst (λ (o : Bool). (not o || first_begins machine false ss) ≡ true) (sym open_same) h.0.1, h.0.2),
        (subst (λ (n : ℕ). n + length ss ≤ room) (sym need_same) h.1.0, h.1.1),
      )

  skips : (ss : List S) (out : ℕ) (b cs : List ℕ) → Each small cs → length cs < inside_left machine ss → Ready machine ss → LeavesSymbols machine ss out b
      → Skips machine ss out b cs
  skips [] out b cs each lt ready h = absurd (omega (arith, lt))
  skips (s ∷ ss) out b cs each lt ready h = record {
    ready = ready_fewer s (length cs) ss lt ready;
    more = λ e. cc;
    stands = stands_skip cs s ss out (machine.left s) b each lt refl h;
    left = let l = laws.left_with s (machine.left s - length cs) (omega (arith, lt)) in omega (arith, lt, l);
  }

  pub skip_fed : (s new : Scanner S) (b cs : List ℕ) → Fed machine s b → Each small cs → length cs < inside_left machine (symbols_of s.stack)
      → symbols_of new.stack ≡ skipped machine (length cs) (symbols_of s.stack) → new.outside ≡ s.outside → new.taken ≡ s.taken + length cs → Fed machine new (b ++ cs)
  skip_fed s new b cs h each lt is out taken =
      let k = skips (symbols_of s.stack) s.outside b cs each lt h.ready h.stands in
      record {
        ready = subst (Ready machine) (sym is) k.ready;
        more = λ e. k.more (sym is ∙ e);
        stands = subst (λ (ss : List S). LeavesSymbols machine ss new.outside (b ++ cs)) (sym is)
            (subst (λ (m : ℕ). LeavesSymbols machine (skipped machine (length cs) (symbols_of s.stack)) m (b ++ cs)) (sym out) k.stands);
        taken = omega (arith, taken, h.taken, length-append b cs);
        bound = omega (arith, ap (left_of machine) is, k.left, h.bound, taken, ap (λ (n : ℕ). (machine.most + 1) * n) out);
      }

  -- n octets of the literal at hand are taken
  skip_some : (s new : Scanner S) (b octets rest : List ℕ) (k : ℕ) → Fed machine s b → ((i : ℕ) → get_or octets i 0 < 256) → k ≤ length octets
      → k < inside_left machine (symbols_of s.stack)
      → symbols_of new.stack ≡ skipped machine k (symbols_of s.stack) → new.outside ≡ s.outside → new.taken ≡ s.taken + k → rest ≡ drop k octets
      → FedUpTo machine new b octets rest
  skip_some s new b octets rest k h each le lt is out taken back =
      let long : length (take k octets) ≡ k = length-take-le k octets le in
      record {
        front = take k octets;
        whole = sym (take-append-drop k octets) ∙ ap (λ (u : List ℕ). take k octets ++ u) (sym back);
        fed =
            skip_fed s new b (take k octets) h (small_front k octets each) (omega (arith, long, lt)) (is ∙ ap (λ (n : ℕ). skipped machine n (symbols_of s.stack)) (sym long)) out
            (omega (arith, taken, long));
      }

  pub skipped_zero : (ss : List S) → skipped machine 0 ss ≡ ss
  skipped_zero [] = refl
  skipped_zero (s ∷ ss) = let e : machine.left s - 0 ≡ machine.left s = omega arith in ap (λ (q : S). q ∷ ss) (ap (machine.with_left s) e ∙ laws.with_same s)

  -- none are taken
  skip_none : (s new : Scanner S) (b octets rest : List ℕ) → Fed machine s b → symbols_of new.stack ≡ symbols_of s.stack → new.outside ≡ s.outside
      → new.taken ≡ s.taken → rest ≡ octets
      → FedUpTo machine new b octets rest
  skip_none s new b octets rest h is out taken same =
      record {
        front = [];
        whole = sym same;
        fed = subst (Fed machine new) (sym (append-nil b)) (record {
          ready = subst (Ready machine) (sym is) h.ready;
          more = λ e. h.more (sym is ∙ e);
          stands = subst (λ (ss : List S). LeavesSymbols machine ss new.outside b) (sym is) (subst (λ (m : ℕ). LeavesSymbols machine (symbols_of s.stack) m b) (sym out) h.stands);
          taken = taken ∙ h.taken;
          bound = omega (arith, ap (left_of machine) is, h.bound, taken, ap (λ (n : ℕ). (machine.most + 1) * n) out);
        });
      }

  -- as many as there are, but for the last of the literal
  pub skip_all : (s new : Scanner S) (b octets rest : List ℕ) → Fed machine s b → ((i : ℕ) → get_or octets i 0 < 256)
      → rest ≡ drop (inside_left machine (symbols_of s.stack) - 1) octets
      → symbols_of new.stack ≡ skipped machine (min (inside_left machine (symbols_of s.stack) - 1) (length octets)) (symbols_of s.stack) → new.outside ≡ s.outside
      → new.taken ≡ s.taken + (length octets - length rest) → FedUpTo machine new b octets rest
  skip_all s new b octets rest h each back is out taken =
      let left : ℕ = inside_left machine (symbols_of s.stack) in
      let k : ℕ = min (left - 1) (length octets) in
      let le : k ≤ length octets = min-le_right (left - 1) (length octets) in
      let least : k ≤ left - 1 = min-le_left (left - 1) (length octets) in
      let from : rest ≡ drop k octets = back ∙ sym (drop_min (left - 1) octets) in
      let long : length rest ≡ length octets - k = ap (λ (u : List ℕ). length u) from ∙ length-drop k octets in
      let count : new.taken ≡ s.taken + k = omega (arith, taken, long, le) in
      elim (cases_lt 0 left) [
        | inl some ↦ skip_some s new b octets rest k h each le (omega (arith, some, least)) is out count from
        | inr none ↦
            let zero_k : k ≡ 0 = omega (arith, none, least) in
            skip_none s new b octets rest h (is ∙ ap (λ (n : ℕ). skipped machine n (symbols_of s.stack)) zero_k
            ∙ skipped_zero (symbols_of s.stack)) out (omega (arith, count, zero_k))
            (from ∙ ap (λ (n : ℕ). drop n octets) zero_k)
      ]
