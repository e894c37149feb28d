-- Runs of octets that a scanner takes at once.
use Rattle.std.proofs.Common.{◌≡◌, ℕ, zero, suc, ◌+◌, ◌-◌, ◌*◌, ◌<◌, ◌≤◌, Bool, true, false, List, [], ◌∷◌, ◌++◌, length, take, drop, get_or, cond, Option, Some, refl, sym, ap}
use Rattle.std.proofs.Common.{subst, ◌∙◌, append_assoc, length-append, arith}
use Rattle.std.proofs.lemmas.Bool.{ltb-true, lt-ltb}
use Rattle.std.proofs.lemmas.List.{append-nil, length-take-le, take-append-drop}
use Rattle.std.proofs.lemmas.Option.{same_Some}
use Rattle.pushdown.specs.declared.scanner.Scanner.{Scanner}
use Rattle.pushdown.specs.Automaton.{Automaton}
use Rattle.pushdown.specs.Symbols.{symbols_of}
use Rattle.pushdown.specs.Run.{run, step, inside_top, mark, cost}
use Rattle.pushdown.specs.Flow.{Ready, left_of}
use Rattle.pushdown.specs.Lawful.{IsLawful}
use Rattle.pushdown.specs.Fed.{LeavesSymbols, Fed, FedUpTo}
use Rattle.pushdown.proofs.Leading.{alive}
use Rattle.pushdown.proofs.Whole.{ready_keeps}
use Rattle.pushdown.proofs.Marks.{plain_small, forced, step_left, bound_keeps}
use Rattle.pushdown.proofs.Standing.{stands_step}
use Rattle.pushdown.proofs.Skipping.{small, small_front}
use Rattle.imap_types.specs.Texts.{Each}

-- what a stack and the counts keep
pub record Led {S : Type 0} (machine : Automaton S) (ss : List S) (out taken : ℕ) (b : List ℕ) : Type 0 where
  pub ready : Ready machine ss
  pub stands : LeavesSymbols machine ss out b
  pub bound : taken + left_of machine ss ≤ (machine.most + 1) * out

take_front : (k n : ℕ) (l : List ℕ) → k ≤ n → take k (take n l) ≡ take k l
take_front zero n l le = refl
take_front (suc k) zero l le = absurd (omega (arith, le))
take_front (suc k) (suc n) [] le = refl
take_front (suc k) (suc n) (c ∷ l) le = ap (λ (u : List ℕ). c ∷ u) (take_front k n l (omega (arith, le)))

front_len : (n : ℕ) (l : List ℕ) → length (take n l) ≤ n
front_len zero l = omega arith
front_len (suc n) [] = omega arith
front_len (suc n) (c ∷ l) = let ih = front_len n l in omega (arith, ih)

front_most : (n : ℕ) (l : List ℕ) → length (take n l) ≤ length l
front_most zero l = omega arith
front_most (suc n) [] = omega arith
front_most (suc n) (c ∷ l) = let ih = front_most n l in omega (arith, ih)

module _ {S : Type 0} (machine : Automaton S) (laws : IsLawful machine) where
  -- what octets leave stays ready
  pub ready_run : (cs : List ℕ) (ss left : List S) → Ready machine ss → run machine (Some ss) cs ≡ Some left → Ready machine left
  ready_run [] ss left r e = subst (Ready machine) (same_Some ss left e) r
  ready_run (c ∷ cs) ss left r e =
      let a = alive machine (step machine ss c) cs left e in
      ready_run cs a.symbols left (ready_keeps machine laws ss c a.symbols r a.is) (ap (λ (o : Option (List S)). run machine o cs) (sym a.is) ∙ e)

  -- an octet that isn't marked stands outside literals
  cost_one : (ss : List S) (c : ℕ) → c ≡ mark machine ss c → cost machine ss ≡ 1
  cost_one ss c e = by (inside_top machine ss) e
    where
      by : (b : Bool) → c ≡ cond b (c + 256) c → ◌≡◌ {A = ℕ} (cond b 0 1) 1
      by true f = absurd (omega (arith, f))
      by false f = refl

  led_step : (ss left : List S) (out taken c : ℕ) (b : List ℕ) → c < 256 → Led machine ss out taken b → step machine ss c ≡ Some left → out + 1 ≤ machine.limit
      → Led machine left (out + 1) (taken + 1) (b ++ c ∷ [])
  led_step ss left out taken c b lt h e w =
      let is : c ≡ mark machine ss c = forced machine laws false ss left c h.ready.0 e ∙ ap (mark machine ss) (plain_small c (lt-ltb c 256 lt)) in
      let one : cost machine ss ≡ 1 = cost_one ss c is in
      record {
        ready = ready_keeps machine laws ss c left h.ready e;
        stands =
            subst (λ (n : ℕ). LeavesSymbols machine left (out + n) (b ++ c ∷ [])) one (stands_step machine laws ss left out b c h.stands lt (ap (step machine ss) (sym is)
            ∙ e) (omega (arith, one, w)));
        bound =
            bound_keeps machine.most (inside_top machine ss) taken out 1 (left_of machine ss) (left_of machine left) (sym one)
            (step_left machine laws ss c left h.ready.0 e) h.bound;
      }

  led_run : (cs : List ℕ) (ss left : List S) (out taken : ℕ) (b : List ℕ) → Each small cs → Led machine ss out taken b → run machine (Some ss) cs ≡ Some left
      → out + length cs ≤ machine.limit
      → Led machine left (out + length cs) (taken + length cs) (b ++ cs)
  led_run [] ss left out taken b each h e w =
      let same : ss ≡ left = same_Some ss left e in
      let out_same : out ≡ out + 0 = omega arith in
      let taken_same : taken ≡ taken + 0 = omega arith in
      subst (λ (u : List ℕ). Led machine left (out + 0) (taken + 0) u) (sym (append-nil b))
      (subst (λ (n : ℕ). Led machine left (out + 0) n b) taken_same
      (subst (λ (n : ℕ). Led machine left n taken b) out_same
      (subst (λ (q : List S). Led machine q out taken b) same h)))
  led_run (c ∷ cs) ss left out taken b each h e w =
      let a = alive machine (step machine ss c) cs left e in
      let here = led_step ss a.symbols out taken c b (ltb-true c 256 each.0) h a.is (omega (arith, w)) in
      let on = led_run cs a.symbols left (out + 1) (taken + 1) (b ++ c ∷ []) each.1 here (ap (λ (o : Option (List S)). run machine o cs) (sym a.is) ∙ e) (omega (arith, w)) in
      let out_same : out + 1 + length cs ≡ out + suc (length cs) = omega arith in
      let taken_same : taken + 1 + length cs ≡ taken + suc (length cs) = omega arith in
      subst (λ (u : List ℕ). Led machine left (out + suc (length cs)) (taken + suc (length cs)) u) (append_assoc b (c ∷ []) cs)
      (subst (λ (n : ℕ). Led machine left (out + suc (length cs)) n ((b ++ c ∷ []) ++ cs)) taken_same
      (subst (λ (n : ℕ). Led machine left n (taken + 1 + length cs) ((b ++ c ∷ []) ++ cs)) out_same on))

  some_of : (ss : List S) → (ss ≡ [] → ⊥) → 0 < length ss
  some_of [] ne = absurd (ne refl)
  some_of (s ∷ ss) ne = omega arith

  run_fed : (s new : Scanner S) (b cs : List ℕ) → Fed machine s b → Each small cs → run machine (Some (symbols_of s.stack)) cs ≡ Some (symbols_of new.stack)
      → (0 < length (symbols_of s.stack) → 0 < length (symbols_of new.stack)) → new.outside ≡ s.outside + length cs → new.taken ≡ s.taken + length cs
      → s.outside + length cs ≤ machine.limit → Fed machine new (b ++ cs)
  run_fed s new b cs h each e stays out taken w =
      let k = led_run cs (symbols_of s.stack) (symbols_of new.stack) s.outside s.taken b each (record { ready = h.ready; stands = h.stands; bound = h.bound }) e w in
      record {
        ready = k.ready;
        more = λ none. let some = stays (some_of (symbols_of s.stack) h.more) in omega (arith, some, ap (λ (q : List S). length q) none);
        stands = subst (λ (n : ℕ). LeavesSymbols machine (symbols_of new.stack) n (b ++ cs)) (sym out) k.stands;
        taken = omega (arith, taken, h.taken, length-append b cs);
        bound = omega (arith, k.bound, taken, ap (λ (n : ℕ). (machine.most + 1) * n) out);
      }

  -- n octets of a front that is within the limit
  pub run_some : (s new : Scanner S) (b octets front rest : List ℕ) (k : ℕ) → Fed machine s b → ((i : ℕ) → get_or octets i 0 < 256)
      → front ≡ take (machine.limit - s.outside) octets
      → k ≤ length front → run machine (Some (symbols_of s.stack)) (take k front) ≡ Some (symbols_of new.stack)
      → (0 < length (symbols_of s.stack) → 0 < length (symbols_of new.stack)) → new.outside ≡ s.outside + k → new.taken ≡ s.taken + k → rest ≡ drop k octets
      → FedUpTo machine new b octets rest
  run_some s new b octets front rest k h each is le e stays out taken back =
      let room = machine.limit - s.outside in
      let front_length : length front ≡ length (take room octets) = ap (λ (u : List ℕ). length u) is in
      let within : k ≤ room = omega (arith, le, front_length, front_len room octets) in
      let most : k ≤ length octets = omega (arith, le, front_length, front_most room octets) in
      let same : take k front ≡ take k octets = ap (take k) is ∙ take_front k room octets within in
      let long : length (take k octets) ≡ k = length-take-le k octets most in
      record {
        front = take k octets;
        whole = sym (take-append-drop k octets) ∙ ap (λ (u : List ℕ). take k octets ++ u) (sym back);
        fed = run_fed s new b (take k octets) h (small_front k octets each) (ap (run machine (Some (symbols_of s.stack))) (sym same) ∙ e) stays (omega (arith, out, long))
            (omega (arith, taken, long)) (omega (arith, long, within, h.stands.within));
      }
