-- What runs of octets lead to.
use Rattle.std.proofs.Common.{◌≡◌, ℕ, zero, suc, ◌+◌, ◌<◌, List, [], ◌∷◌, ◌++◌, length, take, drop, get_or, Option, Some, None, refl, sym, ap, ◌∙◌, arith}
use Rattle.pushdown.specs.declared.moves.Move.{Move}
use Rattle.pushdown.specs.declared.moves.Move.TheVariants as move
use Rattle.pushdown.specs.Automaton.{Automaton}
use Rattle.pushdown.specs.Run.{moved, step, stepped, run, LeadsTo}

-- None is never Some of anything
pub no_symbols : {A : Type 0} (x : A) → None ≡ Some x → ⊥
no_symbols x e = cc

-- an octet more at the front of a list
pub take_next : (t : List ℕ) (i c : ℕ) → i < length t → get_or t i 0 ≡ c → take (i + 1) t ≡ take i t ++ c ∷ []
take_next [] i c lt e = absurd (omega (arith, lt))
take_next (d ∷ t) zero c lt e = ap (λ (n : ℕ). n ∷ []) e
take_next (d ∷ t) (suc i) c lt e =
    let n : suc i + 1 ≡ suc (i + 1) = omega arith in ap (λ (m : ℕ). take m (d ∷ t)) n ∙ ap (λ (u : List ℕ). d ∷ u) (take_next t i c (omega (arith, lt)) e)

none_taken : (k : ℕ) → take {A = ℕ} k [] ≡ []
none_taken zero = refl
none_taken (suc k) = refl

take_sum : (i k : ℕ) (t : List ℕ) → take (i + k) t ≡ take i t ++ take k (drop i t)
take_sum zero k t = let e : 0 + k ≡ k = omega arith in ap (λ (n : ℕ). take n t) e
take_sum (suc i) k [] = let e : suc i + k ≡ suc (i + k) = omega arith in ap (λ (n : ℕ). take n []) e ∙ sym (none_taken k)
take_sum (suc i) k (c ∷ t) = let e : suc i + k ≡ suc (i + k) = omega arith in ap (λ (n : ℕ). take n (c ∷ t)) e ∙ ap (λ (u : List ℕ). c ∷ u) (take_sum i k t)

-- octets lead to symbols
pub record Alive {S : Type 0} (o : Option (List S)) : Type 0 where
  pub symbols : List S
  pub is : o ≡ Some symbols

module _ {S : Type 0} (machine : Automaton S) where
  pub none_stays : (t : List ℕ) → run machine None t ≡ None
  none_stays [] = refl
  none_stays (c ∷ t) = none_stays t

  pub run_append : (t u : List ℕ) (o : Option (List S)) → run machine o (t ++ u) ≡ run machine (run machine o t) u
  run_append [] u o = refl
  run_append (c ∷ t) u o = run_append t u (stepped machine o c)

  pub alive : (o : Option (List S)) (t : List ℕ) (left : List S) → run machine o t ≡ Some left → Alive o
  alive None t left e = absurd (no_symbols left (sym (none_stays t) ∙ e))
  alive (Some ss) t left e = record { symbols = ss; is = refl }

  -- no octets change nothing
  pub runs_none : (s : S) (t : List ℕ) → LeadsTo machine s (take 0 t) s
  runs_none s t = λ ss. refl

  -- one octet more
  pub runs_more : (s a b : S) (t : List ℕ) (i c : ℕ) → i < length t → get_or t i 0 ≡ c → LeadsTo machine s (take i t) a → machine.rule_of a c ≡ move.One b
      → LeadsTo machine s (take (i + 1) t) b
  runs_more s a b t i c lt at h e = λ ss.
      ap (run machine (Some (s ∷ ss))) (take_next t i c lt at)
      ∙ run_append (take i t) (c ∷ []) (Some (s ∷ ss))
      ∙ ap (λ (o : Option (List S)). run machine o (c ∷ [])) (h ss)
      ∙ ap (λ (m : Move S). moved m ss (step machine ss c)) e

  -- octets, and then one more or some more
  pub run_more : (ss left next : List S) (t : List ℕ) (i c : ℕ) → i < length t → get_or t i 0 ≡ c → run machine (Some ss) (take i t) ≡ Some left
      → step machine left c ≡ Some next
      → run machine (Some ss) (take (i + 1) t) ≡ Some next
  run_more ss left next t i c lt at h e =
      ap (run machine (Some ss)) (take_next t i c lt at)
      ∙ run_append (take i t) (c ∷ []) (Some ss)
      ∙ ap (λ (o : Option (List S)). run machine o (c ∷ [])) h
      ∙ e

  pub run_on : (ss left next : List S) (t : List ℕ) (i k : ℕ) → run machine (Some ss) (take i t) ≡ Some left → run machine (Some left) (take k (drop i t)) ≡ Some next
      → run machine (Some ss) (take (i + k) t) ≡ Some next
  run_on ss left next t i k h e =
      ap (run machine (Some ss)) (take_sum i k t)
      ∙ run_append (take i t) (take k (drop i t)) (Some ss)
      ∙ ap (λ (o : Option (List S)). run machine o (take k (drop i t))) h
      ∙ e
