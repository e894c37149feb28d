-- An "@" with octets before and after it.
use Rattle.std.proofs.Common.{◌≡◌, ◌≢◌, ℕ, ◌+◌, ◌<◌, ◌≤◌, Bool, true, false, not, eqb, eqb-true, List, [], ◌∷◌, ◌++◌, length, refl, sym, ap, ◌∙◌, subst, arith}
use Rattle.std.specs.Prelude.{nat_lt, MatchBool}
use Rattle.std.proofs.lemmas.Bool.{ltb-true, ltb-false}
use Rattle.std.proofs.lemmas.List.{length-append}
use Rattle.text_words.specs.Cuts.{Stops, front, back}
use Rattle.text_words.proofs.CutLemmas.{front_back, back_stops}
use Rattle.loose_addresses.specs.reading.BareSteps.{is_no_at, HasInnerAt}

-- an empty text has none
pub none_in_nothing : HasInnerAt [] → ⊥
none_in_nothing h = by h.before h.whole
  where
    by : (b : List ℕ) → [] ≡ b ++ 64 ∷ h.behind → ⊥
    by [] e = absurd cc
    by (c ∷ b) e = absurd cc

at_is : (c : ℕ) → is_no_at c ≡ false → c ≡ 64
at_is c e = by (eqb c 64) refl e
  where
    by : (q : Bool) → eqb c 64 ≡ q → not q ≡ false → c ≡ 64
    by true f e = eqb-true c 64 f
    by false f e = absurd cc

-- a text has one, where two octets stand from an "@" on that isn't its first octet
pub inner_here : (c : ℕ) (t : List ℕ) → 1 < length (back is_no_at t) → HasInnerAt (c ∷ t)
inner_here c t lt = by (back is_no_at t) refl lt
  where
    by : (b : List ℕ) → b ≡ back is_no_at t → 1 < length b → HasInnerAt (c ∷ t)
    by [] f lt = absurd (omega arith)
    by (k ∷ []) f lt = absurd (omega arith)
    by (k ∷ d ∷ b) f lt =
        let s = subst (λ (u : List ℕ). Stops is_no_at u) (sym f) (back_stops is_no_at t) in
        record {
          before = c ∷ front is_no_at t;
          behind = d ∷ b;
          whole = ap (λ (u : List ℕ). c ∷ u) (front_back is_no_at t ∙ ap (λ (u : List ℕ). front is_no_at t ++ u) (sym f ∙ ap (λ (u : ℕ). u ∷ d ∷ b) (at_is k s)));
          some_before = λ e. absurd cc;
          some_behind = λ e. absurd cc;
        }

back_long : (b behind : List ℕ) → length behind + 1 ≤ length (back is_no_at (b ++ 64 ∷ behind))
unfolding back
back_long [] behind = omega arith
back_long (c ∷ b) behind = by (is_no_at c) (back_long b behind)
  where
    by : (q : Bool) → length behind + 1 ≤ length (back is_no_at (b ++ 64 ∷ behind))
        → length behind + 1 ≤ length (Rattle.std.proofs.Common.cond q (back is_no_at (b ++ 64 ∷ behind)) (c ∷ (b ++ 64 ∷ behind)))
    by true h = h
    by false h = omega (arith, length-append b (64 ∷ behind))

-- and no other text has one
pub inner_not : (c : ℕ) (t : List ℕ) → length (back is_no_at t) ≤ 1 → HasInnerAt (c ∷ t) → ⊥
inner_not c t le h = by h.before h.behind h.whole h.some_before h.some_behind
  where
    by : (b k : List ℕ) → c ∷ t ≡ b ++ 64 ∷ k → b ≢ [] → k ≢ [] → ⊥
    by [] k w m n = m refl
    by (d ∷ b) [] w m n = n refl
    by (d ∷ b) (e ∷ k) w m n =
        let r : t ≡ b ++ 64 ∷ (e ∷ k) = cc in
        omega (arith, back_long b (e ∷ k), le, ap (λ (u : List ℕ). length (back is_no_at u)) r)

-- what the code tells
pub inner_told : (text t behind : List ℕ) (c : ℕ) → text ≡ c ∷ t → behind ≡ back is_no_at t → MatchBool (nat_lt 1 (length behind)) (HasInnerAt text) (HasInnerAt text → ⊥)
inner_told text t behind c w b = by (nat_lt 1 (length behind)) refl
  where
    len : length behind ≡ length (back is_no_at t)
    len = ap length b

    by : (q : Bool) → nat_lt 1 (length behind) ≡ q → MatchBool q (HasInnerAt text) (HasInnerAt text → ⊥)
    by true e = subst (λ (u : List ℕ). HasInnerAt u) (sym w) (inner_here c t (omega (arith, len, ltb-true 1 (length behind) e)))
    by false e = λ h. inner_not c t (omega (arith, len, ltb-false 1 (length behind) e)) (subst (λ (u : List ℕ). HasInnerAt u) w h)
