-- Texts that are cut between two characters.
use Rattle.std.proofs.Common.{◌≡◌, ◌∙◌, ◌⊎◌, inl, inr, ℕ, suc, ◌+◌, ◌<◌, ◌≤◌, Bool, true, false, not, List, [], ◌∷◌, ◌++◌, length, take, drop, get_or, refl, sym, ap, subst, arith}
use Rattle.std.proofs.Common.{length-append, append-nil, drop-cons}
use Rattle.std.proofs.lemmas.List.{length-take-le, take_all, take-append-drop}
use Rattle.body_parts.specs.Cuts.{is_continuation, begins_character, is_between_characters, IsFront, IsCut}

between_end : (front : List ℕ) → is_between_characters front [] ≡ true
between_end [] = refl
between_end (c ∷ t) = refl

-- a text of at most n octets is its own front
pub whole_text : (n : ℕ) (text : List ℕ) → length text ≤ n → IsCut n text (take (length text) text)
whole_text n text le =
    subst (λ (u : List ℕ). IsCut n text u) (sym (take_all (length text) text (omega arith))) (record {
      is_front = record { rest = []; whole = sym (append-nil text); between = between_end text; few = le };
      longest = λ other f. omega (arith, ap (λ (u : List ℕ). length u) f.whole, length-append other f.rest);
    })

between_here : (front rest : List ℕ) (c : ℕ) (t : List ℕ) → rest ≡ c ∷ t → is_continuation c ≡ false → is_between_characters front rest ≡ true
between_here [] rest c t e h = refl
between_here (x ∷ front) rest c t e h = ap begins_character e ∙ ap not h

-- behind a front that isn't empty no character goes on
at_rest : (front rest : List ℕ) → 0 < length front → 0 < length rest → is_between_characters front rest ≡ true → is_continuation (get_or (front ++ rest) (length front) 0) ≡ false
at_rest [] rest some more h = absurd (omega arith)
at_rest (x ∷ front) [] some more h = absurd (omega arith)
at_rest (x ∷ front) (c ∷ t) some more h = by front (is_continuation c) refl h
  where
    not_true : (b : Bool) → not b ≡ true → b ≡ false
    not_true true e = absurd cc
    not_true false e = refl

    there : (front : List ℕ) → get_or (front ++ c ∷ t) (length front) 0 ≡ c
    there [] = refl
    there (y ∷ front) = there front

    by : (front : List ℕ) (b : Bool) → is_continuation c ≡ b → not (is_continuation c) ≡ true → is_continuation (get_or (front ++ c ∷ t) (length front) 0) ≡ false
    by front b e h = ap is_continuation (there front) ∙ not_true (is_continuation c) h

-- the last place up to n at which no character goes on is where the longest front ends
pub cut_before : (n : ℕ) (text : List ℕ) (at : ℕ) → at ≤ n → n < length text → (at ≡ 0) ⊎ (is_continuation (get_or text at 0) ≡ false)
    → ((k : ℕ) → at < k → k ≤ n → is_continuation (get_or text k 0) ≡ true) → IsCut n text (take at text)
cut_before n text at le lt here behind = record {
  is_front = record { rest = drop at text; whole = sym (take-append-drop at text); between = between here; few = omega (arith, counted) };
  longest = λ other f. shorter other f;
}
  where
    counted : length (take at text) ≡ at
    counted = length-take-le at text (omega arith)

    between : (at ≡ 0) ⊎ (is_continuation (get_or text at 0) ≡ false) → is_between_characters (take at text) (drop at text) ≡ true
    between (inl e) = subst (λ (k : ℕ). is_between_characters (take k text) (drop at text) ≡ true) (sym e) refl
    between (inr h) = between_here (take at text) (drop at text) (get_or text at 0) (drop (suc at) text) (drop-cons text at 0 (omega arith)) h

    longer : (other : List ℕ) (f : IsFront n text other) → at < length other → ⊥
    longer other f more =
        let len : length text ≡ length other + length f.rest = ap (λ (u : List ℕ). length u) f.whole ∙ length-append other f.rest in
        let few = f.few in
        let goes_on = behind (length other) more f.few in
        let ends : is_continuation (get_or text (length other) 0) ≡ false =
        subst (λ (u : List ℕ). is_continuation (get_or u (length other) 0) ≡ false) (sym f.whole) (at_rest other f.rest (omega arith) (omega arith) f.between) in
        let bad : true ≡ false = sym goes_on ∙ ends in cc

    shorter : (other : List ℕ) → IsFront n text other → length other ≤ length (take at text)
    shorter other f = by (cases (length other) at)
      where
        cases : (x y : ℕ) → (x ≤ y) ⊎ (y < x)
        cases x y = grind arith

        by : (length other ≤ at) ⊎ (at < length other) → length other ≤ length (take at text)
        by (inl le) = omega (arith, counted, le)
        by (inr lt) = absurd (longer other f lt)
