-- Texts up to the first `<` behind which no `>` stands.
use Rattle.std.proofs.Common.{◌≡◌, ◌≢◌, ◌∙◌, ℕ, zero, suc, ◌+◌, ◌-◌, ◌<◌, ◌≤◌, Bool, true, false, cond, not, ◌||◌, ◌&&◌, List, [], ◌∷◌, ◌++◌, length, take, drop, get_or, eqb}
use Rattle.std.proofs.Common.{refl, sym, ap, subst, arith, Some, None, length-drop}
use Rattle.std.proofs.lemmas.Bool.{eqb-true, ne_eqb}
use Rattle.std.proofs.lemmas.List.{take-append-drop, take_all, length-take-le, get_or-drop}
use Rattle.std.proofs.Math.Seq.{take-add, take-append-add}
use Rattle.memchr.specs.Find.{is_byte, IsFirstByte, IsLastByte}
use Rattle.body_parts.specs.Cuts.{has_close, before_open_tag}

or_right : (b x : Bool) → x ≡ true → (b || x) ≡ true
or_right true x e = refl
or_right false x e = e

no_and : (b x : Bool) → x ≡ true → (b && not x) ≡ false
no_and true x e = ap not e
no_and false x e = refl

-- a text without a `>`
none_closes : (t : List ℕ) → ((k : ℕ) → k < length t → get_or t k 0 ≢ 62) → has_close t ≡ false
none_closes [] h = refl
none_closes (c ∷ t) h =
    ap (λ (b : Bool). b || has_close t) (ne_eqb c 62 (h 0 (omega arith))) ∙ none_closes t (λ k lt. h (suc k) (omega arith))

-- one with a `>`
one_closes : (t : List ℕ) (k : ℕ) → k < length t → get_or t k 0 ≡ 62 → has_close t ≡ true
one_closes [] k lt e = absurd (omega arith)
one_closes (c ∷ t) zero lt e = ap (λ (x : ℕ). eqb x 62 || has_close t) e
one_closes (c ∷ t) (suc k) lt e = or_right (eqb c 62) (has_close t) (one_closes t k (omega arith) e)

-- up to its first `<` a text without a `>` stays
first_open : (t : List ℕ) (n : ℕ) → has_close t ≡ false → n < length t → get_or t n 0 ≡ 60 → ((k : ℕ) → k < n → get_or t k 0 ≢ 60) → before_open_tag t ≡ take n t
unfolding before_open_tag
first_open [] n none lt e h = absurd (omega arith)
first_open (c ∷ t) zero none lt e h =
    let rest : has_close t ≡ false = tail_none c t none in
    ap (λ (x : ℕ). cond (eqb x 60 && not (has_close t)) [] (c ∷ before_open_tag t)) e ∙ ap (λ (b : Bool). cond (not b) [] (c ∷ before_open_tag t)) rest
  where
    tail_none : (c : ℕ) (t : List ℕ) → has_close (c ∷ t) ≡ false → has_close t ≡ false
    tail_none c t e = by (eqb c 62) e
      where
        by : (b : Bool) → (b || has_close t) ≡ false → has_close t ≡ false
        by true e = absurd (let x = e in cc)
        by false e = e
first_open (c ∷ t) (suc n) none lt e h =
    ap (λ (b : Bool). cond (b && not (has_close t)) [] (c ∷ before_open_tag t)) (ne_eqb c 60 (h 0 (omega arith)))
    ∙ ap (λ (u : List ℕ). c ∷ u) (first_open t n (by (eqb c 62) none) (omega arith) e (λ k less. h (suc k) (omega arith)))
  where
    by : (b : Bool) → (b || has_close t) ≡ false → has_close t ≡ false
    by true e = absurd (let x = e in cc)
    by false e = e

-- and all of one without a `<`
none_open : (t : List ℕ) → ((k : ℕ) → k < length t → get_or t k 0 ≢ 60) → before_open_tag t ≡ t
unfolding before_open_tag
none_open [] h = refl
none_open (c ∷ t) h =
    ap (λ (b : Bool). cond (b && not (has_close t)) [] (c ∷ before_open_tag t)) (ne_eqb c 60 (h 0 (omega arith)))
    ∙ ap (λ (u : List ℕ). c ∷ u) (none_open t (λ k less. h (suc k) (omega arith)))

-- a text up to a `>`, and that one, stay
past_close : (t : List ℕ) (k : ℕ) → k < length t → get_or t k 0 ≡ 62 → before_open_tag t ≡ take (suc k) t ++ before_open_tag (drop (suc k) t)
unfolding before_open_tag
past_close [] k lt e = absurd (omega arith)
past_close (c ∷ t) zero lt e = ap (λ (x : ℕ). cond (eqb x 60 && not (has_close t)) [] (c ∷ before_open_tag t)) e
past_close (c ∷ t) (suc k) lt e =
    ap (λ (b : Bool). cond b [] (c ∷ before_open_tag t)) (no_and (eqb c 60) (has_close t) (one_closes t k (omega arith) e))
    ∙ ap (λ (u : List ℕ). c ∷ u) (past_close t k (omega arith) e)

-- ---- what is found

-- no `>` is found
pub no_close_found : (t : List ℕ) → IsLastByte (is_byte 62) t None → has_close t ≡ false
no_close_found t h = none_closes t (λ k lt e. h k (omega arith) lt (ap (λ (x : ℕ). is_byte 62 x) e))

-- the last one is found
pub close_found : (t : List ℕ) (at : ℕ) → IsLastByte (is_byte 62) t (Some at) → before_open_tag t ≡ take (at + 1) t ++ before_open_tag (drop (at + 1) t)
close_found t at h =
    let next : suc at ≡ at + 1 = omega arith in
    past_close t at h.0.high (eqb-true (get_or t at 0) 62 h.1) ∙ ap (λ (n : ℕ). take n t ++ before_open_tag (drop n t)) next

-- no `>` stands behind it
pub none_behind : (t : List ℕ) (at : ℕ) → IsLastByte (is_byte 62) t (Some at) → has_close (drop (at + 1) t) ≡ false
none_behind t at h =
    none_closes (drop (at + 1) t)
    (λ k lt e. h.0.after (at + 1 + k) (omega arith) (omega (arith, lt, length-drop (at + 1) t, h.0.high))
    (ap (λ (x : ℕ). is_byte 62 x) (sym (get_or-drop (at + 1) t k 0) ∙ e)))

-- behind the last `>` the first `<` is found
pub open_found : (t rest : List ℕ) (n at : ℕ) → rest ≡ drop n t → n ≤ length t → has_close (drop n t) ≡ false
    → before_open_tag t ≡ take n t ++ before_open_tag (drop n t) → IsFirstByte (is_byte 60) rest (Some at) → take (n + at) t ≡ before_open_tag t
open_found t rest n at same within none is h =
    let found : IsFirstByte (is_byte 60) (drop n t) (Some at) = subst (λ (u : List ℕ). IsFirstByte (is_byte 60) u (Some at)) same h in
    let front = first_open (drop n t) at none found.0.high (eqb-true (get_or (drop n t) at 0) 60 found.1)
    (λ k lt e. found.0.before k (omega arith) lt (ap (λ (x : ℕ). is_byte 60 x) e)) in
    let whole : take (length (take n t) + at) (take n t ++ drop n t) ≡ take (n + at) t =
    ap (λ (m : ℕ). take (m + at) (take n t ++ drop n t)) (length-take-le n t within) ∙ ap (λ (u : List ℕ). take (n + at) u) (take-append-drop n t) in
    sym whole ∙ take-append-add (take n t) (drop n t) at ∙ ap (λ (u : List ℕ). take n t ++ u) (sym front) ∙ sym is

-- or none
pub no_open_found : (t rest : List ℕ) (n : ℕ) → rest ≡ drop n t → before_open_tag t ≡ take n t ++ before_open_tag (drop n t) → IsFirstByte (is_byte 60) rest None
    → take (length t) t ≡ before_open_tag t
no_open_found t rest n same is h =
    let found : IsFirstByte (is_byte 60) (drop n t) None = subst (λ (u : List ℕ). IsFirstByte (is_byte 60) u None) same h in
    let all = none_open (drop n t) (λ k lt e. found k (omega arith) lt (ap (λ (x : ℕ). is_byte 60 x) e)) in
    take_all (length t) t (omega arith) ∙ sym (is ∙ ap (λ (u : List ℕ). take n t ++ u) all ∙ take-append-drop n t)

-- what stands before the last octets, and those up to the first `<` behind which no `>` stands
pub near_cut : (t near : List ℕ) (far k : ℕ) → near ≡ drop far t → take k near ≡ before_open_tag near → take (far + k) t ≡ take far t ++ before_open_tag (drop far t)
near_cut t near far k e h = take-add far k t ∙ ap (λ (u : List ℕ). take far t ++ u) (ap (take k) (sym e) ∙ h ∙ ap before_open_tag e)
