-- Texts, up to a CR.
use Rattle.std.proofs.Common.{◌≡◌, ◌≢◌, ℕ, zero, suc, ◌<◌, Bool, true, false, cond, List, [], ◌∷◌, ◌++◌, length, take, drop, get_or, refl, sym, ap, ◌∙◌, arith, eqb, Some}
use Rattle.std.proofs.Common.{append_assoc}
use Rattle.std.proofs.lemmas.Bool.{eqb-true}
use Rattle.memchr.specs.Find.{Nowhere, Passes, is_byte, IsFirst}
use Rattle.std.specs.Prelude.{◌&&◌}
use Rattle.text_words.specs.LineEnds.{begins_with_lf}
use Rattle.body_parts.specs.Texts.{kept_octet, with_lf}

plain_octet : (c : ℕ) (t : List ℕ) → c ≢ 13 → kept_octet c t ≡ c ∷ []
plain_octet c t h = by (eqb c 13) refl
  where
    by : (q : Bool) → eqb c 13 ≡ q → cond (q && begins_with_lf t) [] (c ∷ []) ≡ c ∷ []
    by true e = absurd (h (eqb-true c 13 e))
    by false e = refl

-- a text without a CR stays as it is
pub no_cr : (t : List ℕ) → ((k : ℕ) → k < length t → get_or t k 0 ≢ 13) → with_lf t ≡ t
unfolding with_lf
no_cr [] h = refl
no_cr (c ∷ t) h =
    ap (λ (u : List ℕ). u ++ with_lf t) (plain_octet c t (h 0 (omega arith))) ∙ ap (λ (u : List ℕ). c ∷ u) (no_cr t (λ k lt. h (suc k) (omega arith)))

-- up to the first CR a text stays as it is
pub first_cr : (t : List ℕ) (n : ℕ) → n < length t → get_or t n 0 ≡ 13 → ((k : ℕ) → k < n → get_or t k 0 ≢ 13)
    → with_lf t ≡ take n t ++ (kept_octet 13 (drop 1 (drop n t)) ++ with_lf (drop 1 (drop n t)))
unfolding with_lf
first_cr [] n lt e h = absurd (omega arith)
first_cr (c ∷ t) zero lt e h = ap (λ (x : ℕ). kept_octet x t ++ with_lf t) e
first_cr (c ∷ t) (suc n) lt e h =
    ap (λ (u : List ℕ). u ++ with_lf t) (plain_octet c t (h 0 (omega arith))) ∙ ap (λ (u : List ℕ). c ∷ u) (first_cr t n (omega arith) e (λ k lt. h (suc k) (omega arith)))

-- a text in which no CR is found stays as it is
pub none_found : (t : List ℕ) → Nowhere (Passes (is_byte 13) t) 0 (length t) → with_lf t ≡ t
none_found t h = no_cr t (λ k lt e. h k (omega arith) lt (ap (λ (x : ℕ). is_byte 13 x) e))

-- up to the first CR that is found a text stays as it is, and the CR stays where no LF follows
pub found : (t : List ℕ) (n : ℕ) → IsFirst (Passes (is_byte 13) t) 0 (length t) (Some n)
    → with_lf t ≡ take n t ++ (kept_octet 13 (drop 1 (drop n t)) ++ with_lf (drop 1 (drop n t)))
found t n h = first_cr t n h.0.high (eqb-true (get_or t n 0) 13 h.1) (λ k lt e. h.0.before k (omega arith) lt (ap (λ (x : ℕ). is_byte 13 x) e))

-- one line more
pub line_kept : (kept rest front after kept' text : List ℕ) (n : ℕ) → kept' ≡ (kept ++ front) ++ kept_octet 13 after → front ≡ take n rest → after ≡ drop 1 (drop n rest)
    → with_lf rest ≡ take n rest ++ (kept_octet 13 (drop 1 (drop n rest)) ++ with_lf (drop 1 (drop n rest))) → kept ++ with_lf rest ≡ with_lf text
    → kept' ++ with_lf after ≡ with_lf text
line_kept kept rest front after kept' text n e f g h i =
    let same = ap (λ (u : List ℕ). u ++ (kept_octet 13 after ++ with_lf after)) f ∙ ap (λ (u : List ℕ). take n rest ++ (kept_octet 13 u ++ with_lf u)) g ∙ sym h in
    ap (λ (u : List ℕ). u ++ with_lf after) e ∙ append_assoc (kept ++ front) (kept_octet 13 after) (with_lf after) ∙ append_assoc kept front (kept_octet 13 after ++ with_lf after)
    ∙ ap (λ (u : List ℕ). kept ++ u) same ∙ i
