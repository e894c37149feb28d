-- Lines, octet by octet.
use Rattle.std.proofs.Common.{◌≡◌, ◌≢◌, ℕ, zero, suc, get_or, Some, ◌+◌, ◌<◌, ◌≤◌, Bool, true, false, List, [], ◌∷◌, length, take, drop, cond, refl, sym, ap, ◌∙◌, arith, eqb}
use Rattle.std.proofs.lemmas.Bool.{eqb-true}
use Rattle.std.proofs.lemmas.List.{drop-drop, length-drop, length-take-le}
use Rattle.memchr.specs.Find.{Nowhere, Passes, is_byte, IsFirst}
use Rattle.mail_header.specs.Lines.{without_end, is_line_end}
use Rattle.mime_tree.specs.Delimiters.{onto, lines}
use Rattle.mime_tree.specs.reading.LineReading.{line_len}

-- without a LF the line is the whole text
len_whole : (t : List ℕ) → ((k : ℕ) → k < length t → get_or t k 0 ≢ 10) → line_len t ≡ length t
unfolding line_len
len_whole [] h = refl
len_whole (c ∷ t) h = by (eqb c 10) refl (len_whole t (λ k lt. h (suc k) (omega arith)))
  where
    by : (q : Bool) → eqb c 10 ≡ q → line_len t ≡ length t → cond q 1 (suc (line_len t)) ≡ suc (length t)
    by true e more = absurd (h 0 (omega arith) (eqb-true c 10 e))
    by false e more = ap suc more

-- the line goes up to the first LF
len_first : (t : List ℕ) (n : ℕ) → n < length t → get_or t n 0 ≡ 10 → ((k : ℕ) → k < n → get_or t k 0 ≢ 10) → line_len t ≡ n + 1
unfolding line_len
len_first [] n lt e h = absurd (omega arith)
len_first (c ∷ t) zero lt e h = by (eqb c 10) refl
  where
    by : (q : Bool) → eqb c 10 ≡ q → cond q 1 (suc (line_len t)) ≡ 1
    by true f = refl
    by false f = absurd (let g : eqb c 10 ≡ true = ap (λ (x : ℕ). eqb x 10) e in cc)
len_first (c ∷ t) (suc n) lt e h = by (eqb c 10) refl (len_first t n (omega arith) e (λ k lt. h (suc k) (omega arith)))
  where
    by : (q : Bool) → eqb c 10 ≡ q → line_len t ≡ n + 1 → cond q 1 (suc (line_len t)) ≡ suc n + 1
    by true f more = absurd (h 0 (omega arith) (eqb-true c 10 f))
    by false f more = omega (arith, more)

-- where no LF is found, the first line is the whole text
pub len_none : (t : List ℕ) → Nowhere (Passes (is_byte 10) t) 0 (length t) → line_len t ≡ length t
len_none t h = len_whole t (λ k lt e. h k (omega arith) lt (ap (λ (x : ℕ). is_byte 10 x) e))

-- where the first LF is found at n, the first line has n + 1 octets
pub len_found : (t : List ℕ) (n : ℕ) → IsFirst (Passes (is_byte 10) t) 0 (length t) (Some n) → line_len t ≡ n + 1
len_found t n h = len_first t n h.0.high (eqb-true (get_or t n 0) 10 h.1) (λ k lt e. h.0.before k (omega arith) lt (ap (λ (x : ℕ). is_byte 10 x) e))

-- the first line is no longer than the text
pub len_within : (t : List ℕ) → line_len t ≤ length t
unfolding line_len
len_within [] = omega arith
len_within (c ∷ t) = by (eqb c 10) (len_within t)
  where
    by : (q : Bool) → line_len t ≤ length t → cond q 1 (suc (line_len t)) ≤ length (c ∷ t)
    by true h = omega arith
    by false h = omega arith

-- a text loses no more than it has
pub without_end_within : (t : List ℕ) → length (without_end t) ≤ length t
without_end_within [] = omega arith
without_end_within (c ∷ t) = by (is_line_end (c ∷ t)) (without_end_within t)
  where
    by : (q : Bool) → length (without_end t) ≤ length t → length (cond q [] (c ∷ without_end t)) ≤ length (c ∷ t)
    by true h = omega arith
    by false h = omega arith

-- the first line, and the others
abbrev pub FirstLine : List ℕ → Type 0
FirstLine t = lines t ≡ take (line_len t) t ∷ lines (drop (line_len t) t)

by_end : (c : ℕ) (t : List ℕ) → onto c (lines t) ≡ (c ∷ take (line_len t) t) ∷ lines (drop (line_len t) t) → FirstLine (c ∷ t)
unfolding lines line_len
by_end c t h = by (eqb c 10) refl
  where
    by : (q : Bool) → eqb c 10 ≡ q → cond q ((10 ∷ []) ∷ lines t) (onto c (lines t))
        ≡ take (cond q 1 (suc (line_len t))) (c ∷ t) ∷ lines (drop (cond q 1 (suc (line_len t))) (c ∷ t))
    by true e = ap (λ (x : ℕ). (x ∷ []) ∷ lines t) (sym (eqb-true c 10 e))
    by false e = h

lines_first : (c : ℕ) (t : List ℕ) → FirstLine (c ∷ t)
unfolding lines line_len
lines_first c [] = by_end c [] refl
lines_first c (d ∷ t) = by_end c (d ∷ t) (ap (λ (ls : List (List ℕ)). onto c ls) (lines_first d t))

len_some : (c : ℕ) (t : List ℕ) → 0 < line_len (c ∷ t)
unfolding line_len
len_some c t = by (eqb c 10)
  where
    by : (q : Bool) → 0 < cond q 1 (suc (line_len t))
    by true = omega arith
    by false = omega arith

-- the line at offset at
pub record Here (b : List ℕ) (at : ℕ) (line : List ℕ) (n : ℕ) : Type 0 where
  pub first : lines (drop at b) ≡ line ∷ lines (drop (at + n) b)
  pub counted : n ≡ length line
  pub some : 0 < n
  pub within : at + n ≤ length b

-- what stands at an offset, up to the end of its first line, is the line there
pub here : (b : List ℕ) (at : ℕ) (rest line : List ℕ) (n : ℕ) → at < length b → rest ≡ drop at b → n ≡ line_len rest → line ≡ take n rest → Here b at line n
here b at rest line n lt r e l = by rest r e l
  where
    by : (rest : List ℕ) → rest ≡ drop at b → n ≡ line_len rest → line ≡ take n rest → Here b at line n
    by [] r e l = absurd (omega (arith, ap length r, length-drop at b))
    by (c ∷ t) r e l =
        let f = lines_first c t in
        let w : n ≤ length (c ∷ t) = omega (arith, len_within (c ∷ t)) in
        let d : drop n (c ∷ t) ≡ drop (at + n) b = ap (drop n) r ∙ drop-drop n at b in
        record {
          first = ap lines (sym r) ∙ f ∙ ap (λ (m : ℕ). take m (c ∷ t) ∷ lines (drop m (c ∷ t))) (sym e) ∙ ap (λ (u : List ℕ). u ∷ lines (drop n (c ∷ t))) (sym l)
              ∙ ap (λ (u : List ℕ). line ∷ lines u) d;
          counted = sym (length-take-le n (c ∷ t) w) ∙ ap length (sym l);
          some = omega (arith, len_some c t);
          within = omega (arith, ap length r, length-drop at b);
        }
