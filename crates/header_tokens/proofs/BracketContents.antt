-- Reading a bracket finds its contents, and contents are found.
use Rattle.std.proofs.Common.{◌≡◌, ◌≢◌, ℕ, zero, suc, ◌+◌, ◌-◌, ◌≤◌, true, false, List, [], ◌∷◌, ◌++◌, ◌⊎◌, inl, inr, length, refl, sym, ap, subst, ◌∙◌, arith, append_assoc}
use Rattle.std.proofs.Common.{Option, Some, None, eqb}
use Rattle.std.proofs.lemmas.List.{length-append}
use Rattle.std.proofs.lemmas.Bool.Decides.{eqb_tells}
use Rattle.header_tokens.specs.Tokens.{Contents, Empty, Octet, Pair, Nested}
use Rattle.header_tokens.specs.reading.TokenReading.{further, close_in}
use Rattle.header_tokens.proofs.BracketSteps.{further_more, close_escaped, close_slash, close_last, close_down, close_up, close_other, close_none}

-- what is read after the closing octet, with n open
abbrev pub behind : ℕ → ℕ → ℕ → List ℕ → Option ℕ
behind o c zero t = Some 0
behind o c (suc d) t = close_in o c d false t

-- octets that no bracket takes as an opener or a closer
pub record Apart (o c : ℕ) : Type 0 where
  pub opener : o ≢ 92
  pub closer : c ≢ 92
  pub two : o ≢ c

-- a closing octet counts one; the reading then ends, or goes on with one inner bracket fewer open
pub close_is : (o c d : ℕ) (t : List ℕ) → Apart o c → close_in o c d false (c ∷ t) ≡ further 1 (behind o c d t)
close_is o c zero t a = close_last o c c t a.closer refl
close_is o c (suc d) t a =
    let some : suc d ≢ 0 = λ e. absurd (omega arith) in
    let less : suc d - 1 ≡ d = omega arith in
    close_down o c (suc d) c t a.closer refl some ∙ ap (λ (k : ℕ). further 1 (close_in o c k false t)) less

-- contents are passed over
pub passes : (o c : ℕ) (s : List ℕ) → Apart o c → Contents o c s → (d : ℕ) (t : List ℕ) → close_in o c d false (s ++ t) ≡ further (length s) (close_in o c d false t)
unfolding close_in
passes o c _ a Empty d t = sym (further_none (close_in o c d false t))
  where
    further_none : (r : Option ℕ) → further 0 r ≡ r
    further_none None = refl
    further_none (Some n) = ap Some (omega arith)
passes o c _ a (Octet x s n m k h) d t =
    close_other o c d x (s ++ t) k m n
    ∙ ap (λ (r : Option ℕ). further 1 r) (passes o c s a h d t)
    ∙ further_more 1 (length s) (close_in o c d false t)
    ∙ ap (λ (k : ℕ). further k (close_in o c d false t)) (omega arith)
passes o c _ a (Pair x s h) d t =
    close_slash o c d 92 (x ∷ (s ++ t)) refl
    ∙ ap (λ (r : Option ℕ). further 1 (further 1 r)) (passes o c s a h d t)
    ∙ ap (λ (r : Option ℕ). further 1 r) (further_more 1 (length s) (close_in o c d false t))
    ∙ further_more 1 (1 + length s) (close_in o c d false t)
    ∙ ap (λ (k : ℕ). further k (close_in o c d false t)) (omega arith)
passes o c _ a (Nested s u h k) d t =
    let more : suc d ≡ d + 1 = omega arith in
    close_up o c d o ((s ++ c ∷ u) ++ t) a.opener a.two refl
    ∙ ap (λ (w : List ℕ). further 1 (close_in o c (d + 1) false w)) (append_assoc s (c ∷ u) t)
    ∙ ap (λ (r : Option ℕ). further 1 r) (passes o c s a h (d + 1) (c ∷ (u ++ t)))
    ∙ ap (λ (k : ℕ). further 1 (further (length s) (close_in o c k false (c ∷ (u ++ t))))) (sym more)
    ∙ ap (λ (r : Option ℕ). further 1 (further (length s) r)) (close_is o c (suc d) (u ++ t) a)
    ∙ ap (λ (r : Option ℕ). further 1 (further (length s) (further 1 r))) (passes o c u a k d t)
    ∙ regroup (length s) (length u) (close_in o c d false t)
    ∙ ap (λ (k : ℕ). further k (close_in o c d false t)) (omega (arith, length-append s (c ∷ u)))
  where
    regroup : (m n : ℕ) (r : Option ℕ) → further 1 (further m (further 1 (further n r))) ≡ further (m + n + 2) r
    regroup m n None = refl
    regroup m n (Some k) = ap Some (omega arith)

-- so a bracket is read up to its end
pub closes_again : (o c : ℕ) (s t : List ℕ) → Apart o c → Contents o c s → close_in o c 0 false (s ++ c ∷ t) ≡ Some (length s + 1)
closes_again o c s t a h = passes o c s a h 0 (c ∷ t) ∙ ap (λ (r : Option ℕ). further (length s) r) (close_is o c 0 t a)

-- what is read is contents and a closing octet
pub record Closed (o c d n : ℕ) (t : List ℕ) : Type 0 where
  pub contents : List ℕ
  pub rest : List ℕ
  pub whole : t ≡ contents ++ c ∷ rest
  pub inside : Contents o c contents
  pub counted : further (length contents + 1) (behind o c d rest) ≡ Some n

-- where raising a count by m gives n, there was a count, and n is m more than it
pub further_some : (m n : ℕ) (r : Option ℕ) → further m r ≡ Some n → (k : ℕ) × (r ≡ Some k) × (n ≡ m + k)
further_some m n None e = absurd cc
further_some m n (Some k) e = (k, refl, cc)

-- what is after an octet
Ih : ℕ → ℕ → ℕ → Type 0
Ih fuel o c = (d n : ℕ) (t : List ℕ) → length t ≤ fuel → close_in o c d false t ≡ Some n → Closed o c d n t

grow : (m n k p j : ℕ) (r : Option ℕ) → further m r ≡ Some k → n ≡ j + k → p ≡ j + m → further p r ≡ Some n
grow m n k p j None e f g = absurd cc
grow m n k p j (Some v) e f g = let e' : m + v ≡ k = cc in ap Some (omega arith)

case_slash : (fuel o c d n : ℕ) (t : List ℕ) → Ih fuel o c → length t ≤ fuel → close_in o c d false (92 ∷ t) ≡ Some n → Closed o c d n (92 ∷ t)
unfolding Ih
case_slash fuel o c d n [] ih le e = absurd (let e1 = close_slash o c d 92 [] refl in let e2 = close_none o c d true in cc)
case_slash fuel o c d n (y ∷ t) ih le e =
    let e1 = close_slash o c d 92 (y ∷ t) refl in
    let e2 = close_escaped o c d y t in
    let e3 = further_more 1 1 (close_in o c d false t) in
    let h = further_some 2 n (close_in o c d false t) cc in
    let r = ih d h.0 t (omega arith) h.1 in
    record {
      contents = 92 ∷ y ∷ r.contents;
      rest = r.rest;
      whole = ap (λ (u : List ℕ). 92 ∷ y ∷ u) r.whole;
      inside = Pair y r.contents r.inside;
      counted = grow (length r.contents + 1) n h.0 _ 2 (behind o c d r.rest) r.counted h.2 (omega arith);
    }

case_close : (o c d n : ℕ) (t : List ℕ) → Apart o c → close_in o c d false (c ∷ t) ≡ Some n → Closed o c d n (c ∷ t)
case_close o c d n t a e = record { contents = []; rest = t; whole = refl; inside = Empty; counted = sym (close_is o c d t a) ∙ e }

case_open : (fuel o c d n : ℕ) (t : List ℕ) → Apart o c → Ih fuel o c → length t ≤ fuel → close_in o c d false (o ∷ t) ≡ Some n → Closed o c d n (o ∷ t)
unfolding Ih
case_open fuel o c d n t a ih le e =
    let e1 = close_up o c d o t a.opener a.two refl in
    let more : d + 1 ≡ suc d = omega arith in
    let e2 = ap (λ (k : ℕ). further 1 (close_in o c k false t)) more in
    let h = further_some 1 n (close_in o c (suc d) false t) cc in
    let r = ih (suc d) h.0 t le h.1 in
    let g = further_some (length r.contents + 1) h.0 (close_in o c d false r.rest) r.counted in
    let short : length r.rest ≤ fuel = omega (arith, ap length r.whole, length-append r.contents (c ∷ r.rest)) in
    let q = ih d g.0 r.rest short g.1 in
    record {
      contents = o ∷ (r.contents ++ c ∷ q.contents);
      rest = q.rest;
      whole = ap (λ (u : List ℕ). o ∷ u) (r.whole ∙ ap (λ (u : List ℕ). r.contents ++ c ∷ u) q.whole ∙ sym (append_assoc r.contents (c ∷ q.contents) (c ∷ q.rest)));
      inside = Nested r.contents q.contents r.inside q.inside;
      counted = grow (length q.contents + 1) n g.0 _ (1 + (length r.contents + 1)) (behind o c d q.rest) q.counted (omega (arith, h.2, g.2)) (omega
          (arith, length-append r.contents (c ∷ q.contents)));
    }

case_other : (fuel o c d n x : ℕ) (t : List ℕ) → Ih fuel o c → length t ≤ fuel → x ≢ 92 → x ≢ c → x ≢ o → close_in o c d false (x ∷ t) ≡ Some n → Closed o c d n (x ∷ t)
unfolding Ih
case_other fuel o c d n x t ih le k m l e =
    let e1 = close_other o c d x t k m l in
    let h = further_some 1 n (close_in o c d false t) cc in
    let r = ih d h.0 t le h.1 in
    record {
      contents = x ∷ r.contents;
      rest = r.rest;
      whole = ap (λ (u : List ℕ). x ∷ u) r.whole;
      inside = Octet x r.contents l m k r.inside;
      counted = grow (length r.contents + 1) n h.0 _ 1 (behind o c d r.rest) r.counted h.2 (omega arith);
    }

Tells : ℕ → ℕ → Type 0
Tells x y = ((eqb x y ≡ true) × (x ≡ y)) ⊎ ((eqb x y ≡ false) × (x ≢ y))

by_octet : (fuel o c d n x : ℕ) (t : List ℕ) → Apart o c → Ih fuel o c → length t ≤ fuel → close_in o c d false (x ∷ t) ≡ Some n → Tells x 92 → Tells x c → Tells x o
    → Closed o c d n (x ∷ t)
unfolding Tells
by_octet fuel o c d n x t a ih le e (inl p) q r = let P : ℕ → Type 0 = λ y. close_in o c d false (y ∷ t) ≡ Some n → Closed o c d n (y ∷ t) in subst P (sym p.1)
    (case_slash fuel o c d n t ih le) e
by_octet fuel o c d n x t a ih le e (inr p) (inl q) r = let P : ℕ → Type 0 = λ y. close_in o c d false (y ∷ t) ≡ Some n → Closed o c d n (y ∷ t) in subst P (sym q.1)
    (case_close o c d n t a) e
by_octet fuel o c d n x t a ih le e (inr p) (inr q) (inl r) = let P : ℕ → Type 0 = λ y. close_in o c d false (y ∷ t) ≡ Some n → Closed o c d n (y ∷ t) in subst P (sym r.1)
    (case_open fuel o c d n t a ih le) e
by_octet fuel o c d n x t a ih le e (inr p) (inr q) (inr r) = case_other fuel o c d n x t ih le p.1 q.1 r.1 e

-- with at most n octets
pub closed_in : (fuel o c d n : ℕ) (t : List ℕ) → Apart o c → length t ≤ fuel → close_in o c d false t ≡ Some n → Closed o c d n t
unfolding Ih Tells
closed_in fuel o c d n [] a le e = absurd (let e' = close_none o c d false in cc)
closed_in zero o c d n (x ∷ t) a le e = absurd (omega arith)
closed_in (suc fuel) o c d n (x ∷ t) a le e =
    by_octet fuel o c d n x t a (λ d n t le e. closed_in fuel o c d n t a le e) (omega arith) e (eqb_tells x 92) (eqb_tells x c) (eqb_tells x o)
