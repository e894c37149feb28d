-- The last angle brackets with an "@" in them, read from the end of a text to its front.
use Rattle.std.proofs.Common.{◌≡◌, ◌⊎◌, inl, inr, ℕ, Bool, true, false, not, ◌||◌, ◌&&◌, cond, eqb, eqb-true, eq-eqb, List, [], ◌∷◌, ◌++◌, take, drop, get_or, length, ◌+◌, ◌-◌, ◌<◌, ◌≤◌, refl, sym, ap, ◌∙◌, subst, arith, take-append-drop}
use Rattle.std.specs.List.{list_any}
use Rattle.std.proofs.lemmas.List.{drop_all, drop_more}
use Rattle.text_words.specs.Cuts.{Each, front}
use Rattle.text_words.proofs.CutLemmas.{run_cut}
use Rattle.header_addresses.proofs.MailboxLemmas.{and_parts}
use Rattle.loose_addresses.specs.Angles.{is_at, is_no_angle, IsLastAngle, NoAngle}
use Rattle.loose_addresses.specs.reading.AngleSteps.{closes, has_at, opens, OpensAt, Tells}

closes_past : (c : ℕ) (t : List ℕ) → is_no_angle c ≡ true → closes (c ∷ t) ≡ closes t
closes_past c t e = by (eqb c 60) (eqb c 62) e
  where
    by : (p q : Bool) → not (p || q) ≡ true → cond q true (cond p false (closes t)) ≡ closes t
    by true q e = absurd cc
    by false true e = absurd cc
    by false false e = refl

at_past : (c : ℕ) (t : List ℕ) → is_no_angle c ≡ true → has_at (c ∷ t) ≡ (is_at c || has_at t)
at_past c t e = by (eqb c 60) (eqb c 62) (eqb c 64) e
  where
    by : (p q r : Bool) → not (p || q) ≡ true → cond q false (cond p false (cond r true (has_at t))) ≡ (r || has_at t)
    by true q r e = absurd cc
    by false true r e = absurd cc
    by false false true e = refl
    by false false false e = refl

inner_closes : (x behind : List ℕ) → Each is_no_angle x → closes (x ++ 62 ∷ behind) ≡ true
inner_closes [] behind e = refl
inner_closes (c ∷ x) behind e = closes_past c (x ++ 62 ∷ behind) e.0 ∙ inner_closes x behind e.1

inner_at : (x behind : List ℕ) → Each is_no_angle x → has_at (x ++ 62 ∷ behind) ≡ list_any is_at x
inner_at [] behind e = refl
inner_at (c ∷ x) behind e = at_past c (x ++ 62 ∷ behind) e.0 ∙ ap (λ (q : Bool). is_at c || q) (inner_at x behind e.1)

-- an octet that opens none adds none
pub none_more : (c : ℕ) (t : List ℕ) → NoAngle t → opens c t ≡ false → NoAngle (c ∷ t)
none_more c t n e [] x behind h =
    let w : c ∷ t ≡ 60 ∷ (x ++ 62 ∷ behind) = h.whole in
    let f : c ≡ 60 = cc in
    let r : t ≡ x ++ 62 ∷ behind = cc in
    let p : closes t ≡ true = ap closes r ∙ inner_closes x behind h.inner in
    let q : has_at t ≡ true = ap has_at r ∙ inner_at x behind h.inner ∙ h.at in
    let o : opens c t ≡ true = all (eqb c 60) (closes t) (has_at t) (eq-eqb c 60 f) p q in
    absurd cc
  where
    all : (a b d : Bool) → a ≡ true → b ≡ true → d ≡ true → (a && (b && d)) ≡ true
    all true true true e f g = refl
    all false b d e f g = absurd cc
    all true false d e f g = absurd cc
    all true true false e f g = absurd cc
none_more c t n e (d ∷ b) x behind h =
    let w : c ∷ t ≡ d ∷ (b ++ 60 ∷ (x ++ 62 ∷ behind)) = h.whole in
    let r : t ≡ b ++ 60 ∷ (x ++ 62 ∷ behind) = cc in
    n b x behind (record { whole = r; inner = h.inner; at = h.at })

-- an empty text has none
pub none_in_nothing : NoAngle []
none_in_nothing [] x behind h = let w = h.whole in absurd cc
none_in_nothing (d ∷ b) x behind h = let w = h.whole in absurd cc

-- at the end of a text nothing is left
pub none_at_end : (t : List ℕ) → NoAngle (drop (length t) t)
none_at_end t = subst (λ (u : List ℕ). NoAngle u) (sym (drop_all (length t) t (omega arith))) none_in_nothing

pub tells_at_end : (t : List ℕ) → Tells (record { closes = false; at = false }) (drop (length t) t)
tells_at_end t = subst (λ (u : List ℕ). Tells (record { closes = false; at = false }) u) (sym (drop_all (length t) t (omega arith))) (record { closes = refl; at = refl })

-- one octet more to the front
pub drop_back : (t : List ℕ) (at : ℕ) → 0 < at → at ≤ length t → drop (at - 1) t ≡ get_or t (at - 1) 0 ∷ drop at t
drop_back t at p le =
    let e : at - 1 + 1 ≡ at = omega arith in
    drop_more t (at - 1) 0 (omega arith) ∙ ap (λ (k : ℕ). get_or t (at - 1) 0 ∷ drop k t) e

-- a text whose first angle bracket is ">", and what stands before it
record AngleFront (t : List ℕ) : Type 0 where
  x : List ℕ
  behind : List ℕ
  whole : t ≡ x ++ 62 ∷ behind
  inner : Each is_no_angle x
  at : list_any is_at x ≡ has_at t

kinds : (c : ℕ) → (c ≡ 62) ⊎ ((c ≡ 60) ⊎ (is_no_angle c ≡ true))
kinds c = by (eqb c 62) (eqb c 60) refl refl
  where
    neither : eqb c 62 ≡ false → eqb c 60 ≡ false → is_no_angle c ≡ true
    neither e f = ap (λ (p : Bool). not (p || eqb c 62)) f ∙ ap (λ (q : Bool). not (false || q)) e

    by : (p q : Bool) → eqb c 62 ≡ p → eqb c 60 ≡ q → (c ≡ 62) ⊎ ((c ≡ 60) ⊎ (is_no_angle c ≡ true))
    by true q e f = inl (eqb-true c 62 e)
    by false true e f = inr (inl (eqb-true c 60 f))
    by false false e f = inr (inr (neither e f))

angle_front : (t : List ℕ) → closes t ≡ true → AngleFront t
angle_front [] e = absurd cc
angle_front (c ∷ t) e = by (kinds c) (λ n. angle_front t (sym (closes_past c t n) ∙ e))
  where
    greater : AngleFront (62 ∷ t)
    greater = record { x = []; behind = t; whole = refl; inner = tt; at = refl }

    less : c ≡ 60 → ⊥
    less f = let g : closes (60 ∷ t) ≡ true = ap (λ (u : ℕ). closes (u ∷ t)) (sym f) ∙ e in absurd cc

    other : is_no_angle c ≡ true → AngleFront t → AngleFront (c ∷ t)
    other n m = record {
      x = c ∷ m.x;
      behind = m.behind;
      whole = ap (λ (u : List ℕ). c ∷ u) m.whole;
      inner = (n, m.inner);
      at = ap (λ (q : Bool). is_at c || q) m.at ∙ sym (at_past c t n);
    }

    by : (c ≡ 62) ⊎ ((c ≡ 60) ⊎ (is_no_angle c ≡ true)) → (is_no_angle c ≡ true → AngleFront t) → AngleFront (c ∷ t)
    by (inl f) m = subst (λ (u : ℕ). AngleFront (u ∷ t)) (sym f) greater
    by (inr (inl f)) m = absurd (less f)
    by (inr (inr n)) m = other n (m n)

-- what is found to open the last angle brackets opens them
pub opens_here : (n c : ℕ) (t behind : List ℕ) → drop n t ≡ c ∷ behind → opens c behind ≡ true → NoAngle behind → OpensAt n t
opens_here n c t behind e o l =
    let f : c ≡ 60 = eqb-true c 60 (and_parts (eqb c 60) (closes behind && has_at behind) o).0 in
    record {
      behind = behind;
      at = e ∙ ap (λ (u : ℕ). u ∷ behind) f;
      opens = ap (λ (u : ℕ). opens u behind) (sym f) ∙ o;
      last = l;
    }

-- and these are the last
pub last_here : (n : ℕ) (t before inner x : List ℕ) (o : OpensAt n t) → before ≡ take n t → drop n t ≡ 60 ∷ inner → x ≡ front is_no_angle inner
    → (behind : List ℕ) × IsLastAngle before x behind t
last_here n t before inner x o b r e =
    let s : ◌≡◌ {A = List ℕ} (60 ∷ o.behind) (60 ∷ inner) = sym o.at ∙ r in
    let q : o.behind ≡ inner = cc in
    let p = and_parts (closes o.behind) (has_at o.behind) o.opens in
    let f = angle_front o.behind p.0 in
    let x_is : x ≡ f.x = e ∙ ap (front is_no_angle) (sym q ∙ f.whole) ∙ sym (run_cut is_no_angle f.x f.behind 62 f.inner refl).front in (
      f.behind,
      record {
        has = record {
          whole = sym (take-append-drop n t) ∙ ap (λ (u : List ℕ). u ++ drop n t) (sym b)
              ∙ ap (λ (u : List ℕ). before ++ u) (o.at ∙ ap (λ (u : List ℕ). 60 ∷ u) f.whole) ∙ ap (λ (u : List ℕ). before ++ 60 ∷ (u ++ 62 ∷ f.behind)) (sym x_is);
          inner = subst (λ (u : List ℕ). Each is_no_angle u) (sym x_is) f.inner;
          at = ap (list_any is_at) x_is ∙ f.at ∙ p.1;
        };
        last = λ d y k h. o.last (f.x ++ 62 ∷ d) y k (record {
          whole = f.whole ∙ ap (λ (u : List ℕ). f.x ++ 62 ∷ u) h.whole ∙ sym (Rattle.std.proofs.Common.append_assoc f.x (62 ∷ d) (60 ∷ (y ++ 62 ∷ k)));
          inner = h.inner;
          at = h.at;
        });
      },
    )
