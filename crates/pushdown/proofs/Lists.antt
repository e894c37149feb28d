-- Lists that are cut in two.
use Rattle.std.proofs.Common.{◌≡◌, ℕ, Bool, true, false, List, [], ◌∷◌, ◌++◌, get_or, refl, sym, ap, ◌∙◌, append_assoc}
use Rattle.std.proofs.lemmas.Bool.{both_ways}
use Rattle.imap_types.specs.Texts.{Each, Then}

-- equal lists have the same first element
pub cons_head : {A : Type 0} (c d : A) (x y : List A) → c ∷ x ≡ d ∷ y → c ≡ d
cons_head c d x y e = cc

-- equal lists are the same after their first element
pub cons_tail : {A : Type 0} (c d : A) (x y : List A) → c ∷ x ≡ d ∷ y → x ≡ y
cons_tail c d x y e = cc

-- if two texts joined are empty, both are
pub no_append : (x y : List ℕ) → [] ≡ x ++ y → (x ≡ []) × (y ≡ [])
no_append [] y e = (refl, sym e)
no_append (c ∷ x) y e = absurd cc

-- a text of A, and then one of B and C, is a text of A and B, and then one of C
pub regroup : (A B C : List ℕ → Type 0) (t : List ℕ) → Then A (Then B C) t → Then (Then A B) C t
regroup A B C t h = record {
  front = h.front ++ h.second.front;
  back = h.second.back;
  whole = h.whole ∙ ap (λ (u : List ℕ). h.front ++ u) h.second.whole ∙ sym (append_assoc h.front h.second.front h.second.back);
  first = record { front = h.front; back = h.second.front; whole = refl; first = h.first; second = h.second.first };
  second = h.second.second;
}

-- a text of A and B, and then one of C, is a text of A, and then one of B and C
pub ungroup : (A B C : List ℕ → Type 0) (t : List ℕ) → Then (Then A B) C t → Then A (Then B C) t
ungroup A B C t h = record {
  front = h.first.front;
  back = h.first.back ++ h.back;
  whole = h.whole ∙ ap (λ (u : List ℕ). u ++ h.back) h.first.whole ∙ append_assoc h.first.front h.first.back h.back;
  first = h.first.first;
  second = record { front = h.first.back; back = h.back; whole = refl; first = h.first.second; second = h.second };
}

-- ---- the longest run of octets of a class

pub record Cut (p : ℕ → Bool) (t : List ℕ) : Type 0 where
  pub front : List ℕ
  pub back : List ℕ
  pub whole : t ≡ front ++ back
  pub each : Each p front
  pub longest : p (get_or back 0 0) ≡ false

-- a text begins with a longest run of octets of a class that doesn't have 0, though the run may be empty
pub cut : (p : ℕ → Bool) (t : List ℕ) → p 0 ≡ false → Cut p t
cut p [] z = record { front = []; back = []; whole = refl; each = tt; longest = z }
cut p (c ∷ t) z = by (p c) refl (cut p t z)
  where
    by : (b : Bool) → p c ≡ b → Cut p t → Cut p (c ∷ t)
    by true e r = record { front = c ∷ r.front; back = r.back; whole = ap (λ (u : List ℕ). c ∷ u) r.whole; each = (e, r.each); longest = r.longest }
    by false e r = record { front = []; back = c ∷ t; whole = refl; each = tt; longest = e }

-- there is one alone
pub one_cut : (p : ℕ → Bool) (x y a b : List ℕ) → Each p x → p (get_or y 0 0) ≡ false → Each p a → p (get_or b 0 0) ≡ false → x ++ y ≡ a ++ b → x ≡ a
one_cut p [] y [] b h o k q e = refl
one_cut p [] y (d ∷ a) b h o k q e = absurd (both_ways (p d) (sym (ap (λ (u : List ℕ). p (get_or u 0 0)) e) ∙ o) k.0)
one_cut p (c ∷ x) y [] b h o k q e = absurd (both_ways (p c) (ap (λ (u : List ℕ). p (get_or u 0 0)) e ∙ q) h.0)
one_cut p (c ∷ x) y (d ∷ a) b h o k q e =
    let same : c ≡ d = cons_head c d (x ++ y) (a ++ b) e in
    let rest : x ≡ a = one_cut p x y a b h.1 o k.1 q (cons_tail c d (x ++ y) (a ++ b) e) in
    (λ i. (same i) ∷ (rest i))
