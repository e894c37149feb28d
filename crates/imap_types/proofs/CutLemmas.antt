-- Texts that are cut at an octet.
use Rattle.std.proofs.Common.{◌≡◌, ℕ, zero, suc, ◌+◌, ◌<◌, Bool, true, false, List, [], ◌∷◌, ◌++◌, length, map, take, drop, get_or, cond, refl, sym, ap, subst, ◌∙◌, arith, Option}
use Rattle.std.proofs.Common.{Some, None}
use Rattle.std.specs.Prelude.{not, ◌==◌}
use Rattle.std.specs.List.{list_all}
use Rattle.std.proofs.lemmas.Bool.{cond-true, cond-false, and_parts, eqb-true, eq-eqb, ne_eqb, not_from_false, not-true}
use Rattle.std.proofs.lemmas.Option.{same_Some}
use Rattle.imap_types.specs.Octets.{lower}
use Rattle.imap_types.specs.Texts.{Each}
use Rattle.imap_types.specs.reading.CodeReading.{cut, put_front}

-- ---- tests

-- to show what follows from a test's outcome, show it where the test holds and where it fails
pub by_test : {A : Type 0} (b : Bool) (x y r : A) (P : Type 0) → cond b x y ≡ r → (b ≡ true → x ≡ r → P) → (b ≡ false → y ≡ r → P) → P
by_test true x y r P e f g = f refl e
by_test false x y r P e f g = g refl e

-- where nothing gives nothing, something came of something
pub by_some : {A B : Type 0} (o : Option A) (f : Option A → Option B) (r : B) (P : Type 0) → f None ≡ None → f o ≡ Some r → ((x : A) → o ≡ Some x → f (Some x) ≡ Some r → P) → P
by_some None f r P n e g = let none : None ≡ Some r = sym n ∙ e in absurd cc
by_some (Some x) f r P n e g = g x refl e

-- ---- octets

abbrev pub other : ℕ → ℕ → Bool
other c d = not (d == c)

space_lower : (c : ℕ) → other 32 (lower c) ≡ true → other 32 c ≡ true
space_lower c e = grind arith

-- a word without a space has none in any case
pub word_free : (t : List ℕ) → list_all (other 32) (map lower t) ≡ true → Each (other 32) t
word_free [] e = tt
word_free (c ∷ t) e = let a = and_parts (other 32 (lower c)) (list_all (other 32) (map lower t)) e in (space_lower c a.0, word_free t a.1)

-- a text that is a word without a space, in letters of any case, has no space
pub free_of : (t w : List ℕ) → map lower t ≡ w → list_all (other 32) w ≡ true → Each (other 32) t
free_of t w e f = word_free t (ap (list_all (other 32)) e ∙ f)

-- ---- cuts

record Cut (c : ℕ) (t : List ℕ) (r : List ℕ × List ℕ) : Type 0 where
  whole : t ≡ r.0 ++ c ∷ r.1
  each : Each (other c) r.0

cut_first : (c d : ℕ) (t : List ℕ) (r : List ℕ × List ℕ) → (d == c) ≡ true → Some ([], t) ≡ Some r → Cut c (d ∷ t) r
cut_first c d t r e f =
    let same : ([], t) ≡ r = same_Some ([], t) r f in
    subst (λ (q : List ℕ × List ℕ). Cut c (d ∷ t) q) same (record { whole = ap (λ (n : ℕ). n ∷ t) (eqb-true d c e); each = tt })

cut_later : (c d : ℕ) (t : List ℕ) (r q : List ℕ × List ℕ) → (d == c) ≡ false → Cut c t q → put_front d (Some q) ≡ Some r → Cut c (d ∷ t) r
cut_later c d t r q e h f =
    let same : (d ∷ q.0, q.1) ≡ r = same_Some (d ∷ q.0, q.1) r f in
    subst (λ (q : List ℕ × List ℕ). Cut c (d ∷ t) q) same (record { whole = ap (λ (u : List ℕ). d ∷ u) h.whole; each = (not_from_false (d == c) e, h.each) })

cut_is : (c : ℕ) (t : List ℕ) (r : List ℕ × List ℕ) → cut c t ≡ Some r → Cut c t r
unfolding cut
cut_is c [] r e = absurd cc
cut_is c (d ∷ t) r e = by_test (d == c) (Some ([], t)) (put_front d (cut c t)) (Some r) (Cut c (d ∷ t) r) e
    (λ b f. cut_first c d t r b f)
    (λ b f. by_some (cut c t) (put_front d) r (Cut c (d ∷ t) r) refl f (λ q g k. cut_later c d t r q b (cut_is c t q g) k))

-- where a text is cut, it is what stands before the octet, the octet, and what follows, and none before is the octet
pub cut_some : (c : ℕ) (t : List ℕ) (r : List ℕ × List ℕ) → cut c t ≡ Some r → (t ≡ r.0 ++ c ∷ r.1) × Each (other c) r.0
cut_some c t r e = let h = cut_is c t r e in (h.whole, h.each)

same_octet : (c : ℕ) → (c == c) ≡ true
same_octet c = grind arith

-- a text of other octets, the octet, and more is cut into what stands before the octet and what follows it
pub cut_at : (c : ℕ) (front back : List ℕ) → Each (other c) front → cut c (front ++ c ∷ back) ≡ Some (front, back)
unfolding cut
cut_at c [] back h = cond-true (c == c) (Some ([], back)) (put_front c (cut c back)) (same_octet c)
cut_at c (d ∷ front) back h =
    cond-false (d == c) (Some ([], front ++ c ∷ back)) (put_front d (cut c (front ++ c ∷ back))) (not-true (d == c) h.0)
    ∙ ap (put_front d) (cut_at c front back h.1)

-- a text without the octet isn't cut
pub cut_free : (c : ℕ) (t : List ℕ) → Each (other c) t → cut c t ≡ None
unfolding cut
cut_free c [] h = refl
cut_free c (d ∷ t) h = cond-false (d == c) (Some ([], t)) (put_front d (cut c t)) (not-true (d == c) h.0) ∙ ap (put_front d) (cut_free c t h.1)

-- a text with the octet is cut somewhere
pub cut_none : (c : ℕ) (front back : List ℕ) → cut c (front ++ c ∷ back) ≡ None → ⊥
unfolding cut
cut_none c [] back e = let f = sym (cond-true (c == c) (Some ([], back)) (put_front c (cut c back)) (same_octet c)) ∙ e in absurd cc
cut_none c (d ∷ front) back e = by_test (d == c) (Some ([], front ++ c ∷ back)) (put_front d (cut c (front ++ c ∷ back))) None ⊥ e
    (λ b f. absurd cc)
    (λ b f. kept (cut c (front ++ c ∷ back)) f (cut_none c front back))
  where
    kept : (o : Option (List ℕ × List ℕ)) → put_front d o ≡ None → (o ≡ None → ⊥) → ⊥
    kept None f g = g refl
    kept (Some q) f g = absurd cc

-- cut at the first index of the octet
pub cut_index : (c : ℕ) (t : List ℕ) (i : ℕ) → i < length t → ((k : ℕ) → k < i → get_or t k 0 ≡ c → ⊥) → get_or t i 0 ≡ c → cut c t ≡ Some (take i t, drop (i + 1) t)
unfolding cut
cut_index c [] i lt h e = absurd (omega (arith, lt))
cut_index c (d ∷ t) zero lt h e = cond-true (d == c) (Some ([], t)) (put_front d (cut c t)) (eq-eqb d c e)
cut_index c (d ∷ t) (suc i) lt h e =
    let past : suc i + 1 ≡ suc (i + 1) = omega arith in
    cond-false (d == c) (Some ([], t)) (put_front d (cut c t)) (ne_eqb d c (h 0 (omega arith)))
    ∙ ap (put_front d) (cut_index c t i (omega (arith, lt)) (λ k l. h (suc k) (omega (arith, l))) e)
    ∙ ap (λ (n : ℕ). Some (d ∷ take i t, drop n (d ∷ t))) (sym past)

-- a text that has the octet at no index isn't cut
pub cut_never : (c : ℕ) (t : List ℕ) → ((k : ℕ) → k < length t → get_or t k 0 ≡ c → ⊥) → cut c t ≡ None
unfolding cut
cut_never c [] h = refl
cut_never c (d ∷ t) h =
    cond-false (d == c) (Some ([], t)) (put_front d (cut c t)) (ne_eqb d c (h 0 (omega arith)))
    ∙ ap (put_front d) (cut_never c t (λ k l. h (suc k) (omega (arith, l))))
