-- A whole text stands alone: none begins with another, and none stands where more is needed or an octet is bad.
use Rattle.std.proofs.Common.{◌≡◌, ◌⊎◌, ℕ, zero, suc, ◌+◌, ◌<◌, ◌≤◌, List, [], ◌∷◌, ◌++◌, length, take, drop, Option, Some, refl, sym, ap, subst, ◌∙◌, append_assoc, arith, inl}
use Rattle.std.proofs.Common.{inr}
use Rattle.std.specs.Prelude.{◌≢◌}
use Rattle.std.proofs.lemmas.Bool.{cases_lt, cases_order}
use Rattle.std.proofs.lemmas.List.{append-nil, take_all, take-append-drop, length-take}
use Rattle.std.proofs.Math.Seq.{take-append_seam}
use Rattle.pushdown.specs.declared.answer.Answer.{Answer}
use Rattle.pushdown.specs.declared.answer.Answer.TheVariants as answer
use Rattle.pushdown.specs.Automaton.{Automaton}
use Rattle.pushdown.specs.Run.{start, run}
use Rattle.pushdown.specs.Lawful.{IsLawful}
use Rattle.pushdown.specs.Answers.{IsWhole, IsPrefix, IsProperPrefix, AnswerOf}
use Rattle.pushdown.proofs.Lists.{cons_head, cons_tail, no_append}
use Rattle.pushdown.proofs.Leading.{no_symbols, none_stays, run_append, alive}
use Rattle.pushdown.proofs.Marks.{start_same}
use Rattle.pushdown.proofs.Standing.{read_whole, outside_append}
use Rattle.imap_types.specs.Texts.{plain_of, plain_octets, outside}

-- a text by how many octets its front has
pub record Front (t b c : List ℕ) : Type 0 where
  pub front : List ℕ
  pub back : List ℕ
  pub whole : t ≡ front ++ back
  pub first : plain_octets front ≡ b
  pub second : plain_octets back ≡ c

-- a text whose octets are b and then c is a text with octets b, and then one with octets c
pub front_of : (b c t : List ℕ) → plain_octets t ≡ b ++ c → Front t b c
front_of [] c t e = record { front = []; back = t; whole = refl; first = refl; second = e }
front_of (d ∷ b) c [] e = absurd cc
front_of (d ∷ b) c (x ∷ t) e =
    let h = cons_head (plain_of x) d (plain_octets t) (b ++ c) e in
    let r = front_of b c t (cons_tail (plain_of x) d (plain_octets t) (b ++ c) e) in
    record { front = x ∷ r.front; back = r.back; whole = ap (λ (u : List ℕ). x ∷ u) r.whole; first = (let f = r.first in cc); second = r.second }

-- of two fronts one begins with the other
fronts : (t u x y : List ℕ) → t ++ x ≡ u ++ y → ((z : List ℕ) × (u ≡ t ++ z) × (x ≡ z ++ y)) ⊎ ((z : List ℕ) × (t ≡ u ++ z) × (y ≡ z ++ x))
fronts [] u x y e = inl (u, refl, e)
fronts (c ∷ t) [] x y e = inr (c ∷ t, refl, sym e)
fronts (c ∷ t) (d ∷ u) x y e =
    let h = cons_head c d (t ++ x) (u ++ y) e in
    elim (fronts t u x y (cons_tail c d (t ++ x) (u ++ y) e)) [
      | inl r ↦ inl (r.0, (let q = r.1 in cc), r.2)
      | inr r ↦ inr (r.0, (let q = r.1 in cc), r.2)
    ]

take_take : (n m : ℕ) (b : List ℕ) → n ≤ m → take m b ≡ take n b ++ drop n (take m b)
take_take n m b le = sym (take-append-drop n (take m b)) ∙ ap (λ (u : List ℕ). u ++ drop n (take m b)) (shorter n m b le)
  where
    shorter : (n m : ℕ) (b : List ℕ) → n ≤ m → take n (take m b) ≡ take n b
    shorter zero m b le = refl
    shorter (suc n) zero b le = absurd (omega arith)
    shorter (suc n) (suc m) [] le = refl
    shorter (suc n) (suc m) (x ∷ b) le = ap (λ (u : List ℕ). x ∷ u) (shorter n m b (omega arith))

front_is : (t x b : List ℕ) → b ≡ t ++ x → take (length t) b ≡ t
front_is t x b e = ap (take (length t)) e ∙ take-append_seam t x

module _ {S : Type 0} (machine : Automaton S) (laws : IsLawful machine) where
  -- nothing follows a whole text
  after_end : (t u : List ℕ) (left : List S) → run machine (Some (start machine)) t ≡ Some [] → run machine (Some (start machine)) (t ++ u) ≡ Some left → u ≡ []
  after_end t [] left e f = refl
  after_end t (c ∷ u) left e f =
      absurd (no_symbols left (sym (none_stays machine u) ∙ ap (λ (o : Option (List S)). run machine o (c ∷ u)) (sym e)
      ∙ sym (run_append machine t (c ∷ u) (Some (start machine))) ∙ f))

  -- a text that is one of the language's, at the front of one that leads on, is the whole of it
  whole_of : (t u more : List ℕ) (left : List S) → run machine (Some (start machine)) t ≡ Some [] → run machine (Some (start machine)) (u ++ more) ≡ Some left
      → plain_octets t ≡ plain_octets u → (t ≡ u) × (more ≡ [])
  whole_of t u more left e f p =
      let led = alive machine (run machine (Some (start machine)) u) more left (sym (run_append machine u more (Some (start machine))) ∙ f) in
      let same = start_same machine laws t u [] led.symbols e led.is p in
      (same, after_end t more left e (ap (λ (x : List ℕ). run machine (Some (start machine)) (x ++ more)) same ∙ f))

  -- a whole text at the front of another is the other
  pub whole_within : (t u z : List ℕ) (h : IsWhole machine t) (k : IsWhole machine u) → u ≡ t ++ z → (k.text ≡ h.text) × (z ≡ [])
  whole_within t u z h k e =
      let f = front_of t z k.text (k.octets ∙ e) in
      let all = read_whole machine laws k.text k.reads in
      let q = whole_of h.text f.front f.back [] (read_whole machine laws h.text h.reads) (ap (run machine (Some (start machine))) (sym f.whole) ∙ all) (h.octets ∙ sym f.first) in
      (f.whole ∙ ap (λ (v : List ℕ). f.front ++ v) q.1 ∙ append-nil f.front ∙ sym q.0, sym f.second ∙ ap plain_octets q.1)

  -- two at the front of the same octets are one
  pub whole_front : (t u x y : List ℕ) (h : IsWhole machine t) (k : IsWhole machine u) → t ++ x ≡ u ++ y → (k.text ≡ h.text) × (t ≡ u) × (x ≡ y)
  whole_front t u x y h k e = elim (fronts t u x y e) [
    | inl r ↦ (
        let q = whole_within t u r.0 h k r.1 in
        (q.0, sym (append-nil t) ∙ ap (λ (z : List ℕ). t ++ z) (sym q.1) ∙ sym r.1, r.2 ∙ ap (λ (z : List ℕ). z ++ y) q.1))
    | inr r ↦ (
        let q = whole_within u t r.0 k h r.1 in
        (sym q.0, r.1 ∙ ap (λ (z : List ℕ). u ++ z) q.1 ∙ append-nil u, sym (r.2 ∙ ap (λ (z : List ℕ). z ++ x) q.1)))
  ]

  -- none stands at the front of a proper prefix of one
  pub proper_none : (b : List ℕ) → IsProperPrefix machine b → (t x : List ℕ) → IsWhole machine t → b ≡ t ++ x → ⊥
  proper_none b h t x k e =
      let f = front_of t x h.text (h.octets ∙ e) in
      let all = read_whole machine laws (h.text ++ h.more) h.reads in
      let cut : h.text ++ h.more ≡ f.front ++ (f.back ++ h.more) = ap (λ (u : List ℕ). u ++ h.more) f.whole ∙ append_assoc f.front f.back h.more in
      let q =
      whole_of k.text f.front (f.back ++ h.more) [] (read_whole machine laws k.text k.reads) (ap (run machine (Some (start machine))) (sym cut) ∙ all) (k.octets
      ∙ sym f.first) in
      h.proper (no_append f.back h.more (sym q.1)).1

  -- ---- fronts of prefixes

  of_whole : (b : List ℕ) → IsWhole machine b → IsPrefix machine b
  of_whole b h = record { text = h.text; more = []; reads = subst (machine.language machine.start) (sym (append-nil h.text)) h.reads; octets = h.octets; within = h.within }

  of_proper : (b : List ℕ) → IsProperPrefix machine b → IsPrefix machine b
  of_proper b h = record { text = h.text; more = h.more; reads = h.reads; octets = h.octets; within = h.within }

  prefix_front : (b c : List ℕ) → IsPrefix machine (b ++ c) → IsPrefix machine b
  prefix_front b c h =
      let f = front_of b c h.text h.octets in
      record {
        text = f.front;
        more = f.back ++ h.more;
        reads = subst (machine.language machine.start) (ap (λ (u : List ℕ). u ++ h.more) f.whole ∙ append_assoc f.front f.back h.more) h.reads;
        octets = f.first;
        within = omega (arith, h.within, ap outside f.whole, outside_append f.front f.back);
      }

  prefix_take : (b : List ℕ) (n m : ℕ) → n ≤ m → IsPrefix machine (take m b) → IsPrefix machine (take n b)
  prefix_take b n m le h = prefix_front (take n b) (drop n (take m b)) (subst (IsPrefix machine) (take_take n m b le) h)

  -- where an octet is bad none stands at the front
  pub bad_none : (b : List ℕ) (at : ℕ) → AnswerOf machine b (answer.Bad at) → (t x : List ℕ) → IsWhole machine t → b ≡ t ++ x → ⊥
  bad_none b at h t x k e = elim (cases_lt at (length t)) [
    | inl lt ↦ h.1 (prefix_take b (at + 1) (length t) (omega (arith, lt)) (subst (IsPrefix machine) (sym (front_is t x b e)) (of_whole t k)))
    | inr le ↦ proper_none (take at b) h.2 t (drop (length t) (take at b)) k
        (take_take (length t) at b le ∙ ap (λ (u : List ℕ). u ++ drop (length t) (take at b)) (front_is t x b e))
  ]

  -- a whole text has an octet
  pub whole_some : (t : List ℕ) → IsWhole machine t → t ≢ []
  whole_some t h e = by h.text (h.octets ∙ e) (read_whole machine laws h.text h.reads)
    where
      by : (u : List ℕ) → plain_octets u ≡ [] → run machine (Some (start machine)) u ≡ Some [] → ⊥
      by [] p s = cc
      by (c ∷ u) p s = cc

  -- ---- one answer is right

  whole_taken : (b : List ℕ) (n : ℕ) → b ≡ take n b ++ drop n b
  whole_taken b n = sym (take-append-drop n b)

  whole_bad : (b : List ℕ) (n at : ℕ) → AnswerOf machine b (answer.Whole n) → AnswerOf machine b (answer.Bad at) → ⊥
  whole_bad b n at h k = bad_none b at k (take n b) (drop n b) h.1 (whole_taken b n)

  whole_need : (b : List ℕ) (n : ℕ) → AnswerOf machine b (answer.Whole n) → AnswerOf machine b answer.NeedMore → ⊥
  whole_need b n h k = proper_none b k (take n b) (drop n b) h.1 (whole_taken b n)

  whole_whole : (b : List ℕ) (n m : ℕ) → AnswerOf machine b (answer.Whole n) → AnswerOf machine b (answer.Whole m) → n ≡ m
  whole_whole b n m h k =
      let q = whole_front (take n b) (take m b) (drop n b) (drop m b) h.1 k.1 (take-append-drop n b ∙ sym (take-append-drop m b)) in
      omega (arith, ap length q.1, length-take n b, length-take m b, h.0, k.0)

  need_bad : (b : List ℕ) (at : ℕ) → AnswerOf machine b answer.NeedMore → AnswerOf machine b (answer.Bad at) → ⊥
  need_bad b at h k = k.1 (prefix_take b (at + 1) (length b) (omega (arith, k.0)) (subst (IsPrefix machine) (sym (take_all (length b) b (omega arith))) (of_proper b h)))

  bad_below : (b : List ℕ) (at other : ℕ) → at < other → AnswerOf machine b (answer.Bad at) → AnswerOf machine b (answer.Bad other) → ⊥
  bad_below b at other lt h k = h.1 (prefix_take b (at + 1) other (omega arith) (of_proper (take other b) k.2))

  pub one_answer : (b : List ℕ) (p q : Answer) → AnswerOf machine b p → AnswerOf machine b q → p ≡ q
  one_answer b (answer.Whole n) (answer.Whole m) h k = ap answer.Whole (whole_whole b n m h k)
  one_answer b (answer.Whole n) answer.NeedMore h k = absurd (whole_need b n h k)
  one_answer b (answer.Whole n) (answer.Bad at) h k = absurd (whole_bad b n at h k)
  one_answer b answer.NeedMore (answer.Whole n) h k = absurd (whole_need b n k h)
  one_answer b answer.NeedMore answer.NeedMore h k = refl
  one_answer b answer.NeedMore (answer.Bad at) h k = absurd (need_bad b at h k)
  one_answer b (answer.Bad at) (answer.Whole n) h k = absurd (whole_bad b n at k h)
  one_answer b (answer.Bad at) answer.NeedMore h k = absurd (need_bad b at k h)
  one_answer b (answer.Bad at) (answer.Bad other) h k = elim (cases_order at other) [
    | inl e ↦ ap answer.Bad e
    | inr (inl lt) ↦ absurd (bad_below b at other lt h k)
    | inr (inr gt) ↦ absurd (bad_below b other at gt k h)
  ]
