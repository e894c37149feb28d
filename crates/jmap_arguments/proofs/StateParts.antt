-- The epoch and the place in a state's text.
use Rattle.std.proofs.Common.{arith, ◌≡◌, ◌≢◌, ◌⊎◌, ◌<◌, ◌≤◌, ◌+◌, ◌-◌, ◌/◌, ◌%◌, ◌^◌, ℕ, zero, suc, List, [], ◌∷◌, ◌++◌, Bool, true, false, nat_lt}
use Rattle.std.proofs.Common.{if◌then◌else◌, length, get_or, decimal}
use Rattle.std.proofs.Common.{refl, sym, ap, ◌∙◌}
use Rattle.std.proofs.Common.{inl, inr}
use Rattle.std.proofs.Math.ListN.{get_or-append}
use Rattle.std.proofs.Math.Seq.{get_or-append_seam}
use Rattle.std.proofs.Math.Nat.{pow-suc}
use Rattle.std.proofs.lemmas.Bool.{ltb-true, ltb-false}
use Rattle.std.proofs.lemmas.Bool.Decides.{leb_tells}
use Rattle.std.proofs.lemmas.Fmt.{decimal_injective}
use Rattle.std.proofs.lemmas.List.{length-append, get_or-append_right}
use Rattle.jmap_arguments.specs.State.{hex_digit, hex_text, state_text}
use Rattle.jmap_arguments.specs.declared.state.State.{State}

-- no `-` stands in the text
abbrev pub HasNoDash : List ℕ → Type 0
HasNoDash text = (i : ℕ) → i < length text → get_or text i 0 ≢ 45

digit_by : (n : ℕ) (low : Bool) → (if low then 48 + n else 87 + n) ≢ 45
digit_by n true = λ is. absurd (omega (arith, is))
digit_by n false = λ is. absurd (omega (arith, is))

-- hexadecimal digits have none
pub hex_has_no_dash : (width n : ℕ) → HasNoDash (hex_text width n)
unfolding hex_text
hex_has_no_dash zero n = λ i below. absurd (omega (arith, below))
hex_has_no_dash (suc width) n = λ i below is.
    let front = hex_text width (n / 16) in
    let last = hex_digit (n % 16) in
    elim (leb_tells (length front) i) [
      | inr inside ↦
          let in_front : i < length front = omega (arith, inside.1) in
          hex_has_no_dash width (n / 16) i in_front (sym (get_or-append front (last ∷ []) 0 i in_front) ∙ is)
      | inl past ↦
          let behind : length front ≤ i = past.1 in
          let none_left : i - length front ≡ 0 = omega (arith, below, behind, length-append front (last ∷ [])) in
          digit_by (n % 16) (nat_lt (n % 16) 10)
          (sym (get_or-append_right front (last ∷ []) (length front) i 0 refl behind ∙ ap (λ (k : ℕ). get_or (last ∷ []) k 0) none_left) ∙ is)
    ]

abbrev head_of : List ℕ → ℕ
head_of [] = 0
head_of (c ∷ l) = c

abbrev tail_of : List ℕ → List ℕ
tail_of [] = []
tail_of (c ∷ l) = l

-- a text is cut at its first `-` in one way
pub one_cut : (a b x y : List ℕ) → a ++ 45 ∷ b ≡ x ++ 45 ∷ y → HasNoDash a → HasNoDash x → (a ≡ x) × (b ≡ y)
one_cut [] b [] y is none none' = (refl, ap tail_of is)
one_cut [] b (d ∷ x) y is none none' = absurd (none' 0 (omega arith) (sym (ap head_of is)))
one_cut (c ∷ a) b [] y is none none' = absurd (none 0 (omega arith) (ap head_of is))
one_cut (c ∷ a) b (d ∷ x) y is none none' =
    let rest = one_cut a b x y (ap tail_of is) (λ i below. none (suc i) (omega (arith, below))) (λ i below. none' (suc i) (omega (arith, below))) in
    (ap (λ (o : ℕ). o ∷ a) (ap head_of is) ∙ ap (λ (l : List ℕ). d ∷ l) rest.0, rest.1)

-- a state's text has a `-`
pub has_dash : (text : List ℕ) (of : State) → HasNoDash text → text ≡ state_text of → ⊥
has_dash text of none is =
    let epoch = hex_text 16 of.epoch in
    let at : get_or text (length epoch) 0 ≡ 45 = ap (λ (t : List ℕ). get_or t (length epoch) 0) is ∙ get_or-append_seam epoch 45 (decimal of.place) 0 in
    let long : length text ≡ length (epoch ++ 45 ∷ decimal of.place) = ap (λ (t : List ℕ). length t) is in
    let inside : length epoch < length text = omega (arith, long, length-append epoch (45 ∷ decimal of.place)) in
    none (length epoch) inside at

-- the parts of a state's text
pub parts_of : (text epoch place : List ℕ) (of : State) → text ≡ epoch ++ 45 ∷ place → HasNoDash epoch → text ≡ state_text of
    → (epoch ≡ hex_text 16 of.epoch) × (place ≡ decimal of.place)
parts_of text epoch place of cut none is = one_cut epoch place (hex_text 16 of.epoch) (decimal of.place) (sym cut ∙ is) none (hex_has_no_dash 16 of.epoch)

-- ---- one state

-- lists with one more element each
pub one_last : (a b : List ℕ) (x y : ℕ) → a ++ x ∷ [] ≡ b ++ y ∷ [] → (a ≡ b) × (x ≡ y)
one_last [] [] x y is = (refl, ap head_of is)
one_last [] (d ∷ b) x y is = absurd (omega (arith, ap (λ (l : List ℕ). length l) is, length-append b (y ∷ [])))
one_last (c ∷ a) [] x y is = absurd (omega (arith, ap (λ (l : List ℕ). length l) is, length-append a (x ∷ [])))
one_last (c ∷ a) (d ∷ b) x y is =
    let rest = one_last a b x y (ap tail_of is) in
    (ap (λ (o : ℕ). o ∷ a) (ap head_of is) ∙ ap (λ (l : List ℕ). d ∷ l) rest.0, rest.1)

abbrev IsDigitOf : ℕ → ℕ → Type 0
IsDigitOf digit n = ((n < 10) × (digit ≡ 48 + n)) ⊎ ((10 ≤ n) × (digit ≡ 87 + n))

digit_is : (n : ℕ) → IsDigitOf (hex_digit n) n
digit_is n = elim (nat_lt n 10) as (λ b. nat_lt n 10 ≡ b → IsDigitOf (if b then 48 + n else 87 + n) n) [
  | true ↦ λ is. inl (ltb-true n 10 is, refl)
  | false ↦ λ is. inr (ltb-false n 10 is, refl)
] refl

digits_same : (x y n m : ℕ) → x ≡ y → IsDigitOf x n → IsDigitOf y m → n ≡ m
digits_same x y n m is (inl a) (inl b) = omega (arith, is, a.1, b.1)
digits_same x y n m is (inl a) (inr b) = absurd (omega (arith, is, a.0, a.1, b.0, b.1))
digits_same x y n m is (inr a) (inl b) = absurd (omega (arith, is, a.0, a.1, b.0, b.1))
digits_same x y n m is (inr a) (inr b) = omega (arith, is, a.1, b.1)

-- hexadecimal digits are those of one number
one_hex : (width n m : ℕ) → n < 16 ^ width → m < 16 ^ width → hex_text width n ≡ hex_text width m → n ≡ m
unfolding hex_text
one_hex zero n m small fits is = omega (arith, small, fits)
one_hex (suc width) n m small fits is =
    let ends = one_last (hex_text width (n / 16)) (hex_text width (m / 16)) (hex_digit (n % 16)) (hex_digit (m % 16)) is in
    let high = one_hex width (n / 16) (m / 16) (omega (arith, small, pow-suc 16 width)) (omega (arith, fits, pow-suc 16 width)) ends.0 in
    let low = digits_same (hex_digit (n % 16)) (hex_digit (m % 16)) (n % 16) (m % 16) ends.1 (digit_is (n % 16)) (digit_is (m % 16)) in
    omega (arith, high, low)

-- a text is that of one state
pub one_state : (a b : State) → a.epoch < 2 ^ 64 → b.epoch < 2 ^ 64 → a.place < 2 ^ 64 → b.place < 2 ^ 64 → state_text a ≡ state_text b → a ≡ b
one_state a b ea eb pa pb is =
    let cut = one_cut (hex_text 16 a.epoch) (decimal a.place) (hex_text 16 b.epoch) (decimal b.place) is (hex_has_no_dash 16 a.epoch) (hex_has_no_dash 16 b.epoch) in
    let of : ℕ → ℕ → State = λ epoch place. record { epoch = epoch; place = place } in
    ap (λ (epoch : ℕ). of epoch a.place) (one_hex 16 a.epoch b.epoch ea eb cut.0) ∙ ap (of b.epoch) (decimal_injective a.place b.place pa pb cut.1)

-- in one epoch it is that of one place
pub one_place : (epoch p q : ℕ) → p < 2 ^ 64 → q < 2 ^ 64 → state_text (record { epoch = epoch; place = p }) ≡ state_text (record { epoch = epoch; place = q }) → p ≡ q
one_place epoch p q small fits is =
    let cut = one_cut (hex_text 16 epoch) (decimal p) (hex_text 16 epoch) (decimal q) is (hex_has_no_dash 16 epoch) (hex_has_no_dash 16 epoch) in
    decimal_injective p q small fits cut.1

-- a text that names a place of the epoch has that place's state
pub named_same : (epoch : ℕ) (text : List ℕ) (named : State) (p : ℕ) → ((of : State) → of.epoch < 2 ^ 64 → of.place < 2 ^ 64 → text ≡ state_text of → of ≡ named)
    → epoch < 2 ^ 64 → p < 2 ^ 64 → text ≡ state_text (record { epoch = epoch; place = p }) → (epoch ≡ named.epoch) × (p ≡ named.place)
named_same epoch text named p one fits small is =
    let same = one (record { epoch = epoch; place = p }) fits small is in
    (ap (λ (s : State). s.epoch) same, ap (λ (s : State). s.place) same)
