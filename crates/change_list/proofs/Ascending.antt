-- An ascending list is known by its members.
use Rattle.std.proofs.Common.{◌≡◌, ◌↔◌, ℕ, suc, ◌+◌, ◌<◌, List, [], ◌∷◌, Bool, true, false, ◌||◌, Contains, nat_eq, slice_index, refl, sym, ap, subst, ◌∙◌, arith}
use Rattle.std.specs.List.Sorted.{IsStrictlyIncreasing}
use Rattle.std.proofs.lemmas.Bool.{eqb-true, eq-eqb}
use Rattle.std.proofs.lemmas.Map.Views.{Contains-from_any, list_any-from_Contains}
use Rattle.std.proofs.lemmas.Cmp.{nat_eq_equiv}
use Rattle.change_list.specs.Changes.{Lists}
use Rattle.change_list.specs.Copy.{holds_id}

-- the test of membership, and what it tests
pub Contains-holds_id : (xs : List ℕ) (q : ℕ) → holds_id xs q ≡ true → Contains xs q
Contains-holds_id xs q e = Contains-from_any eqb-true q xs e

-- of a number that is a member the test of membership says so
pub holds_id-Contains : (xs : List ℕ) (q : ℕ) → Contains xs q → holds_id xs q ≡ true
holds_id-Contains xs q e = list_any-from_Contains nat_eq_equiv q xs e

-- the rest of an ascending list ascends
pub ascending_rest : (x : ℕ) (xs : List ℕ) → IsStrictlyIncreasing (x ∷ xs) → IsStrictlyIncreasing xs
ascending_rest x xs up k within =
    let P : ℕ → Type 0 = λ n. slice_index xs k < slice_index (x ∷ xs) n in
    let e : suc k + 1 ≡ suc (k + 1) = omega arith in
    subst P e (up (suc k) (omega arith))

-- the first number is below all others
pub first_below : (x : ℕ) (xs : List ℕ) → IsStrictlyIncreasing (x ∷ xs) → (q : ℕ) → holds_id xs q ≡ true → x < q
first_below x [] up q = λ h. absurd (let f : false ≡ true = h in cc)
first_below x (y ∷ ys) up q =
    let first : x < y = up 0 (omega arith) in
    elim (nat_eq q y) as (λ b. nat_eq q y ≡ b → b || holds_id ys q ≡ true → x < q) [
      | true ↦ λ same h. omega (arith, first, eqb-true q y same)
      | false ↦ λ other h. omega (arith, first, first_below y ys (ascending_rest x (y ∷ ys) up) q h)
    ] refl

-- a list holds its first number
pub held_first : (x : ℕ) (xs : List ℕ) → holds_id (x ∷ xs) x ≡ true
held_first x xs = ap (λ b. b || holds_id xs x) (eq-eqb x x refl)

-- a number of the list is the first, or one after it
first_or_rest : (q y : ℕ) (ys : List ℕ) → holds_id (y ∷ ys) q ≡ true → (q ≡ y → ⊥) → holds_id ys q ≡ true
first_or_rest q y ys h differ = elim (nat_eq q y) as (λ b. nat_eq q y ≡ b → b || holds_id ys q ≡ true → holds_id ys q ≡ true) [
  | true ↦ λ same h. absurd (differ (eqb-true q y same))
  | false ↦ λ other h. h
] refl h

-- where both lists begin with x, they have the same numbers after it
rest_held : (x : ℕ) (xs ys : List ℕ) → IsStrictlyIncreasing (x ∷ xs) → IsStrictlyIncreasing (x ∷ ys) → ((q : ℕ) → holds_id (x ∷ xs) q ≡ holds_id (x ∷ ys) q) → (q : ℕ)
    → holds_id xs q ≡ holds_id ys q
rest_held x xs ys up vp same q = elim (nat_eq q x) as (λ b. nat_eq q x ≡ b → b || holds_id xs q ≡ b || holds_id ys q → holds_id xs q ≡ holds_id ys q) [
  | true ↦ λ is h.
      let none : (zs : List ℕ) → IsStrictlyIncreasing (x ∷ zs) → holds_id zs q ≡ false = λ zs wp. elim (holds_id zs q) as (λ b. holds_id zs q ≡ b → b ≡ false) [
        | true ↦ λ held. absurd (omega (arith, first_below x zs wp q held, eqb-true q x is))
        | false ↦ λ held. refl
      ] refl in
      none xs up ∙ sym (none ys vp)
  | false ↦ λ other h. h
] refl (same q)

-- two ascending lists of the same numbers are one
pub same_held : (xs ys : List ℕ) → IsStrictlyIncreasing xs → IsStrictlyIncreasing ys → ((q : ℕ) → holds_id xs q ≡ holds_id ys q) → xs ≡ ys
same_held [] [] up vp same = refl
same_held [] (y ∷ ys) up vp same = absurd (let f : false ≡ true = same y ∙ held_first y ys in cc)
same_held (x ∷ xs) [] up vp same = absurd (let f : true ≡ false = sym (held_first x xs) ∙ same x in cc)
same_held (x ∷ xs) (y ∷ ys) up vp same =
    let not_below : x < y → ⊥ = λ lt. omega (arith, lt, first_below y ys vp x (first_or_rest x y ys (sym (same x) ∙ held_first x xs) (λ e. omega (arith, e, lt)))) in
    let not_above : y < x → ⊥ = λ lt. omega (arith, lt, first_below x xs up y (first_or_rest y x xs (same y ∙ held_first y ys) (λ e. omega (arith, e, lt)))) in
    let first : x ≡ y = omega (arith, not_below, not_above) in
    let U : ℕ → Type 0 = λ n. IsStrictlyIncreasing (n ∷ ys) in
    let S : ℕ → Type 0 = λ n. (q : ℕ) → holds_id (x ∷ xs) q ≡ holds_id (n ∷ ys) q in
    let rest : xs ≡ ys = same_held xs ys (ascending_rest x xs up) (ascending_rest y ys vp) (rest_held x xs ys up (subst U (sym first) vp) (subst S (sym first) same)) in
    cc

-- two tests of one fact are equal
pub same_truth : (a b : Bool) → (a ≡ true → b ≡ true) → (b ≡ true → a ≡ true) → a ≡ b
same_truth true true f g = refl
same_truth true false f g = sym (f refl)
same_truth false true f g = g refl
same_truth false false f g = refl

-- a list is known by what it lists
pub same_listed : (xs ys : List ℕ) (P : ℕ → Type 0) → Lists xs P → Lists ys P → xs ≡ ys
same_listed xs ys P a b = same_held xs ys a.ascending b.ascending (λ q. same_truth (holds_id xs q) (holds_id ys q)
    (λ h. holds_id-Contains ys q ((b.members q).1 ((a.members q).0 (Contains-holds_id xs q h))))
    (λ h. holds_id-Contains xs q ((a.members q).1 ((b.members q).0 (Contains-holds_id ys q h)))))

-- a mark is known by when it is set
pub same_marks : (a b : Bool) (P : Type 0) → (a ≡ true) ↔ P → (b ≡ true) ↔ P → a ≡ b
same_marks a b P f g = same_truth a b (λ h. g.1 (f.0 h)) (λ h. f.1 (g.0 h))
