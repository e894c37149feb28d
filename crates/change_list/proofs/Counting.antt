-- How many ids are touched: as many as a list of them has.
use Rattle.std.proofs.Common.{◌≡◌, ℕ, zero, suc, ◌+◌, ◌<◌, List, [], ◌∷◌, Bool, true, false, not, ◌&&◌, ◌||◌, cond, nat_eq, nat_lt, slice_index, filter, length, refl, sym, ap}
use Rattle.std.proofs.Common.{subst, ◌∙◌, arith}
use Rattle.std.specs.List.Sorted.{IsStrictlyIncreasing}
use Rattle.std.proofs.lemmas.Bool.{eqb-true, eq-eqb, ltb-true, ltb-false}
use Rattle.std.proofs.Math.Bool.{and-false, and-true}
use Rattle.std.proofs.lemmas.List.Kept.{IsStrictlyIncreasing-filter}
use Rattle.change_list.specs.Touches.{touches}
use Rattle.change_list.specs.Changes.{Lists}
use Rattle.change_list.specs.Copy.{holds_id}
use Rattle.change_list.specs.reading.Seen.{fresh_count, touched_count}
use Rattle.change_list.specs.declared.entries.Entry.{Entry}
use Rattle.change_list.proofs.Ascending.{Contains-holds_id, holds_id-Contains, held_first, first_below, ascending_rest, same_truth}

-- a list without a number
abbrev without : ℕ → List ℕ → List ℕ
without x xs = filter (λ y. not (nat_eq x y)) xs

-- at the number itself a list without it holds nothing
without_at : (x q : ℕ) (a : Bool) → nat_eq x q ≡ true → a && not (nat_eq x q) ≡ false
without_at x q a same = ap (λ b. a && not b) same ∙ and-false a

holds_without : (x : ℕ) (xs : List ℕ) (q : ℕ) → holds_id (without x xs) q ≡ holds_id xs q && not (nat_eq x q)
holds_without x [] q = refl
holds_without x (y ∷ ys) q = elim (nat_eq x y) as (λ b. nat_eq x y ≡ b
    → holds_id (cond (not b) (y ∷ without x ys) (without x ys)) q ≡ (nat_eq q y || holds_id ys q) && not (nat_eq x q)) [
      | true ↦ λ first. elim (nat_eq q y) as (λ c. nat_eq q y ≡ c → holds_id (without x ys) q ≡ (c || holds_id ys q) && not (nat_eq x q)) [
        | true ↦ λ same.
            let here : nat_eq x q ≡ true = ap (nat_eq x) (eqb-true q y same) ∙ first in
            holds_without x ys q ∙ without_at x q (holds_id ys q) here ∙ sym (without_at x q true here)
        | false ↦ λ other. holds_without x ys q
      ] refl
      | false ↦ λ first. elim (nat_eq q y) as (λ c. nat_eq q y ≡ c → c || holds_id (without x ys) q ≡ (c || holds_id ys q) && not (nat_eq x q)) [
        | true ↦ λ same. sym (ap not (ap (nat_eq x) (eqb-true q y same) ∙ first))
        | false ↦ λ other. holds_without x ys q
      ] refl
    ] refl

-- a list that doesn't hold the number is as it was
without_absent : (x : ℕ) (xs : List ℕ) → holds_id xs x ≡ false → length (without x xs) ≡ length xs
without_absent x [] e = refl
without_absent x (y ∷ ys) e = elim (nat_eq x y) as (λ b. b || holds_id ys x ≡ false → length (cond (not b) (y ∷ without x ys) (without x ys)) ≡ suc (length ys)) [
  | true ↦ λ f. absurd (let g : true ≡ false = f in cc)
  | false ↦ λ f. ap suc (without_absent x ys f)
] e

-- nothing after the first number of an ascending list is as low
absent_behind : (x : ℕ) (xs : List ℕ) → IsStrictlyIncreasing (x ∷ xs) → holds_id xs x ≡ false
absent_behind x xs up = elim (holds_id xs x) as (λ b. holds_id xs x ≡ b → b ≡ false) [
  | true ↦ λ e. absurd (omega (arith, first_below x xs up x e))
  | false ↦ λ e. refl
] refl

-- an ascending list holds a number once
length_without : (x : ℕ) (xs : List ℕ) → IsStrictlyIncreasing xs → holds_id xs x ≡ true → length xs ≡ suc (length (without x xs))
length_without x [] up e = absurd (let f : false ≡ true = e in cc)
length_without x (y ∷ ys) up e = elim (nat_eq x y) as (λ b. nat_eq x y ≡ b → b || holds_id ys x ≡ true
    → suc (length ys) ≡ suc (length (cond (not b) (y ∷ without x ys) (without x ys)))) [
      | true ↦ λ same f. ap suc (sym (without_absent x ys (ap (holds_id ys) (eqb-true x y same) ∙ absent_behind y ys up)))
      | false ↦ λ other f. ap suc (length_without x ys (ascending_rest y ys up) f)
    ] refl e

empty_list : (xs : List ℕ) → ((q : ℕ) → holds_id xs q ≡ false) → 0 ≡ length xs
empty_list [] none = refl
empty_list (x ∷ xs) none = absurd (let f : true ≡ false = sym (held_first x xs) ∙ none x in cc)

-- a touch of an id that was touched before adds none
known_adds_none : (before es : List Entry) (e : Entry) (q : ℕ) → touches before e.id ≡ true
    → cond (nat_eq e.id q) true (touches es q) && not (touches before q) ≡ touches es q && not (touches before q)
known_adds_none before es e q known = elim (nat_eq e.id q) as
    (λ b. nat_eq e.id q ≡ b → cond b true (touches es q) && not (touches before q) ≡ touches es q && not (touches before q)) [
      | true ↦ λ same.
          let here : touches before q ≡ true = ap (touches before) (sym (eqb-true e.id q same)) ∙ known in
          ap not here ∙ sym (ap (λ b. touches es q && not b) here ∙ and-false (touches es q))
      | false ↦ λ other. refl
    ] refl

-- and of another one adds it
fresh_adds_one : (before es : List Entry) (e : Entry) (q : ℕ)
    → (cond (nat_eq e.id q) true (touches es q) && not (touches before q)) && not (nat_eq e.id q) ≡ touches es q && not (cond (nat_eq e.id q) true (touches before q))
fresh_adds_one before es e q = elim (nat_eq e.id q) as (λ b. (cond b true (touches es q) && not (touches before q)) && not b ≡ touches es q
    && not (cond b true (touches before q))) [
      | true ↦ and-false (true && not (touches before q)) ∙ sym (and-false (touches es q))
      | false ↦ elim (touches es q && not (touches before q)) as (λ c. c && true ≡ c) [ true ↦ refl | false ↦ refl ]
    ]

-- the walk counts as many as a list has of the ids that are touched and weren't before
fresh_listed : (before es : List Entry) (xs : List ℕ) → IsStrictlyIncreasing xs → ((q : ℕ) → holds_id xs q ≡ touches es q && not (touches before q))
    → fresh_count before es ≡ length xs
fresh_listed before [] xs up same = empty_list xs same
fresh_listed before (e ∷ es) xs up same = elim (touches before e.id) as
    (λ b. touches before e.id ≡ b → cond b (fresh_count before es) (suc (fresh_count (e ∷ before) es)) ≡ length xs) [
      | true ↦ λ known. fresh_listed before es xs up (λ q. same q ∙ known_adds_none before es e q known)
      | false ↦ λ fresh.
          let held : holds_id xs e.id ≡ true = same e.id ∙ ap (λ b. cond b true (touches es e.id) && not (touches before e.id)) (eq-eqb e.id e.id refl) ∙ ap not fresh in
          let rest = fresh_listed (e ∷ before) es (without e.id xs) (IsStrictlyIncreasing-filter (λ y. not (nat_eq e.id y)) xs up)
          (λ q. holds_without e.id xs q ∙ ap (λ b. b && not (nat_eq e.id q)) (same q) ∙ fresh_adds_one before es e q) in
          ap suc rest ∙ sym (length_without e.id xs up held)
    ] refl

-- as many ids are touched as an ascending list of them has
pub count_listed : (es : List Entry) (xs : List ℕ) → Lists xs (λ q. touches es q ≡ true) → touched_count es ≡ length xs
count_listed es xs l = fresh_listed [] es xs l.ascending (λ q. same_truth (holds_id xs q) (touches es q) (λ h. (l.members q).0 (Contains-holds_id xs q h))
    (λ t. holds_id-Contains xs q ((l.members q).1 t)) ∙ sym (and-true (touches es q)))

-- ---- there is such a list

ascending_cons : (x : ℕ) (xs : List ℕ) → ((q : ℕ) → holds_id xs q ≡ true → x < q) → IsStrictlyIncreasing xs → IsStrictlyIncreasing (x ∷ xs)
ascending_cons x [] below up k within = absurd (omega arith)
ascending_cons x (y ∷ ys) below up zero within = below y (held_first y ys)
ascending_cons x (y ∷ ys) below up (suc k) within =
    let P : ℕ → Type 0 = λ n. slice_index (y ∷ ys) k < slice_index (x ∷ y ∷ ys) n in
    let one : suc (k + 1) ≡ suc k + 1 = omega arith in
    subst P one (up k (omega arith))

-- a number put into an ascending list
abbrev with_number : ℕ → List ℕ → List ℕ
with_number x [] = x ∷ []
with_number x (y ∷ ys) = cond (nat_lt x y) (x ∷ y ∷ ys) (y ∷ with_number x ys)

or_swap : (a b c : Bool) → a || (b || c) ≡ b || (a || c)
or_swap true true c = refl
or_swap true false c = refl
or_swap false b c = refl

holds_with_number : (x : ℕ) (ys : List ℕ) (q : ℕ) → holds_id (with_number x ys) q ≡ nat_eq q x || holds_id ys q
holds_with_number x [] q = refl
holds_with_number x (y ∷ ys) q = elim (nat_lt x y) as (λ b. holds_id (cond b (x ∷ y ∷ ys) (y ∷ with_number x ys)) q ≡ nat_eq q x || (nat_eq q y || holds_id ys q)) [
  | true ↦ refl
  | false ↦ ap (λ b. nat_eq q y || b) (holds_with_number x ys q) ∙ or_swap (nat_eq q y) (nat_eq q x) (holds_id ys q)
]

-- where the first two of three numbers are below q, so is the first where the list holds q
below_held : (y q : ℕ) (ys : List ℕ) (x : ℕ) → x < y → IsStrictlyIncreasing (y ∷ ys) → holds_id (y ∷ ys) q ≡ true → x < q
below_held y q ys x xy up = elim (nat_eq q y) as (λ b. nat_eq q y ≡ b → b || holds_id ys q ≡ true → x < q) [
  | true ↦ λ same h. omega (arith, eqb-true q y same)
  | false ↦ λ other h. omega (arith, first_below y ys up q h)
] refl

below_put : (y x : ℕ) (ys : List ℕ) (q : ℕ) → y < x → IsStrictlyIncreasing (y ∷ ys) → nat_eq q x || holds_id ys q ≡ true → y < q
below_put y x ys q yx up = elim (nat_eq q x) as (λ b. nat_eq q x ≡ b → b || holds_id ys q ≡ true → y < q) [
  | true ↦ λ same h. omega (arith, eqb-true q x same)
  | false ↦ λ other h. first_below y ys up q h
] refl

ascending_with_number : (x : ℕ) (ys : List ℕ) → IsStrictlyIncreasing ys → holds_id ys x ≡ false → IsStrictlyIncreasing (with_number x ys)
ascending_with_number x [] up absent = ascending_cons x [] (λ q h. absurd (let f : false ≡ true = h in cc)) up
ascending_with_number x (y ∷ ys) up gone = elim (nat_eq x y) as (λ c. nat_eq x y ≡ c → c || holds_id ys x ≡ false → IsStrictlyIncreasing (with_number x (y ∷ ys))) [
  | true ↦ λ same absent. absurd (let f : true ≡ false = absent in cc)
  | false ↦ λ other absent. elim (nat_lt x y) as (λ b. nat_lt x y ≡ b → IsStrictlyIncreasing (cond b (x ∷ y ∷ ys) (y ∷ with_number x ys))) [
    | true ↦ λ e. ascending_cons x (y ∷ ys) (λ q h. below_held y q ys x (ltb-true x y e) up h) up
    | false ↦ λ e.
        let apart : x ≡ y → ⊥ = λ f. let g : true ≡ false = sym (eq-eqb x y f) ∙ other in cc in
        let above : y < x = omega (arith, ltb-false x y e, apart) in
        ascending_cons y (with_number x ys) (λ q h. below_put y x ys q above up (sym (holds_with_number x ys q) ∙ h)) (ascending_with_number x ys (ascending_rest y ys up) absent)
  ] refl
] refl gone

-- the ids of touches, listed
record HasIds (es : List Entry) (xs : List ℕ) : Type 0 where
  ascending : IsStrictlyIncreasing xs
  held : (q : ℕ) → holds_id xs q ≡ touches es q

-- the test with both sides the other way round
eq_other_way : (a b : ℕ) → nat_eq a b ≡ nat_eq b a
eq_other_way a b = same_truth (nat_eq a b) (nat_eq b a) (λ e. eq-eqb b a (sym (eqb-true a b e))) (λ e. eq-eqb a b (sym (eqb-true b a e)))

ids_of : (es : List Entry) → (xs : List ℕ) × HasIds es xs
ids_of [] = ([], record { ascending = λ k within. absurd (omega arith); held = λ q. refl })
ids_of (e ∷ es) =
    let before = ids_of es in
    let xs = before.0 in
    elim (holds_id xs e.id) as (λ b. holds_id xs e.id ≡ b → (ys : List ℕ) × HasIds (e ∷ es) ys) [
      | true ↦ λ known. (
        xs,
        record {
          ascending = before.1.ascending;
          held = λ q. elim (nat_eq e.id q) as (λ c. nat_eq e.id q ≡ c → holds_id xs q ≡ cond c true (touches es q)) [
            | true ↦ λ same. ap (holds_id xs) (sym (eqb-true e.id q same)) ∙ known
            | false ↦ λ other. before.1.held q
          ] refl;
        },
      )
      | false ↦ λ fresh. (
        with_number e.id xs,
        record {
          ascending = ascending_with_number e.id xs before.1.ascending fresh;
          held = λ q. holds_with_number e.id xs q ∙ ap (λ b. b || holds_id xs q) (eq_other_way q e.id)
              ∙ elim (nat_eq e.id q) as (λ c. c || holds_id xs q ≡ cond c true (touches es q)) [ true ↦ refl | false ↦ before.1.held q ];
        },
      )
    ] refl

-- there is an ascending list of the ids that are touched
pub ids_listed : (es : List Entry) → (xs : List ℕ) × Lists xs (λ q. touches es q ≡ true)
ids_listed es =
    let ids = ids_of es in (
      ids.0,
      record {
        ascending = ids.1.ascending;
        members = λ q. ((λ m. sym (ids.1.held q) ∙ holds_id-Contains ids.0 q m), (λ t. Contains-holds_id ids.0 q (ids.1.held q ∙ t)));
      },
    )
