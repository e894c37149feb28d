-- The Emails that are asked are there.
use Rattle.std.proofs.Common.{◌≡◌, arith, ℕ, List, [], ◌∷◌, Bool, true, false, cond, if◌then◌else◌, nat_lt, nat_cmp, length, Option, Some, None, Result, Ok, Err, refl, sym, subst}
use Rattle.std.specs.BTreeMap.{is_at}
use Rattle.std.specs.Cmp.{eq_by_cmp_equiv}
use Rattle.std.specs.List.{All, Contains, filter_map, find, cons_option}
use Rattle.std.specs.Map.{lookup, keys_of}
use Rattle.std.specs.Option.{IsSome, IfSome}
use Rattle.std.proofs.lemmas.Cmp.{nat_cmp_total}
use Rattle.std.proofs.lemmas.List.Elements.{All-cons, All-weaker, All-contains_itself}
use Rattle.std.proofs.lemmas.Map.Views.{IsSome-lookup_from_Contains}
use Rattle.jmap_arguments.specs.Gets.{NumbersAsked, number_with, asked_with, numbers_asked, distinct_ids}
use Rattle.jmap_arguments.specs.declared.method_error.MethodError.{MethodError}
use Rattle.jmap_arguments.specs.declared.method_error.MethodError.TheVariants.{RequestTooLarge}
use Rattle.jmap_arguments.proofs.IdLemmas.{is_here}

module _ {X : Type 0} where
  -- the number has a row
  abbrev pub HasRow : List (ℕ × X) → ℕ → Type 0
  HasRow rows n = IsSome (lookup (is_at (nat_cmp n)) rows)

  one_row_more : (n : ℕ) (e : ℕ × X) (es : List (ℕ × X)) → HasRow es n → HasRow (e ∷ es) n
  one_row_more n e es there = elim (is_at (nat_cmp n) e.0) as (λ b. IsSome (cond b (Some e.1) (lookup (is_at (nat_cmp n)) es))) [ true ↦ refl | false ↦ there ]

  -- a number that is found among those of the rows has one
  found_row : (test : ℕ → Bool) (rows : List (ℕ × X)) (n : ℕ) → find test (keys_of rows) ≡ Some n → HasRow rows n
  found_row test [] n is = absurd (let none : None ≡ Some n = is in cc)
  found_row test (e ∷ es) n is = elim (test e.0) as (λ b. cond b (Some e.0) (find test (keys_of es)) ≡ Some n → HasRow (e ∷ es) n) [
    | true ↦ λ same.
        let first : Some e.0 ≡ Some n = same in
        let at : e.0 ≡ n = cc in
        let P : Bool → Type 0 = λ b. IsSome (cond b (Some e.1) (lookup (is_at (nat_cmp n)) es)) in
        subst P (sym (is_here n e.0 at)) refl
    | false ↦ λ rest. one_row_more n e es (found_row test es n rest)
  ] is

  with_one : (rows : List (ℕ × X)) (o : Option ℕ) (ns : List ℕ) → IfSome o (HasRow rows) → All (HasRow rows) ns → All (HasRow rows) (cons_option o ns)
  with_one rows None ns one all = all
  with_one rows (Some n) ns one all = All-cons (HasRow rows) n ns one all

  by_id : (rows : List (ℕ × X)) (letter : ℕ) (id : List ℕ) → IfSome (number_with letter (keys_of rows) id) (HasRow rows)
  by_id rows letter id = elim (number_with letter (keys_of rows) id) as (λ o. number_with letter (keys_of rows) id ≡ o → IfSome o (HasRow rows)) [
    | None ↦ λ none. tt
    | Some n ↦ λ found. found_row _ rows n found
  ] refl

  by_ids : (rows : List (ℕ × X)) (letter : ℕ) (ids : List (List ℕ)) → All (HasRow rows) (filter_map (number_with letter (keys_of rows)) ids)
  by_ids rows letter [] = λ k d below. absurd (omega (arith, below))
  by_ids rows letter (id ∷ ids) = with_one rows (number_with letter (keys_of rows) id) (filter_map (number_with letter (keys_of rows)) ids) (by_id rows letter id)
      (by_ids rows letter ids)

  all_rows : (rows : List (ℕ × X)) → All (HasRow rows) (keys_of rows)
  all_rows rows = All-weaker (Contains (keys_of rows)) (HasRow rows) (λ n there. IsSome-lookup_from_Contains (eq_by_cmp_equiv nat_cmp_total) n rows there)
      (keys_of rows) (All-contains_itself (keys_of rows))

  all_if : (many : Bool) (rows : List (ℕ × X)) (asked : NumbersAsked)
      → (let r : Result NumbersAsked MethodError = if many then Err RequestTooLarge else Ok (record { numbers = keys_of rows; missing = [] }) in r) ≡ Ok asked
      → All (HasRow rows) asked.numbers
  all_if true rows asked is = absurd (cc)
  all_if false rows asked is =
      let all : NumbersAsked = record { numbers = keys_of rows; missing = [] } in
      let same : all ≡ asked = cc in
      let P : NumbersAsked → Type 0 = λ a. All (HasRow rows) a.numbers in
      subst P same (all_rows rows)

  -- the numbers that are asked have rows
  pub asked_have_rows : (letter : ℕ) (rows : List (ℕ × X)) (ids : Option (List (List ℕ))) (asked : NumbersAsked) → numbers_asked letter (keys_of rows) ids ≡ Ok asked
      → All (HasRow rows) asked.numbers
  asked_have_rows letter rows None asked is = all_if (nat_lt 500 (length (keys_of rows))) rows asked is
  asked_have_rows letter rows (Some ids) asked is =
      let same : asked_with letter (keys_of rows) (distinct_ids ids) ≡ asked = cc in
      let P : NumbersAsked → Type 0 = λ a. All (HasRow rows) a.numbers in
      subst P same (by_ids rows letter (distinct_ids ids))

-- a number with a row isn't without one
pub row_or_none : {X : Type 0} (rows : List (ℕ × X)) (n : ℕ) → HasRow rows n → None ≡ lookup (is_at (nat_cmp n)) rows → ⊥
row_or_none {X} rows n there none =
    let P : Option X → Type 0 = λ o. IsSome o in
    let never : IsSome {T = X} None = subst P (sym none) there in
    cc
