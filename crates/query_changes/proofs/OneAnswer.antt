-- A queryChanges has one answer.
use Rattle.std.proofs.Common.{◌≡◌, ◌<◌, ◌^◌, ℕ, List, [], ◌∷◌, length, map, All, Bool, true, false, Result, Ok, Err, refl, sym, ap, ◌∙◌, subst, arith}
use Rattle.std.proofs.lemmas.List.Elements.{All-head, All-tail}
use Rattle.serde_json.specs.Data.{Data}
use Rattle.change_list.specs.TouchedIds.{AreTouched}
use Rattle.change_list.specs.Touches.{between, there_at, touches}
use Rattle.change_list.specs.declared.entries.Entry.{Entry}
use Rattle.change_list.proofs.Ascending.{same_listed}
use Rattle.jmap_arguments.specs.declared.method_error.MethodError.{MethodError}
use Rattle.jmap_arguments.proofs.StateParts.{one_place}
use Rattle.query_arguments.specs.Asked.{QueryChangesMeant}
use Rattle.query_changes.specs.Changes.{ids_of, count_told, is_no_more_than, found_data, FoundChanges, RefusedOr}
use Rattle.query_changes.specs.Changes.{AnswersQueryChanges, ReadsMore, NamesNoState, TooMany, Answered}

not_both : (b : Bool) → b ≡ true → b ≡ false → ⊥
not_both b holds fails = let f : true ≡ false = sym holds ∙ fails in cc

-- ---- what was touched

module _ (h : List Entry) (place : ℕ) where
  abbrev seen : ℕ → ℕ × Bool
  seen q = (q, there_at h place q)

  -- ids with whether they were there are known by the ids
  by_ids : (xs : List (ℕ × Bool)) → All (λ (x : ℕ × Bool). x.1 ≡ there_at h place x.0) xs → xs ≡ map seen (ids_of xs)
  by_ids [] all = refl
  by_ids (x ∷ xs) all =
      let P : ℕ × Bool → Type 0 = λ y. y.1 ≡ there_at h place y.0 in
      let pair : Bool → ℕ × Bool = λ b. (x.0, b) in
      ap (λ (b : Bool). pair b ∷ xs) (All-head P x xs all) ∙ ap (λ (l : List (ℕ × Bool)). seen x.0 ∷ l) (by_ids xs (All-tail P x xs all))

  one_touched : (xs ys : List (ℕ × Bool)) → AreTouched h place xs → AreTouched h place ys → xs ≡ ys
  one_touched xs ys a b =
      by_ids xs a.presence ∙ ap (map seen) (same_listed (ids_of xs) (ids_of ys) (λ q. touches (between h place (length h)) q ≡ true) a.ids b.ids)
      ∙ sym (by_ids ys b.presence)

-- ---- the answer

module _ {C S : Type 0} (letter epoch : ℕ) (h : List Entry) (calculable : QueryChangesMeant C S → Bool) (IsList : QueryChangesMeant C S → List ℕ → Type 0)
    (few : length h < 2 ^ 64) (q : QueryChangesMeant C S) (one_list : (a b : List ℕ) → IsList q a → IsList q b → a ≡ b) where
  abbrev Found : Type 0
  Found = FoundChanges epoch h IsList q

  abbrev IsAnswer : Result Data MethodError → Type 0
  IsAnswer r = AnswersQueryChanges letter epoch h calculable IsList q r

  same_touched : (f g : Found) → f.touched ≡ g.touched
  same_touched f g =
      let P : ℕ → Type 0 = λ n. AreTouched h n g.touched in
      let same : f.place ≡ g.place =
      one_place epoch f.place g.place (omega (arith, few, f.named.to_last)) (omega (arith, few, g.named.to_last)) (sym f.named.text_is ∙ g.named.text_is) in
      one_touched h f.place f.touched g.touched f.are_touched (subst P (sym same) g.are_touched)

  -- what tells of what was touched and of the list tells the same
  same_told : {X : Type 0} (tell : List (ℕ × Bool) → List ℕ → X) (f g : Found) → tell f.touched f.list ≡ tell g.touched g.list
  same_told tell f g =
      ap (λ (t : List (ℕ × Bool)). tell t f.list) (same_touched f g) ∙ ap (λ (l : List ℕ). tell g.touched l) (one_list f.list g.list f.is_list g.is_list)

  abbrev within : List (ℕ × Bool) → List ℕ → Bool
  within touched list = is_no_more_than q.most (count_told touched list)

  too_many_or_not : (f g : Found) → within f.touched f.list ≡ false → within g.touched g.list ≡ true → ⊥
  too_many_or_not f g many few_enough = not_both (within f.touched f.list) (same_told within f g ∙ few_enough) many

  abbrev told : List (ℕ × Bool) → List ℕ → Result Data MethodError
  told touched list = Ok (found_data letter epoch h q touched list)

  pub one_of : (r s : Result Data MethodError) → IsAnswer r → IsAnswer s → r ≡ s
  one_of _ _ (ReadsMore is) (ReadsMore js) = refl
  one_of _ _ (ReadsMore is) (NamesNoState none) = refl
  one_of _ _ (ReadsMore is) (TooMany g can many) = absurd (not_both (calculable q) can is)
  one_of _ _ (ReadsMore is) (Answered g can js) = absurd (not_both (calculable q) can is)
  one_of _ _ (NamesNoState none) (ReadsMore js) = refl
  one_of _ _ (NamesNoState none) (NamesNoState nor) = refl
  one_of _ _ (NamesNoState none) (TooMany g can many) = absurd (none g.place g.named)
  one_of _ _ (NamesNoState none) (Answered g can js) = absurd (none g.place g.named)
  one_of _ _ (TooMany f may many) (ReadsMore js) = absurd (not_both (calculable q) may js)
  one_of _ _ (TooMany f may many) (NamesNoState none) = absurd (none f.place f.named)
  one_of _ _ (TooMany f may many) (TooMany g can more) = refl
  one_of _ _ (TooMany f may many) (Answered g can js) = absurd (too_many_or_not f g many js)
  one_of _ _ (Answered f may is) (ReadsMore js) = absurd (not_both (calculable q) may js)
  one_of _ _ (Answered f may is) (NamesNoState none) = absurd (none f.place f.named)
  one_of _ _ (Answered f may is) (TooMany g can many) = absurd (too_many_or_not g f many is)
  one_of _ _ (Answered f may is) (Answered g can js) = same_told told f g

-- ---- the arguments

pub one_reply : {Q : Type 0} (IsAnswer : Q → Result Data MethodError → Type 0) (asked : Result Q MethodError)
    → ((q : Q) (r s : Result Data MethodError) → IsAnswer q r → IsAnswer q s → r ≡ s)
    → (r s : Result Data MethodError) → RefusedOr IsAnswer asked r → RefusedOr IsAnswer asked s → r ≡ s
one_reply IsAnswer (Ok q) one r s a b = one q r s a b
one_reply IsAnswer (Err e) one r s a b = a ∙ sym b
