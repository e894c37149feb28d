-- Lists of rows that are the same but for those that were touched, and how the one leads to the other.
use Rattle.std.proofs.Common.{◌≡◌, ◌≢◌, ◌≤◌, inl, inr, ℕ, List, [], ◌∷◌, filter, Contains, All, Bool, true, false, not, ◌||◌, cond, IsTrue, ◌↔◌, nat_eq, eqb-true}
use Rattle.std.proofs.Common.{Some, None, refl, sym, ap, subst, ◌∙◌, nat_cmp}
use Rattle.std.specs.Cmp.{IsTotalOrder}
use Rattle.std.specs.List.{AllByRecursion}
use Rattle.std.specs.List.Sorted.{IsStrictlySortedBy}
use Rattle.std.specs.Ordering.{ordering_then}
use Rattle.std.specs.declared.cmp.Ordering.{Ordering}
use Rattle.std.specs.declared.cmp.Ordering.TheVariants.{Less}
use Rattle.std.proofs.lemmas.Cmp.{nat_cmp_total, on_total, then_total}
use Rattle.std.proofs.lemmas.List.Elements.{All-head, All-tail}
use Rattle.std.proofs.lemmas.List.Kept.{IsStrictlySortedBy-filter}
use Rattle.change_list.specs.Advance.{row_at}
use Rattle.change_list.specs.Copy.{TouchedTellsMaps, holds_id}
use Rattle.change_list.specs.History.{entries_of}
use Rattle.change_list.specs.TouchedIds.{AreTouched}
use Rattle.change_list.proofs.Ascending.{holds_id-Contains}
use Rattle.change_list.proofs.MapLaws.{touched_tells}
use Rattle.served_maps.specs.Past.{Past, IsPast, had_at, place_now}
use Rattle.query_lists.specs.Ordered.{IsQueryList, numbers_of, row_cmp}
use Rattle.query_lists.specs.Splices.{spliced, without_numbers}
use Rattle.query_lists.proofs.MemberLemmas.{IsMember, contains_from, has_from, has_kept, kept_has, same_members}
use Rattle.query_lists.proofs.SpliceLemmas.{splice_is}
use Rattle.query_changes.specs.Changes.{ids_of, now_in, were_there}

-- ---- rows in order

module _ {K : Type 0} (R Q : K → K → Ordering) (same : (a b : K) → R a b ≡ Q a b) where
  less : (x : K) (ys : List K) → AllByRecursion (λ (y : K). R x y ≡ Less) ys → AllByRecursion (λ (y : K). Q x y ≡ Less) ys
  less x [] all = tt
  less x (y ∷ ys) all = (sym (same x y) ∙ all.0, less x ys all.1)

  -- what is in order is so by an order that is the same
  reordered : (xs : List K) → IsStrictlySortedBy R xs → IsStrictlySortedBy Q xs
  unfolding IsStrictlySortedBy
  reordered [] up = tt
  reordered (x ∷ xs) up = (less x xs up.0, reordered xs up.1)

module _ {V : Type 0} where
  -- the numbers of rows that are kept by their numbers
  numbers-filter : (p : ℕ → Bool) (rows : List (ℕ × V)) → numbers_of (filter (λ (e : ℕ × V). p e.0) rows) ≡ filter p (numbers_of rows)
  numbers-filter p [] = refl
  numbers-filter p (e ∷ es) =
      let kept : List (ℕ × V) = filter (λ (r : ℕ × V). p r.0) es in
      elim (p e.0) as (λ b. numbers_of (cond b (e ∷ kept) kept) ≡ cond b (e.0 ∷ filter p (numbers_of es)) (filter p (numbers_of es))) [
        | true ↦ ap (λ (l : List ℕ). e.0 ∷ l) (numbers-filter p es)
        | false ↦ numbers-filter p es
      ]

  -- what holds of each row's number holds of each number
  at_number : (P : ℕ → Type 0) (rows : List (ℕ × V)) → ((e : ℕ × V) → IsMember e rows → P e.0) → (n : ℕ) → IsMember n (numbers_of rows) → P n
  at_number P [] each n h = absurd h
  at_number P (e ∷ es) each n (inl is) = subst P is (each e (inl refl))
  at_number P (e ∷ es) each n (inr h) = at_number P es (λ r m. each r (inr m)) n h

  module _ (ids : List ℕ) (cmp : V → V → Ordering) (total : IsTotalOrder cmp) where
    abbrev stays : ℕ × V → Bool
    stays e = not (holds_id ids e.0)

    row_total : IsTotalOrder (row_cmp cmp)
    row_total = then_total (on_total (λ (e : ℕ × V). e.1) total) (on_total (λ (e : ℕ × V). e.0) nat_cmp_total)

    module _ (old new : List (ℕ × V)) (up : IsStrictlySortedBy (row_cmp cmp) old) (vp : IsStrictlySortedBy (row_cmp cmp) new)
        (forth : (e : ℕ × V) → stays e ≡ true → IsMember e old → IsMember e new) (back : (e : ℕ × V) → stays e ≡ true → IsMember e new → IsMember e old) where
      kept_same : filter stays old ≡ filter stays new
      kept_same =
          same_members (row_cmp cmp) row_total (filter stays old) (filter stays new)
          (IsStrictlySortedBy-filter (row_cmp cmp) stays old up) (IsStrictlySortedBy-filter (row_cmp cmp) stays new vp)
          (λ e h. let k : IsMember e old × (stays e ≡ true) = has_kept stays old e h in kept_has stays new e k.1 (forth e k.1 k.0))
          (λ e h. let k : IsMember e new × (stays e ≡ true) = has_kept stays new e h in kept_has stays old e k.1 (back e k.1 k.0))

      -- two lists that have the same rows but for some ids are the same but for these
      left_same : without_numbers ids (numbers_of old) ≡ without_numbers ids (numbers_of new)
      left_same =
          sym (numbers-filter (λ (n : ℕ). not (holds_id ids n)) old) ∙ ap (numbers_of {V = V}) kept_same ∙ numbers-filter (λ (n : ℕ). not (holds_id ids n)) new

-- ---- ids that were there

first_told : (x : ℕ × Bool) (b : Bool) (kept : List (ℕ × Bool)) (all : List ℕ) (n : ℕ) → (x.0 ≡ n → b ≡ true) → holds_id (ids_of kept) n ≡ holds_id all n
    → holds_id (ids_of (cond b (x ∷ kept) kept)) n ≡ (nat_eq n x.0 || holds_id all n)
first_told x true kept all n is rest = ap (λ (r : Bool). nat_eq n x.0 || r) rest
first_told x false kept all n is rest =
    elim (nat_eq n x.0) as (λ b. nat_eq n x.0 ≡ b → holds_id (ids_of kept) n ≡ (b || holds_id all n)) [
      | true ↦ λ same. absurd (let f : false ≡ true = is (sym (eqb-true n x.0 same)) in cc)
      | false ↦ λ other. rest
    ] refl

module _ {V : Type 0} (p : Past V) (past : IsPast p) (place : ℕ) (within : place ≤ place_now p) (touched : List (ℕ × Bool))
    (are : AreTouched (entries_of p.touches) place touched) where
  tells : TouchedTellsMaps p.touches place touched
  tells = touched_tells p.touches place touched past.history within are

  -- of an id that was there, whether it is told is whether it was touched
  told_are : (xs : List (ℕ × Bool)) (n : ℕ) → had_at p place n ≢ None → All (λ (x : ℕ × Bool). IsTrue x.1 ↔ (had_at p place x.0 ≢ None)) xs
      → holds_id (were_there xs) n ≡ holds_id (ids_of xs) n
  told_are [] n there all = refl
  told_are (x ∷ xs) n there all =
      let P : ℕ × Bool → Type 0 = λ y. IsTrue y.1 ↔ (had_at p place y.0 ≢ None) in
      let N : ℕ → Type 0 = λ m. had_at p place m ≢ None in
      first_told x x.1 (filter (λ (t : ℕ × Bool). t.1) xs) (ids_of xs) n (λ is. (All-head P x xs all).1 (subst N (sym is) there)) (told_are xs n there (All-tail P x xs all))

  not_touched : (n : ℕ) → not (holds_id (ids_of touched) n) ≡ true → ¬ Contains (ids_of touched) n
  not_touched n stay there =
      let held : holds_id (ids_of touched) n ≡ true = holds_id-Contains (ids_of touched) n there in
      let f : false ≡ true = sym (ap not held) ∙ stay in
      cc

  module _ (earlier : List (ℕ × V)) (as_then : (n : ℕ) → row_at earlier n ≡ had_at p place n) where
    -- a row that wasn't touched is as it was
    row_stays : (n : ℕ) → not (holds_id (ids_of touched) n) ≡ true → row_at earlier n ≡ row_at p.now n
    row_stays n stay = as_then n ∙ sym (tells.as_it_was n (not_touched n stay)) ∙ sym (past.last n)

    module _ (Took Takes : ℕ × V → Type 0) (forth : (e : ℕ × V) → Took e → Takes e) (back : (e : ℕ × V) → Takes e → Took e) (was cmp : V → V → Ordering)
        (same : (u v : V) → was u v ≡ cmp u v) (total : IsTotalOrder cmp) (old new : List (ℕ × V)) (is_old : IsQueryList earlier Took was old)
        (is_new : IsQueryList p.now Takes cmp new) where
      ascends : IsStrictlySortedBy (row_cmp cmp) old
      ascends =
          reordered (row_cmp was) (row_cmp cmp) (λ (a b : ℕ × V). ap (λ (o : Ordering). ordering_then o (nat_cmp a.0 b.0)) (same a.1 b.1)) old is_old.ascends

      goes_over : (e : ℕ × V) → not (holds_id (ids_of touched) e.0) ≡ true → IsMember e old → IsMember e new
      goes_over e stay h =
          let row : (row_at earlier e.0 ≡ Some e.1) × Took e = (is_old.members e).0 (contains_from old e h) in
          has_from new e ((is_new.members e).1 (sym (row_stays e.0 stay) ∙ row.0, forth e row.1))

      comes_from : (e : ℕ × V) → not (holds_id (ids_of touched) e.0) ≡ true → IsMember e new → IsMember e old
      comes_from e stay h =
          let row : (row_at p.now e.0 ≡ Some e.1) × Takes e = (is_new.members e).0 (contains_from new e h) in
          has_from old e ((is_old.members e).1 (row_stays e.0 stay ∙ row.0, back e row.1))

      was_there : (n : ℕ) → Contains (numbers_of old) n → had_at p place n ≢ None
      was_there n h =
          at_number (λ m. had_at p place m ≢ None) old
          (λ e m none.
          let row : row_at earlier e.0 ≡ Some e.1 = ((is_old.members e).0 (contains_from old e m)).0 in
          let f : None ≡ Some e.1 = sym none ∙ sym (as_then e.0) ∙ row in
          cc)
          n (has_from (numbers_of old) n h)

      -- the list of the rows that there were, spliced, is the list of now
      pub splices_to_now : spliced (numbers_of old) (were_there touched) (now_in (numbers_of new) touched) ≡ numbers_of new
      splices_to_now =
          splice_is (numbers_of old) (numbers_of new) (ids_of touched) (were_there touched)
          (left_same (ids_of touched) cmp total old new ascends is_new.ascends goes_over comes_from)
          (λ n h. told_are touched n (was_there n h) tells.presence)
