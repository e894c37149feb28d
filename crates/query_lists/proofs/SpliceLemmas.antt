-- A list that is spliced is the new one.
use Rattle.std.proofs.Common.{◌≡◌, ℕ, ◌+◌, List, [], ◌∷◌, ◌++◌, length, drop, filter, insert, Contains, true, false, not, cond}
use Rattle.std.proofs.Common.{refl, sym, ap, subst, ◌∙◌, append_assoc}
use Rattle.std.specs.List.{enumerate_from}
use Rattle.std.proofs.lemmas.List.{take_at, drop_at, length_push}
use Rattle.change_list.specs.Copy.{holds_id}
use Rattle.query_lists.specs.Splices.{without_numbers, with_inserted, spliced, added_in}
use Rattle.query_lists.proofs.MemberLemmas.{contains_from, same_kept}

-- those of the numbers among these, with their indices in a list that goes on at this one
abbrev added_from : ℕ → List ℕ → List ℕ → List (ℕ × ℕ)
added_from index numbers list = filter (λ (e : ℕ × ℕ). holds_id numbers e.1) (enumerate_from index list)

-- put in at the end of what stands before
put_behind : (before rest : List ℕ) (n : ℕ) → insert (before ++ rest) (length before) n ≡ (before ++ n ∷ []) ++ rest
put_behind before rest n =
    ap (λ (l : List ℕ). l ++ n ∷ drop (length before) (before ++ rest)) (take_at before rest (length before) refl)
    ∙ ap (λ (l : List ℕ). before ++ n ∷ l) (drop_at before rest (length before) refl)
    ∙ sym (append_assoc before (n ∷ []) rest)

-- what is left of a list, with the others put in at their indices, is the list
put_back : (numbers before list : List ℕ) → with_inserted (before ++ without_numbers numbers list) (added_from (length before) numbers list) ≡ before ++ list
put_back numbers before [] = refl
put_back numbers before (n ∷ rest) =
    let left : List ℕ = without_numbers numbers rest in
    let added : List (ℕ × ℕ) = added_from (length before + 1) numbers rest in
    let more : List ℕ = before ++ n ∷ [] in
    let one_more : length before + 1 ≡ length more = sym (length_push before n) in
    let next : with_inserted (more ++ left) added ≡ more ++ rest =
    subst (λ k. with_inserted (more ++ left) (added_from k numbers rest) ≡ more ++ rest) (sym one_more) (put_back numbers more rest) in
    elim (holds_id numbers n) as (λ b. with_inserted (before ++ cond (not b) (n ∷ left) left) (cond b ((length before, n) ∷ added) added) ≡ before ++ n ∷ rest) [
      | true ↦ ap (λ (l : List ℕ). with_inserted l added) (put_behind before left n) ∙ next ∙ append_assoc before (n ∷ []) rest
      | false ↦ ap (λ (l : List ℕ). with_inserted l added) (sym (append_assoc before (n ∷ []) left)) ∙ next ∙ append_assoc before (n ∷ []) rest
    ]

pub splice_is : (old new touched removed : List ℕ) → without_numbers touched old ≡ without_numbers touched new
    → ((n : ℕ) → Contains old n → holds_id removed n ≡ holds_id touched n) → spliced old removed (added_in touched new) ≡ new
splice_is old new touched removed same are_removed =
    ap (λ (l : List ℕ). with_inserted l (added_in touched new))
    (same_kept (λ n. not (holds_id removed n)) (λ n. not (holds_id touched n)) old (λ n h. ap not (are_removed n (contains_from old n h))) ∙ same)
    ∙ put_back touched [] new
