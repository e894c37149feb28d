-- What is told of the ids that were touched.
use Rattle.std.proofs.Common.{◌≡◌, ℕ, ◌+◌, List, [], ◌∷◌, length, map, Bool, true, false, if◌then◌else◌, Option, Result, Ok, Err, refl, sym, ap, ◌∙◌, codes}
use Rattle.serde_json.specs.Data.{Data, Members, no_members, number, unsigned, object, put}
use Rattle.serde_json.specs.View.{items_of}
use Rattle.serde_json.specs.Written.{has_float, items_have_float, members_have_float}
use Rattle.jmap_arguments.specs.Ids.{id_data}
use Rattle.jmap_arguments.specs.declared.method_error.MethodError.{MethodError}
use Rattle.jmap_arguments.specs.declared.method_error.MethodError.TheVariants.{TooManyChanges}
use Rattle.query_core.specs.Answers.{total_if}
use Rattle.query_changes.specs.Changes.{were_there, now_in, count_told, is_no_more_than, added_item, told_members, query_changes_data}
use Rattle.query_changes.specs.reading.Found.{told_or_refused}

-- ---- integers alone

whole_ids : (letter : ℕ) (numbers : List ℕ) → items_have_float (items_of (map (id_data letter) numbers)) ≡ false
whole_ids letter [] = refl
whole_ids letter (n ∷ ns) = whole_ids letter ns

whole_added : (letter : ℕ) (added : List (ℕ × ℕ)) → items_have_float (items_of (map (added_item letter) added)) ≡ false
whole_added letter [] = refl
whole_added letter (e ∷ es) = whole_added letter es

whole_total : (counts : Bool) (total : ℕ) → members_have_float (total_if counts total) ≡ false
whole_total true total = refl
whole_total false total = refl

whole_data : (letter : ℕ) (named now removed : List ℕ) (added : List (ℕ × ℕ)) (counts : Bool) (total : ℕ)
    → has_float (object (told_members letter named now removed added (total_if counts total))) ≡ false
whole_data letter named now removed added counts total = rw (whole_added letter added, whole_ids letter removed, whole_total counts total) refl

-- ---- the answer

-- the total stands behind the other members
with_total : (letter : ℕ) (named now removed : List ℕ) (added : List (ℕ × ℕ)) (counts : Bool) (total : ℕ)
    → let others : Members = told_members letter named now removed added no_members in
    (if counts then put (codes "total") (number (unsigned total)) others else others) ≡ told_members letter named now removed added (total_if counts total)
with_total letter named now removed added true total = refl
with_total letter named now removed added false total = refl

module _ (letter : ℕ) (named now : List ℕ) (most : Option ℕ) (counts : Bool) (touched : List (ℕ × Bool)) (list removed : List ℕ) (added : List (ℕ × ℕ)) (within : Bool)
    (are_removed : removed ≡ were_there touched) (are_added : added ≡ now_in list touched) (test_is : within ≡ is_no_more_than most (length removed + length added)) where
  abbrev answered : Bool → Result Data MethodError
  answered b = if b then Ok (query_changes_data letter named now counts touched list) else Err TooManyChanges

  count_is : length removed + length added ≡ count_told touched list
  count_is = ap (λ (l : List ℕ). length l + length added) are_removed ∙ ap (λ (l : List (ℕ × ℕ)). length (were_there touched) + length l) are_added

  by_test : told_or_refused letter named now most counts touched list ≡ answered within
  by_test = ap answered (sym (test_is ∙ ap (λ (n : ℕ). is_no_more_than most n) count_is))

  -- more would be told than is asked
  pub refuses : within ≡ false → told_or_refused letter named now most counts touched list ≡ Err TooManyChanges
  refuses is = by_test ∙ ap answered is

  module _ (before after : Members) (are : before ≡ told_members letter named now removed added no_members)
      (counted : after ≡ (if counts then put (codes "total") (number (unsigned (length list))) before else before)) where
    members_are : after ≡ told_members letter named now (were_there touched) (now_in list touched) (total_if counts (length list))
    members_are =
        counted ∙ ap (λ (m : Members). if counts then put (codes "total") (number (unsigned (length list))) m else m) are
        ∙ with_total letter named now removed added counts (length list)
        ∙ ap (λ (l : List ℕ). told_members letter named now l added (total_if counts (length list))) are_removed
        ∙ ap (λ (l : List (ℕ × ℕ)). told_members letter named now (were_there touched) l (total_if counts (length list))) are_added

    -- these are told
    pub tells : within ≡ true → told_or_refused letter named now most counts touched list ≡ Ok (object after)
    tells is = by_test ∙ ap answered is ∙ ap (λ (m : Members). let r : Result Data MethodError = Ok (object m) in r) (sym members_are)

    -- with integers alone
    pub tells_whole : has_float (object after) ≡ false
    tells_whole =
        ap (λ (m : Members). has_float (object m)) members_are ∙ whole_data letter named now (were_there touched) (now_in list touched) counts (length list)
