-- A new Email comes into the index id by id, and its Thread is found meanwhile.
use Rattle.std.proofs.Common.{◌≡◌, ℕ, Bool, true, false, ◌&&◌, cond, eqb, List, [], ◌∷◌, refl, sym, ap, ◌∙◌, subst, Option, Some, None}
use Rattle.std.specs.List.Sorted.{IsStrictlySortedBy}
use Rattle.std.specs.Ordering.{nat_cmp}
use Rattle.std.specs.Option.{MatchOption, unwrap_or}
use Rattle.thread_rule.specs.Ids.{ids_in}
use Rattle.thread_rule.specs.Threads.{Members, IsThreadOf, Founds}
use Rattle.thread_rule.specs.reading.Keys.{base_hasher, keys_under}
use Rattle.thread_rule.specs.reading.Index.{EntryLists, front, list_at, entry_cmp, emails_at, has_entry, has_key, IsIndexOf, first_thread}
use Rattle.thread_rule.proofs.IndexLemmas.{SetsSoFar, numbers_ascend}
use Rattle.thread_rule.proofs.SearchLemmas.{Covers, key_of, joins, passes}

-- what the ids before the rest found, or that they found nothing
abbrev pub FindsSoFar : Members → List ℕ → ℕ → List (List ℕ) → List ℕ → Option ℕ → Type 0
FindsSoFar members base number ids rest None = (thread : ℕ) → IsThreadOf members base number (ids_in rest) thread → IsThreadOf members base number ids thread
FindsSoFar members base number ids rest (Some thread) = IsThreadOf members base number ids thread

-- of these ids the ones before the rest are in the index, and looked up
pub record JoinsSoFar (old new : EntryLists) (members : Members) (secret : ℕ) (base : List ℕ) (number : ℕ) (ids : List (List ℕ)) (rest : List ℕ) (found : Option ℕ) : Type 0 where
  pub sets : SetsSoFar old new (base_hasher secret base) ids rest number true
  pub finds : FindsSoFar members base number ids rest found

-- where entries were added alone, each that was there is
covers_more : (secret : ℕ) (old new : EntryLists) (members : Members) (base : List ℕ) (number : ℕ) (ids : List (List ℕ)) (rest : List ℕ) → IsIndexOf secret old members
    → SetsSoFar old new (base_hasher secret base) ids rest number true → Covers secret new members
covers_more secret old new members base number ids rest i far key email h =
    far.sets key email ∙ kept (has_key (keys_under (base_hasher secret base) far.done) key && eqb number email) (has_entry old key email) (i key email ∙ h)
  where
    kept : (q e : Bool) → e ≡ true → cond q true e ≡ true
    kept true e h = refl
    kept false e h = h

-- one id more is looked up
pub finds_turn : (secret : ℕ) (old index : EntryLists) (members : Members) (base : List ℕ) (number : ℕ) (ids : List (List ℕ)) (rest id more b : List ℕ) (key : ℕ) (found after : Option ℕ)
    → IsIndexOf secret old members → JoinsSoFar old index members secret base number ids rest found → ids_in rest ≡ id ∷ ids_in more → b ≡ base → key ≡ key_of secret base id
    → MatchOption found (after ≡ first_thread members b id (emails_at index key)) (λ thread. after ≡ Some thread)
    → (found ≡ None → IsStrictlySortedBy entry_cmp (list_at index (front key))) → FindsSoFar members base number ids more after
finds_turn secret old index members base number ids rest id more b key (Some thread) after i far e same is finds ordered =
    let P : Option ℕ → Type 0 = λ o. FindsSoFar members base number ids more o in
    subst P (sym finds) far.finds
finds_turn secret old index members base number ids rest id more b key None after i far e same is finds ordered = by after finds_here
  where
    covers : Covers secret index members
    covers = covers_more secret old index members base number ids rest i far.sets

    at : List ℕ
    at = emails_at index (key_of secret base id)

    finds_here : after ≡ first_thread members base id at
    finds_here = finds ∙ ap (λ (x : List ℕ). first_thread members x id (emails_at index key)) same ∙ ap (λ (k : ℕ). first_thread members base id (emails_at index k)) is

    ascend : IsStrictlySortedBy nat_cmp at
    ascend = let P : ℕ → Type 0 = λ k. IsStrictlySortedBy nat_cmp (emails_at index k) in subst P is (numbers_ascend key (list_at index (front key)) (ordered refl))

    by : (o : Option ℕ) → o ≡ first_thread members base id at → FindsSoFar members base number ids more o
    by (Some thread) h =
        let P : List (List ℕ) → Type 0 = λ xs. IsThreadOf members base number xs thread in
        far.finds thread (subst P (sym e) (joins secret index members base number id (ids_in more) thread covers ascend h))
    by None h = λ thread t.
        let P : List (List ℕ) → Type 0 = λ xs. IsThreadOf members base number xs thread in
        far.finds thread (subst P (sym e) (passes secret index members base number id (ids_in more) thread covers ascend h t))

-- all are looked up
pub finds_all : (members : Members) (base : List ℕ) (number : ℕ) (ids : List (List ℕ)) (rest : List ℕ) (found : Option ℕ) → FindsSoFar members base number ids rest found
    → ids_in rest ≡ [] → IsThreadOf members base number ids (unwrap_or found number)
finds_all members base number ids rest None finds e =
    let P : List (List ℕ) → Type 0 = λ xs. IsThreadOf members base number xs number in
    finds number (subst P (sym e) Founds)
finds_all members base number ids rest (Some thread) finds e = finds

-- before the first, nothing is found
pub finds_none : (members : Members) (base : List ℕ) (number : ℕ) (ids : List (List ℕ)) (rest : List ℕ) → ids_in rest ≡ ids → FindsSoFar members base number ids rest None
finds_none members base number ids rest e = λ thread t. let P : List (List ℕ) → Type 0 = λ xs. IsThreadOf members base number xs thread in subst P e t
