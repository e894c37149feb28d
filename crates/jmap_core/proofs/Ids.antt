-- A map of texts beside the pairs that it stands for.
use Rattle.std.proofs.Common.{◌≡◌, ℕ, List, [], ◌∷◌, ◌++◌, Option, Some, String, Global, Ordering, Less, Equal, Greater, string_bytes, string_cmp, nat_cmp, is_eq, cond}
use Rattle.std.proofs.Common.{refl, ap, ◌∙◌}
use Rattle.std.proofs.lemmas.Cmp.{nat_list_cmp_total}
use Rattle.std.specs.Cmp.Lexicographic.{slice_cmp}
use Rattle.std.specs.List.{AllByRecursion}
use Rattle.std.specs.List.Sorted.{IsStrictlySortedBy}
use Rattle.std.specs.Map.{keys_of, lookup}
use Rattle.std.specs.Ordering.{match_ordering, ordering_reverse}
use Rattle.std.specs.BTreeMap.{insert_entry, is_at}
use Rattle.serde_json.specs.Data.{string, member, put}
use Rattle.jmap_core.specs.CreatedIds.{put_id, id_of, id_members}
use Rattle.jmap_core.specs.reading.Pairs.{Entry, pairs}

-- what a map of texts has at a name is what its pairs have there
pub lookup-pairs : (name : List ℕ) (es : List Entry) → lookup (is_at (λ k. slice_cmp nat_cmp name (string_bytes k))) es ≡ id_of name (pairs es)
lookup-pairs name [] = refl
lookup-pairs name (e ∷ es) = ap (λ (o : Option (List ℕ)). cond (is_eq (slice_cmp nat_cmp name (string_bytes e.0))) (Some e.1) o) (lookup-pairs name es)

pairs-match_ordering : (o : Ordering) (a b c : List Entry) → pairs (match_ordering o a b c) ≡ match_ordering o (pairs a) (pairs b) (pairs c)
pairs-match_ordering Less a b c = refl
pairs-match_ordering Equal a b c = refl
pairs-match_ordering Greater a b c = refl

-- an entry that is put into a map of texts is put into its pairs
pub pairs-insert_entry : (es : List Entry) (k : String Global) (id : List ℕ) → pairs (insert_entry string_cmp es k id) ≡ put_id (string_bytes k) id (pairs es)
pairs-insert_entry [] k id = refl
pairs-insert_entry (e ∷ es) k id = pairs-match_ordering (string_cmp k e.0) _ _ _ ∙ rw (pairs-insert_entry es k id)

below_middle : (first : Entry) (es : List Entry) (e : Entry) (more : List Entry) → AllByRecursion (λ y. string_cmp first.0 y ≡ Less) (keys_of (es ++ e ∷ more))
    → string_cmp first.0 e.0 ≡ Less
below_middle first [] e more h = h.0
below_middle first (x ∷ es) e more h = below_middle first es e more h.1

-- a key that is above those before it goes last
pub put_last : (done : List Entry) (e : Entry) (more : List Entry) → IsStrictlySortedBy string_cmp (keys_of (done ++ e ∷ more))
    → put (string_bytes e.0) (string e.1) (id_members (pairs done)) ≡ id_members (pairs (done ++ e ∷ []))
unfolding IsStrictlySortedBy
put_last [] e more h = refl
put_last (first ∷ done) e more h =
    let above : slice_cmp nat_cmp (string_bytes e.0) (string_bytes first.0) ≡ Greater =
    nat_list_cmp_total.antisymm (string_bytes e.0) (string_bytes first.0) ∙ ap ordering_reverse (below_middle first done e more h.0) in
    rw above (ap (member (string_bytes first.0) (string first.1)) (put_last done e more h.1))
