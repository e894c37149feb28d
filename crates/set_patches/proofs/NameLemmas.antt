-- A set of texts is the set of their octets.
use Rattle.std.proofs.Common.{◌≡◌, List, [], ◌∷◌, refl, ap, map, nat_cmp, String, Global, string_bytes, string_cmp}
use Rattle.std.specs.declared.cmp.Ordering.TheVariants.{Less, Equal, Greater}
use Rattle.std.specs.Ordering.{match_ordering}
use Rattle.std.specs.Cmp.Lexicographic.{slice_cmp}
use Rattle.std.specs.BTreeSet.{insert_key}

-- the octets of a set with a text put in are those of the set with the text's put in
pub bytes_of-insert_key : (ks : List (String Global)) (k : String Global)
    → map string_bytes (insert_key string_cmp ks k) ≡ insert_key (slice_cmp nat_cmp) (map string_bytes ks) (string_bytes k)
bytes_of-insert_key [] k = refl
bytes_of-insert_key (x ∷ ks) k =
    elim (slice_cmp nat_cmp (string_bytes k) (string_bytes x)) as (λ o. map string_bytes (match_ordering o (k ∷ x ∷ ks) (x ∷ ks) (x ∷ insert_key string_cmp ks k))
    ≡ match_ordering o (string_bytes k ∷ string_bytes x ∷ map string_bytes ks) (string_bytes x ∷ map string_bytes ks)
    (string_bytes x ∷ insert_key (slice_cmp nat_cmp) (map string_bytes ks) (string_bytes k))) [
      | Less ↦ refl
      | Equal ↦ refl
      | Greater ↦ ap (λ r. string_bytes x ∷ r) (bytes_of-insert_key ks k)
    ]
