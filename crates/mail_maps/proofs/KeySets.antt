-- A set whose keys are compared by their octets is the set of those octets.
use Rattle.std.proofs.Common.{◌≡◌, ℕ, List, [], ◌∷◌, ◌++◌, refl, ap, map, nat_cmp, Vec, Global}
use Rattle.std.specs.declared.cmp.Ordering.{Ordering}
use Rattle.std.specs.declared.cmp.Ordering.TheVariants.{Less, Equal, Greater}
use Rattle.std.specs.Ordering.{match_ordering}
use Rattle.std.specs.Cmp.Lexicographic.{slice_cmp}
use Rattle.std.specs.BTreeSet.{insert_key}
use Rattle.mail_maps.specs.Keywords.{sorted_into}
use Rattle.mail_maps.specs.reading.Sets.{set_items}

abbrev vec_cmp : Vec ℕ Global → Vec ℕ Global → Ordering
vec_cmp a b = slice_cmp nat_cmp a.items b.items

-- the octets of a set with a key put in are those of the set with the key's put in
pub items_of-insert_key : (ks : List (Vec ℕ Global)) (k : Vec ℕ Global) → map set_items (insert_key vec_cmp ks k) ≡ insert_key (slice_cmp nat_cmp) (map set_items ks) k.items
items_of-insert_key [] k = refl
items_of-insert_key (x ∷ ks) k =
    elim (slice_cmp nat_cmp k.items x.items) as (λ o. map set_items (match_ordering o (k ∷ x ∷ ks) (x ∷ ks) (x ∷ insert_key vec_cmp ks k))
    ≡ match_ordering o (k.items ∷ x.items ∷ map set_items ks) (x.items ∷ map set_items ks) (x.items ∷ insert_key (slice_cmp nat_cmp) (map set_items ks) k.items)) [
      | Less ↦ refl
      | Equal ↦ refl
      | Greater ↦ ap (λ r. x.items ∷ r) (items_of-insert_key ks k)
    ]

-- keys of two lists in turn are put in like those of the one, and then those of the other
pub sorted_into-append : {K : Type 0} (cmp : K → K → Ordering) (ks xs ys : List K) → sorted_into cmp ks (xs ++ ys) ≡ sorted_into cmp (sorted_into cmp ks xs) ys
sorted_into-append cmp ks [] ys = refl
sorted_into-append cmp ks (x ∷ xs) ys = sorted_into-append cmp (insert_key cmp ks x) xs ys
