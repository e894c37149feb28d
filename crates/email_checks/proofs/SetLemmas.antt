-- Sets of keywords, by their octets.
use Rattle.std.proofs.Common.{◌≡◌, ℕ, List, [], ◌∷◌, Bool, true, false, ◌||◌, cond, bytes_eq, map, refl, sym, ap, ◌∙◌, nat_cmp, is_eq, Vec, Global}
use Rattle.std.specs.declared.cmp.Ordering.{Ordering}
use Rattle.std.specs.declared.cmp.Ordering.TheVariants.{Less, Equal, Greater}
use Rattle.std.specs.BTreeMap.{is_at}
use Rattle.std.specs.BTreeSet.{insert_key}
use Rattle.std.specs.Cmp.Lexicographic.{slice_cmp}
use Rattle.std.specs.List.{list_any}
use Rattle.std.specs.Ordering.{match_ordering}
use Rattle.std.specs.Set.{remove_key}
use Rattle.std.proofs.lemmas.Map.Text.{is_eq-slice_cmp}
use Rattle.std.proofs.lemmas.Slice.Eq.{bytes_eq-Decides}
use Rattle.jmap_arguments.specs.Arguments.{is_among}
use Rattle.mail_maps.specs.reading.Sets.{set_items}

abbrev pub vec_cmp : Vec ℕ Global → Vec ℕ Global → Ordering
vec_cmp a b = slice_cmp nat_cmp a.items b.items

-- two tests of one fact are equal
same_truth : (a b : Bool) → (a ≡ true → b ≡ true) → (b ≡ true → a ≡ true) → a ≡ b
same_truth true true f g = refl
same_truth true false f g = sym (f refl)
same_truth false true f g = g refl
same_truth false false f g = refl

pub turned : (a b : List ℕ) → bytes_eq a b ≡ bytes_eq b a
turned a b =
    same_truth (bytes_eq a b) (bytes_eq b a)
    (λ same. (bytes_eq-Decides b a).1 (sym ((bytes_eq-Decides a b).0 same)))
    (λ same. (bytes_eq-Decides a b).1 (sym ((bytes_eq-Decides b a).0 same)))

-- a key is in a set where its octets are among those of the keys
pub among_keys : (k : Vec ℕ Global) (ks : List (Vec ℕ Global)) → list_any (is_at (vec_cmp k)) ks ≡ is_among k.items (map set_items ks)
among_keys k [] = refl
among_keys k (x ∷ ks) =
    ap (λ b. b || list_any (is_at (vec_cmp k)) ks) (is_eq-slice_cmp k.items x.items ∙ turned k.items x.items)
    ∙ ap (λ b. bytes_eq x.items k.items || b) (among_keys k ks)

pub held_keys : (k : Vec ℕ Global) (ks : List (Vec ℕ Global)) → list_any (is_at (vec_cmp k)) ks ≡ list_any (bytes_eq k.items) (map set_items ks)
held_keys k [] = refl
held_keys k (x ∷ ks) =
    ap (λ b. b || list_any (is_at (vec_cmp k)) ks) (is_eq-slice_cmp k.items x.items)
    ∙ ap (λ b. bytes_eq k.items x.items || b) (held_keys k ks)

-- a key is taken by its octets
pub items_of-remove_key : (k : Vec ℕ Global) (ks : List (Vec ℕ Global)) → map set_items (remove_key (is_at (vec_cmp k)) ks) ≡ remove_key (bytes_eq k.items) (map set_items ks)
items_of-remove_key k [] = refl
items_of-remove_key k (x ∷ ks) =
    ap (λ b. map set_items (cond b ks (x ∷ remove_key (is_at (vec_cmp k)) ks))) (is_eq-slice_cmp k.items x.items)
    ∙ elim (bytes_eq k.items x.items) as (λ b. map set_items (cond b ks (x ∷ remove_key (is_at (vec_cmp k)) ks)) ≡ cond b (map set_items ks) (x.items ∷ remove_key (bytes_eq k.items) (map set_items ks))) [
      | true ↦ refl
      | false ↦ ap (λ r. x.items ∷ r) (items_of-remove_key k ks)
    ]

twice : (b rest : Bool) → (b || rest) ≡ (b || (b || rest))
twice true rest = refl
twice false rest = refl

swapped : (a b rest : Bool) → (a || (b || rest)) ≡ (b || (a || rest))
swapped true true rest = refl
swapped true false rest = refl
swapped false b rest = refl

-- among keys with one more
among_at : (k other x : List ℕ) (xs : List (List ℕ)) (o : Ordering) → slice_cmp nat_cmp k x ≡ o
    → is_among other (insert_key (slice_cmp nat_cmp) xs k) ≡ (bytes_eq k other || is_among other xs)
    → is_among other (match_ordering o (k ∷ x ∷ xs) (x ∷ xs) (x ∷ insert_key (slice_cmp nat_cmp) xs k)) ≡ (bytes_eq k other || is_among other (x ∷ xs))
among_at k other x xs Less is rest = refl
among_at k other x xs Equal is rest =
    let same : k ≡ x = (bytes_eq-Decides k x).0 (sym (is_eq-slice_cmp k x) ∙ ap is_eq is) in
    twice (bytes_eq x other) (is_among other xs) ∙ ap (λ (y : List ℕ). bytes_eq y other || is_among other (x ∷ xs)) (sym same)
among_at k other x xs Greater is rest = ap (λ b. bytes_eq x other || b) rest ∙ swapped (bytes_eq x other) (bytes_eq k other) (is_among other xs)

pub among_insert : (k other : List ℕ) (xs : List (List ℕ)) → is_among other (insert_key (slice_cmp nat_cmp) xs k) ≡ (bytes_eq k other || is_among other xs)
among_insert k other [] = refl
among_insert k other (x ∷ xs) = among_at k other x xs (slice_cmp nat_cmp k x) refl (among_insert k other xs)
