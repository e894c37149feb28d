-- Names in kept form of which some are left out.
use Rattle.std.proofs.Common.{◌≡◌, ℕ, ◌+◌, Bool, true, false, not, List, [], ◌∷◌, ◌++◌, filter, map, refl, sym, ap, ◌∙◌, subst, arith, nat_cmp, if◌then◌else◌, bytes_eq, codes}
use Rattle.std.proofs.lemmas.Cmp.{nat_list_cmp_total}
use Rattle.std.proofs.lemmas.List.{append_assoc, append-nil}
use Rattle.std.specs.List.{list_any}
use Rattle.std.specs.BTreeSet.{insert_key}
use Rattle.std.specs.Cmp.Lexicographic.{slice_cmp}
use Rattle.std.specs.Ordering.{match_ordering, ordering_reverse}
use Rattle.std.specs.declared.cmp.Ordering.TheVariants.{Less, Equal, Greater}
use Rattle.imap_types.specs.Items.{add_name, kept_from, kept}
use Rattle.imap_types.specs.Octets.{lower}
use Rattle.imap_types.proofs.KeptLemmas.{IsUnder, kept_again}
use Rattle.kept_names.specs.Changes.{flags_after, subscribed}

-- names in order, in lower case, without `\recent`
abbrev IsInOrder : List (List ℕ) → Type 0
IsInOrder [] = Unit {0}
IsInOrder (x ∷ xs) = (map lower x ≡ x) × (bytes_eq x (codes "\\recent") ≡ false) × IsUnder x xs × IsInOrder xs

under_more : (n k : List ℕ) (xs : List (List ℕ)) → slice_cmp nat_cmp n k ≡ Less → IsUnder k xs → IsUnder n xs
under_more n k [] l u = tt
under_more n k (x ∷ xs) l u = (nat_list_cmp_total.trans n k x l u.0, under_more n k xs l u.1)

turned : (a b : List ℕ) → slice_cmp nat_cmp a b ≡ Greater → slice_cmp nat_cmp b a ≡ Less
turned a b e = nat_list_cmp_total.antisymm b a ∙ ap ordering_reverse e

under_insert : (n k : List ℕ) (xs : List (List ℕ)) → slice_cmp nat_cmp n k ≡ Less → IsUnder n xs → IsUnder n (insert_key (slice_cmp nat_cmp) xs k)
under_insert n k [] l u = (l, tt)
under_insert n k (x ∷ xs) l u =
    elim (slice_cmp nat_cmp k x) as (λ o. IsUnder n (match_ordering o (k ∷ x ∷ xs) (x ∷ xs) (x ∷ insert_key (slice_cmp nat_cmp) xs k))) [
      | Less ↦ (l, u)
      | Equal ↦ u
      | Greater ↦ (u.0, under_insert n k xs l u.1)
    ]

order_insert : (k : List ℕ) (xs : List (List ℕ)) → map lower k ≡ k → bytes_eq k (codes "\\recent") ≡ false → IsInOrder xs → IsInOrder (insert_key (slice_cmp nat_cmp) xs k)
order_insert k [] low other o = (low, other, tt, tt)
order_insert k (x ∷ xs) low other o =
    elim (slice_cmp nat_cmp k x) as (λ r. slice_cmp nat_cmp k x ≡ r → IsInOrder (match_ordering r (k ∷ x ∷ xs) (x ∷ xs) (x ∷ insert_key (slice_cmp nat_cmp) xs k))) [
      | Less ↦ λ e. (low, other, (e, under_more k x xs e o.2), o)
      | Equal ↦ λ e. o
      | Greater ↦ λ e. (o.0, o.1, under_insert x k xs (turned k x e) o.2, order_insert k xs low other o.3)
    ] refl

lower_once : (c : ℕ) → lower (lower c) ≡ lower c
lower_once c = grind arith

lower_twice : (t : List ℕ) → map lower (map lower t) ≡ map lower t
lower_twice [] = refl
lower_twice (c ∷ t) = ap (λ d. d ∷ map lower (map lower t)) (lower_once c) ∙ ap (λ (u : List ℕ). lower c ∷ u) (lower_twice t)

order_kept : (so_far ns : List (List ℕ)) → IsInOrder so_far → IsInOrder (kept_from so_far ns)
order_kept so_far [] o = o
order_kept so_far (n ∷ ns) o = order_kept (add_name so_far (map lower n)) ns (
    elim (bytes_eq (map lower n) (codes "\\recent")) as (λ b. bytes_eq (map lower n) (codes "\\recent") ≡ b
    → IsInOrder (if b then so_far else insert_key (slice_cmp nat_cmp) so_far (map lower n))) [
      | true ↦ λ e. o
      | false ↦ λ e. order_insert (map lower n) so_far (lower_twice n) e o
    ] refl)

-- each of these is below the name
abbrev IsOver : List (List ℕ) → List ℕ → Type 0
IsOver [] n = Unit {0}
IsOver (x ∷ xs) n = (slice_cmp nat_cmp x n ≡ Less) × IsOver xs n

insert_last : (xs : List (List ℕ)) (n : List ℕ) → IsOver xs n → insert_key (slice_cmp nat_cmp) xs n ≡ xs ++ n ∷ []
insert_last [] n o = refl
insert_last (x ∷ xs) n o =
    let after : slice_cmp nat_cmp n x ≡ Greater = nat_list_cmp_total.antisymm n x ∙ ap ordering_reverse o.0 in
    ap (λ r. match_ordering r (n ∷ x ∷ xs) (x ∷ xs) (x ∷ insert_key (slice_cmp nat_cmp) xs n)) after ∙ ap (λ (zs : List (List ℕ)). x ∷ zs) (insert_last xs n o.1)

-- each of the first is below each of the others
abbrev AreOver : List (List ℕ) → List (List ℕ) → Type 0
AreOver xs [] = Unit {0}
AreOver xs (n ∷ ns) = IsOver xs n × AreOver xs ns

over_end : (xs : List (List ℕ)) (n m : List ℕ) → IsOver xs m → slice_cmp nat_cmp n m ≡ Less → IsOver (xs ++ n ∷ []) m
over_end [] n m o l = (l, tt)
over_end (x ∷ xs) n m o l = (o.0, over_end xs n m o.1 l)

over_more : (xs : List (List ℕ)) (n : List ℕ) (ns : List (List ℕ)) → IsUnder n ns → AreOver xs ns → AreOver (xs ++ n ∷ []) ns
over_more xs n [] u o = tt
over_more xs n (m ∷ ns) u o = (over_end xs n m o.0 u.0, over_more xs n ns u.1 o.1)

kept_on : (so_far ns : List (List ℕ)) → AreOver so_far ns → IsInOrder ns → kept_from so_far ns ≡ so_far ++ ns
kept_on so_far [] o i = sym (append-nil so_far)
kept_on so_far (n ∷ ns) o i =
    let here : add_name so_far (map lower n) ≡ so_far ++ n ∷ [] = ap (add_name so_far) i.0
    ∙ ap (λ b. if b then so_far else insert_key (slice_cmp nat_cmp) so_far n) i.1 ∙ insert_last so_far n o.0 in
    ap (λ (zs : List (List ℕ)). kept_from zs ns) here ∙ kept_on (so_far ++ n ∷ []) ns (over_more so_far n ns i.2 o.1) i.3 ∙ append_assoc so_far (n ∷ []) ns

over_none : (ns : List (List ℕ)) → AreOver [] ns
over_none [] = tt
over_none (n ∷ ns) = (tt, over_none ns)

-- ---- names that are left out

in_order : (ns : List (List ℕ)) → kept ns ≡ ns → IsInOrder ns
in_order ns e = subst IsInOrder e (order_kept [] ns tt)

kept_in_order : (ns : List (List ℕ)) → IsInOrder ns → kept ns ≡ ns
kept_in_order ns o = kept_on [] ns (over_none ns) o

under_filter : (p : List ℕ → Bool) (n : List ℕ) (xs : List (List ℕ)) → IsUnder n xs → IsUnder n (filter p xs)
under_filter p n [] u = tt
under_filter p n (x ∷ xs) u =
    elim (p x) as (λ b. IsUnder n (if b then x ∷ filter p xs else filter p xs)) [ true ↦ (u.0, under_filter p n xs u.1) | false ↦ under_filter p n xs u.1 ]

order_filter : (p : List ℕ → Bool) (xs : List (List ℕ)) → IsInOrder xs → IsInOrder (filter p xs)
order_filter p [] o = tt
order_filter p (x ∷ xs) o =
    elim (p x) as (λ b. IsInOrder (if b then x ∷ filter p xs else filter p xs)) [
      | true ↦ (o.0, o.1, under_filter p x xs o.2, order_filter p xs o.3)
      | false ↦ order_filter p xs o.3
    ]

filter_kept : (p : List ℕ → Bool) (ns : List (List ℕ)) → kept ns ≡ ns → kept (filter p ns) ≡ filter p ns
filter_kept p ns e = kept_in_order (filter p ns) (order_filter p ns (in_order ns e))

-- flags in kept form are so after a STORE
pub flags_stay_kept : (add : Bool) (asked was : List (List ℕ)) → kept was ≡ was → kept (flags_after add asked was) ≡ flags_after add asked was
flags_stay_kept true asked was e = kept_again (was ++ asked)
flags_stay_kept false asked was e = filter_kept (λ f. not (list_any (λ g. bytes_eq f g) (kept asked))) was e

-- attributes in kept form are so after a SUBSCRIBE
pub subscribed_stay_kept : (on : Bool) (attributes : List (List ℕ)) → kept attributes ≡ attributes → kept (subscribed on attributes) ≡ subscribed on attributes
subscribed_stay_kept true attributes e = kept_again (codes "\\subscribed" ∷ attributes)
subscribed_stay_kept false attributes e = filter_kept (λ a. not (bytes_eq a (codes "\\subscribed"))) attributes e
