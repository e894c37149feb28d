-- Names in kept form, of which some are left out, or to which one comes.
use Rattle.std.proofs.Common.{◌≡◌, ℕ, Bool, true, false, cond, List, [], ◌∷◌, ◌++◌, map, filter, refl, sym, ap, ◌∙◌, subst, arith, nat_cmp, if◌then◌else◌, bytes_eq, codes}
use Rattle.std.proofs.lemmas.Cmp.{nat_list_cmp_total}
use Rattle.std.proofs.lemmas.List.{append_assoc, append-nil}
use Rattle.std.specs.BTreeSet.{insert_key}
use Rattle.std.specs.Cmp.Lexicographic.{slice_cmp}
use Rattle.std.specs.List.{AllByRecursion}
use Rattle.std.specs.Ordering.{match_ordering, ordering_reverse}
use Rattle.std.specs.declared.cmp.Ordering.TheVariants.{Less, Equal, Greater}
use Rattle.imap_types.specs.Items.{add_name, kept_from, kept}
use Rattle.imap_types.specs.Octets.{lower}
use Rattle.imap_types.proofs.KeptLemmas.{IsUnder, AreSorted, sorted_insert}

-- ---- what is so of each

each_insert : (P : List ℕ → Type 0) (xs : List (List ℕ)) (k : List ℕ) → AllByRecursion P xs → P k → AllByRecursion P (insert_key (slice_cmp nat_cmp) xs k)
each_insert P [] k all p = (p, tt)
each_insert P (x ∷ xs) k all p =
    elim (slice_cmp nat_cmp k x) as (λ o. AllByRecursion P (match_ordering o (k ∷ x ∷ xs) (x ∷ xs) (x ∷ insert_key (slice_cmp nat_cmp) xs k))) [
      | Less ↦ (p, all)
      | Equal ↦ all
      | Greater ↦ (all.0, each_insert P xs k all.1 p)
    ]

-- of those that were there, and of each that comes, `\recent` aside
pub each_kept_from : (P : List ℕ → Type 0) (so_far ns : List (List ℕ)) → AllByRecursion P so_far
    → AllByRecursion (λ n. bytes_eq (map lower n) (codes "\\recent") ≡ false → P (map lower n)) ns
    → AllByRecursion P (kept_from so_far ns)
each_kept_from P so_far [] all come = all
each_kept_from P so_far (n ∷ ns) all come = each_kept_from P (add_name so_far (map lower n)) ns (
    elim (bytes_eq (map lower n) (codes "\\recent")) as (λ b. bytes_eq (map lower n) (codes "\\recent") ≡ b
    → AllByRecursion P (if b then so_far else insert_key (slice_cmp nat_cmp) so_far (map lower n))) [
      | true ↦ λ e. all
      | false ↦ λ e. each_insert P so_far (map lower n) all (come.0 e)
    ] refl) come.1

-- ---- names in lower case, without `\recent`

abbrev pub IsPlain : List ℕ → Type 0
IsPlain n = (map lower n ≡ n) × (bytes_eq n (codes "\\recent") ≡ false)

lower_once : (c : ℕ) → lower (lower c) ≡ lower c
lower_once c = grind arith

lower_twice : (t : List ℕ) → map lower (map lower t) ≡ map lower t
lower_twice [] = refl
lower_twice (c ∷ t) = ap (λ d. d ∷ map lower (map lower t)) (lower_once c) ∙ ap (λ (u : List ℕ). lower c ∷ u) (lower_twice t)

any_lowered : (ns : List (List ℕ)) → AllByRecursion (λ n. bytes_eq (map lower n) (codes "\\recent") ≡ false → IsPlain (map lower n)) ns
any_lowered [] = tt
any_lowered (n ∷ ns) = ((λ e. (lower_twice n, e)), any_lowered ns)

pub kept_plain : (ns : List (List ℕ)) → AllByRecursion IsPlain (kept ns)
kept_plain ns = each_kept_from IsPlain [] ns tt (any_lowered ns)

sorted_kept_from : (so_far ns : List (List ℕ)) → AreSorted so_far → AreSorted (kept_from so_far ns)
sorted_kept_from so_far [] s = s
sorted_kept_from so_far (n ∷ ns) s = sorted_kept_from (add_name so_far (map lower n)) ns (
    elim (bytes_eq (map lower n) (codes "\\recent")) as (λ b. AreSorted (if b then so_far else insert_key (slice_cmp nat_cmp) so_far (map lower n))) [
      | true ↦ s
      | false ↦ sorted_insert (map lower n) so_far s
    ])

-- ---- such names in order are in kept form

under_at : (x n : List ℕ) (xs rest : List (List ℕ)) → IsUnder x (xs ++ n ∷ rest) → slice_cmp nat_cmp x n ≡ Less
under_at x n [] rest u = u.0
under_at x n (y ∷ xs) rest u = under_at x n xs rest u.1

insert_last : (xs : List (List ℕ)) (n : List ℕ) (rest : List (List ℕ)) → AreSorted (xs ++ n ∷ rest) → insert_key (slice_cmp nat_cmp) xs n ≡ xs ++ n ∷ []
insert_last [] n rest s = refl
insert_last (x ∷ xs) n rest s =
    let after : slice_cmp nat_cmp n x ≡ Greater = nat_list_cmp_total.antisymm n x ∙ ap ordering_reverse (under_at x n xs rest s.0) in
    ap (λ r. match_ordering r (n ∷ x ∷ xs) (x ∷ xs) (x ∷ insert_key (slice_cmp nat_cmp) xs n)) after ∙ ap (λ (zs : List (List ℕ)). x ∷ zs) (insert_last xs n rest s.1)

kept_on : (so_far ns : List (List ℕ)) → AreSorted (so_far ++ ns) → AllByRecursion IsPlain ns → kept_from so_far ns ≡ so_far ++ ns
kept_on so_far [] s plain = sym (append-nil so_far)
kept_on so_far (n ∷ ns) s plain =
    let here : add_name so_far (map lower n) ≡ so_far ++ n ∷ [] = ap (add_name so_far) plain.0.0
    ∙ (ap (λ b. if b then so_far else insert_key (slice_cmp nat_cmp) so_far n) plain.0.1 ∙ insert_last so_far n ns s) in
    let joined : (so_far ++ n ∷ []) ++ ns ≡ so_far ++ n ∷ ns = append_assoc so_far (n ∷ []) ns in
    ap (λ (zs : List (List ℕ)). kept_from zs ns) here ∙ (kept_on (so_far ++ n ∷ []) ns (subst AreSorted (sym joined) s) plain.1 ∙ joined)

-- ---- of which some are left out

under_if : (b : Bool) (n x : List ℕ) (xs : List (List ℕ)) → slice_cmp nat_cmp n x ≡ Less → IsUnder n xs → IsUnder n (cond b (x ∷ xs) xs)
under_if true n x xs l u = (l, u)
under_if false n x xs l u = u

under_filtered : (p : List ℕ → Bool) (n : List ℕ) (xs : List (List ℕ)) → IsUnder n xs → IsUnder n (filter p xs)
under_filtered p n [] u = tt
under_filtered p n (x ∷ xs) u = under_if (p x) n x (filter p xs) u.0 (under_filtered p n xs u.1)

sorted_if : (b : Bool) (x : List ℕ) (xs : List (List ℕ)) → IsUnder x xs → AreSorted xs → AreSorted (cond b (x ∷ xs) xs)
sorted_if true x xs u s = (u, s)
sorted_if false x xs u s = s

sorted_filtered : (p : List ℕ → Bool) (xs : List (List ℕ)) → AreSorted xs → AreSorted (filter p xs)
sorted_filtered p [] s = tt
sorted_filtered p (x ∷ xs) s = sorted_if (p x) x (filter p xs) (under_filtered p x xs s.0) (sorted_filtered p xs s.1)

each_if : (P : List ℕ → Type 0) (b : Bool) (x : List ℕ) (xs : List (List ℕ)) → P x → AllByRecursion P xs → AllByRecursion P (cond b (x ∷ xs) xs)
each_if P true x xs here all = (here, all)
each_if P false x xs here all = all

pub each_filtered : (P : List ℕ → Type 0) (p : List ℕ → Bool) (xs : List (List ℕ)) → AllByRecursion P xs → AllByRecursion P (filter p xs)
each_filtered P p [] all = tt
each_filtered P p (x ∷ xs) all = each_if P (p x) x (filter p xs) all.0 (each_filtered P p xs all.1)

pub kept_filtered : (p : List ℕ → Bool) (ns : List (List ℕ)) → kept ns ≡ ns → kept (filter p ns) ≡ filter p ns
kept_filtered p ns is =
    kept_on [] (filter p ns) (sorted_filtered p ns (subst AreSorted is (sorted_kept_from [] ns tt)))
    (each_filtered IsPlain p ns (subst (AllByRecursion IsPlain) is (kept_plain ns)))
