-- Flags of which all but `\seen` are within their limit.
use Rattle.std.proofs.Common.{◌≡◌, ℕ, ◌+◌, ◌≤◌, Bool, true, false, not, cond, List, [], ◌∷◌, ◌++◌, length, filter, fold, map, bytes_eq, codes, nat_cmp, refl, sym, ap, ◌∙◌}
use Rattle.std.proofs.Common.{subst, arith, if◌then◌else◌}
use Rattle.std.proofs.lemmas.Bool.{false_from_ne_true}
use Rattle.std.proofs.lemmas.Cmp.{nat_list_cmp_total}
use Rattle.std.proofs.lemmas.Slice.Eq.{bytes_eq-Decides}
use Rattle.std.specs.BTreeSet.{insert_key}
use Rattle.std.specs.Cmp.Lexicographic.{slice_cmp}
use Rattle.std.specs.List.{list_any}
use Rattle.std.specs.Ordering.{match_ordering, ordering_reverse}
use Rattle.std.specs.declared.cmp.Ordering.{Ordering}
use Rattle.std.specs.declared.cmp.Ordering.TheVariants.{Less, Equal, Greater}
use Rattle.imap_types.specs.Items.{add_name, kept, kept_from}
use Rattle.imap_types.specs.Octets.{lower}
use Rattle.imap_types.proofs.KeptLemmas.{AreSorted, IsUnder, sorted_insert}
use Rattle.honest_store.specs.MessageCommands.{flags_after}
use Rattle.small_answers.specs.Limits.{text_limit, total_length}
use Rattle.small_answers.specs.OwnersCalls.{seen_flag}
use Rattle.small_responses.specs.SendableMail.{beside_seen}

-- ---- octets together

abbrev octets_in : List (List ℕ) → ℕ
octets_in [] = 0
octets_in (n ∷ ns) = length n + octets_in ns

total_is : (k : ℕ) (ns : List (List ℕ)) → fold (λ n t. n + length t) k ns ≡ k + octets_in ns
total_is k [] = omega arith
total_is k (n ∷ ns) = omega (arith, total_is (k + length n) ns)

less_if : (b : Bool) (n : List ℕ) (xs : List (List ℕ)) (k : ℕ) → octets_in xs ≤ k → octets_in (cond b (n ∷ xs) xs) ≤ length n + k
less_if true n xs k h = omega (arith, h)
less_if false n xs k h = omega (arith, h)

filter_less : (p : List ℕ → Bool) (ns : List (List ℕ)) → octets_in (filter p ns) ≤ octets_in ns
filter_less p [] = omega arith
filter_less p (n ∷ ns) = less_if (p n) n (filter p ns) (octets_in ns) (filter_less p ns)

pub beside_few : (ns : List (List ℕ)) → total_length ns ≤ text_limit → total_length (beside_seen ns) ≤ text_limit
beside_few ns few = omega (arith, few, total_is 0 ns, total_is 0 (beside_seen ns), filter_less (λ f. not (bytes_eq f seen_flag)) ns)

-- ---- it stands once

sorted_kept : (so_far ns : List (List ℕ)) → AreSorted so_far → AreSorted (kept_from so_far ns)
sorted_kept so_far [] s = s
sorted_kept so_far (n ∷ ns) s = sorted_kept (add_name so_far (map lower n)) ns (
    elim (bytes_eq (map lower n) (codes "\\recent")) as (λ b. AreSorted (if b then so_far else insert_key (slice_cmp nat_cmp) so_far (map lower n))) [
      | true ↦ s
      | false ↦ sorted_insert (map lower n) so_far s
    ])

abbrev OnLess : Ordering → Type 0
OnLess Less = Unit {0}
OnLess Equal = ⊥
OnLess Greater = ⊥

never_below : (n : List ℕ) → slice_cmp nat_cmp n n ≡ Less → ⊥
never_below n e = subst OnLess (sym e ∙ (nat_list_cmp_total.antisymm n n ∙ ap ordering_reverse e)) tt

others : (n : List ℕ) (ns : List (List ℕ)) → n ≡ seen_flag → IsUnder n ns → beside_seen ns ≡ ns
others n [] e u = refl
others n (x ∷ xs) e u =
    let other : bytes_eq x seen_flag ≡ false =
    false_from_ne_true (bytes_eq x seen_flag)
    (λ same. never_below n (subst (λ (y : List ℕ). slice_cmp nat_cmp n y ≡ Less) ((bytes_eq-Decides x seen_flag).0 same ∙ sym e) u.0)) in
    subst (λ (b : Bool). cond (not b) (x ∷ beside_seen xs) (beside_seen xs) ≡ x ∷ xs) (sym other) (ap (λ (ys : List (List ℕ)). x ∷ ys) (others n xs e u.1))

once_if : (n : List ℕ) (ns : List (List ℕ)) (b : Bool) → bytes_eq n seen_flag ≡ b → IsUnder n ns → octets_in ns ≤ octets_in (beside_seen ns) + 5
    → length n + octets_in ns ≤ octets_in (cond (not b) (n ∷ beside_seen ns) (beside_seen ns)) + 5
once_if n ns true e u h =
    let same : n ≡ seen_flag = (bytes_eq-Decides n seen_flag).0 e in
    let long : length n ≡ 5 = ap (λ (t : List ℕ). length t) same in
    let all : octets_in (beside_seen ns) ≡ octets_in ns = ap octets_in (others n ns same u) in omega (arith, long, all)
once_if n ns false e u h = omega (arith, h)

once : (ns : List (List ℕ)) → AreSorted ns → octets_in ns ≤ octets_in (beside_seen ns) + 5
once [] s = omega arith
once (n ∷ ns) s = once_if n ns (bytes_eq n seen_flag) refl s.0 (once ns s.1)

pub few_with_seen : (ns : List (List ℕ)) → kept ns ≡ ns → total_length (beside_seen ns) ≤ text_limit → total_length ns ≤ text_limit + 5
few_with_seen ns is few =
    omega (arith, few, total_is 0 ns, total_is 0 (beside_seen ns), once ns (subst AreSorted is (sorted_kept [] ns tt)))

-- ---- it comes or goes

kept_join : (so_far xs ys : List (List ℕ)) → kept_from so_far (xs ++ ys) ≡ kept_from (kept_from so_far xs) ys
kept_join so_far [] ys = refl
kept_join so_far (x ∷ xs) ys = kept_join (add_name so_far (map lower x)) xs ys

beside_insert : (ns : List (List ℕ)) → beside_seen (insert_key (slice_cmp nat_cmp) ns seen_flag) ≡ beside_seen ns
beside_insert [] = refl
beside_insert (x ∷ xs) =
    elim (slice_cmp nat_cmp seen_flag x) as (λ o. beside_seen (match_ordering o (seen_flag ∷ x ∷ xs) (x ∷ xs) (x ∷ insert_key (slice_cmp nat_cmp) xs seen_flag)) ≡ beside_seen
    (x ∷ xs)) [
      | Less ↦ refl
      | Equal ↦ refl
      | Greater ↦ ap (λ (ys : List (List ℕ)). cond (not (bytes_eq x seen_flag)) (x ∷ ys) ys) (beside_insert xs)
    ]

less_left : (b c : Bool) (x : List ℕ) (p : List ℕ → Bool) (xs ys : List (List ℕ)) → p x ≡ c → octets_in (filter p xs) ≤ octets_in ys
    → octets_in (filter p (cond b (x ∷ xs) xs)) ≤ octets_in (cond c (x ∷ ys) ys)
less_left true true x p xs ys e h = subst (λ (d : Bool). octets_in (cond d (x ∷ filter p xs) (filter p xs)) ≤ length x + octets_in ys) (sym e) (omega (arith, h))
less_left true false x p xs ys e h = subst (λ (d : Bool). octets_in (cond d (x ∷ filter p xs) (filter p xs)) ≤ octets_in ys) (sym e) h
less_left false true x p xs ys e h = omega (arith, h)
less_left false false x p xs ys e h = h

less_of_left : (p q : List ℕ → Bool) (xs : List (List ℕ)) → octets_in (filter p (filter q xs)) ≤ octets_in (filter p xs)
less_of_left p q [] = omega arith
less_of_left p q (x ∷ xs) = less_left (q x) (p x) x p (filter q xs) (filter p xs) refl (less_of_left p q xs)

pub toggled_few : (on : Bool) (was : List (List ℕ)) → kept was ≡ was → total_length (beside_seen was) ≤ text_limit
    → total_length (beside_seen (flags_after on (seen_flag ∷ []) was)) ≤ text_limit
toggled_few true was is few =
    let come : kept (was ++ seen_flag ∷ []) ≡ insert_key (slice_cmp nat_cmp) was seen_flag = kept_join [] was (seen_flag ∷ [])
    ∙ ap (λ (ns : List (List ℕ)). insert_key (slice_cmp nat_cmp) ns seen_flag) is in
    subst (λ (ns : List (List ℕ)). total_length ns ≤ text_limit) (sym (ap beside_seen come ∙ beside_insert was)) few
toggled_few false was is few =
    omega (
      arith,
      few,
      total_is 0 (beside_seen was),
      total_is 0 (beside_seen (flags_after false (seen_flag ∷ []) was)),
      less_of_left (λ f. not (bytes_eq f seen_flag)) (λ f. not (list_any (λ g. bytes_eq f g) (kept (seen_flag ∷ [])))) was,
    )
