-- The first of those that are ready, taken out.
use Rattle.std.proofs.Common.{◌≡◌, ℕ, suc, List, [], ◌∷◌, map, Bor, true, false, not, cond, All, Less, Equal, inl, inr, nat_cmp, refl, sym, ap, ◌∙◌, arith}
use Rattle.std.specs.BTreeMap.Range.{IsLtBy}
use Rattle.std.specs.Cmp.Lexicographic.{slice_cmp}
use Rattle.std.specs.Ordering.{is_lt}
use Rattle.std.specs.Str.{bytes_eq}
use Rattle.std.proofs.lemmas.Bool.{and_from, and_parts, or_cases}
use Rattle.std.proofs.lemmas.Cmp.{nat_list_cmp_total, tied_itself}
use Rattle.jmap_arguments.specs.Arguments.{is_among}
use Rattle.set_arguments.specs.Arguments.{Keyed}
use Rattle.set_arguments.specs.reading.Keys.{ascends, is_below_all}
use Rattle.set_order.specs.Ordered.{without_key}
use Rattle.set_order.proofs.LeftLemmas.{greater, text_cmp}
use Rattle.set_order.proofs.PendingLemmas.{is_same}

-- ---- keys above the one that was taken

above : (key : Bor (List ℕ)) (ks : List (Bor (List ℕ))) → All (IsLtBy text_cmp key) ks → (other : List ℕ) → is_among other (map (λ k. k.now) ks) ≡ true
    → slice_cmp nat_cmp key.now other ≡ Less
above key [] all other there = absurd (let no : false ≡ true = there in cc)
above key (k ∷ ks) all other there = elim (or_cases (bytes_eq k.now other) (is_among other (map (λ k. k.now) ks)) there) [
  | inl is ↦ ap (slice_cmp nat_cmp key.now) (sym (is_same k.now other is)) ∙ all 0 k (omega arith)
  | inr later ↦ above key ks (λ i d within. all (suc i) d (omega arith)) other later
]

-- none that is ready still is below it
pub least_of : (key : Bor (List ℕ)) (ks : List (Bor (List ℕ))) → All (IsLtBy text_cmp key) ks → (other : List ℕ) → is_among other (map (λ k. k.now) ks) ≡ true
    → is_lt (slice_cmp nat_cmp other key.now) ≡ false
least_of key ks all other there = ap is_lt (greater key.now other (above key ks all other there))

-- it isn't ready twice
pub once_ready : (key : Bor (List ℕ)) (ks : List (Bor (List ℕ))) → All (IsLtBy text_cmp key) ks → is_among key.now (map (λ k. k.now) ks) ≡ false
once_ready key ks all = elim (is_among key.now (map (λ k. k.now) ks)) as (λ b. is_among key.now (map (λ k. k.now) ks) ≡ b → b ≡ false) [
  | true ↦ λ there. let both : Less ≡ Equal = sym (above key ks all key.now there) ∙ tied_itself nat_list_cmp_total key.now in absurd (cc)
  | false ↦ λ apart. refl
] refl

-- ---- those that are left

below_without : (first key : List ℕ) (cs : Keyed) → is_below_all first cs ≡ true → is_below_all first (without_key key cs) ≡ true
below_without first key [] below = refl
below_without first key (c ∷ cs) below =
    let parts = and_parts (is_lt (slice_cmp nat_cmp first c.0)) (is_below_all first cs) below in
    elim (bytes_eq c.0 key) as (λ b. is_below_all first (cond (not b) (c ∷ without_key key cs) (without_key key cs)) ≡ true) [
      | true ↦ below_without first key cs parts.1
      | false ↦ and_from _ _ parts.0 (below_without first key cs parts.1)
    ]

-- their keys ascend still
pub ascends_without : (key : List ℕ) (cs : Keyed) → ascends cs ≡ true → ascends (without_key key cs) ≡ true
ascends_without key [] ascend = refl
ascends_without key (c ∷ cs) ascend =
    let parts = and_parts (is_below_all c.0 cs) (ascends cs) ascend in
    elim (bytes_eq c.0 key) as (λ b. ascends (cond (not b) (c ∷ without_key key cs) (without_key key cs)) ≡ true) [
      | true ↦ ascends_without key cs parts.1
      | false ↦ and_from _ _ (below_without c.0 key cs parts.0) (ascends_without key cs parts.1)
    ]
