-- Keys that pass a test, among those that were put in one after another.
use Rattle.std.proofs.Common.{◌≡◌, ℕ, List, [], ◌∷◌, Bool, true, false, cond, filter, length, count_by, refl, sym, ap, ◌∙◌, nat_cmp}
use Rattle.std.proofs.lemmas.Cmp.{nat_cmp_total}
use Rattle.std.proofs.lemmas.List.Sums.{length-filter}
use Rattle.std.proofs.lemmas.Map.Keys.{sorted_head, sorted_tail}
use Rattle.std.specs.declared.cmp.Ordering.{Ordering}
use Rattle.std.specs.declared.cmp.Ordering.TheVariants.{Less, Equal, Greater}
use Rattle.std.specs.Ordering.{match_ordering}
use Rattle.std.specs.List.{AllByRecursion}
use Rattle.std.specs.List.Sorted.{IsStrictlySortedBy}
use Rattle.std.specs.BTreeSet.{insert_key}
use Rattle.served_maps.proofs.AmongLemmas.{equal_is}
use Rattle.mail_maps.specs.Keywords.{sorted_into}
use Rattle.mail_maps.specs.Threads.{distinct}
use Rattle.mail_maps.proofs.MemberLemmas.{all_above, sorted_put, none_sorted}

module _ (p : ℕ → Bool) where
  put_first : (k : ℕ) (xs : List ℕ) → AllByRecursion (λ y. nat_cmp k y ≡ Less) xs → insert_key nat_cmp xs k ≡ k ∷ xs
  put_first k [] all = refl
  put_first k (x ∷ xs) all = ap (λ (o : Ordering). match_ordering o (k ∷ x ∷ xs) (x ∷ xs) (x ∷ insert_key nat_cmp xs k)) all.0

  all_kept : (P : ℕ → Type 0) (xs : List ℕ) → AllByRecursion P xs → AllByRecursion P (filter p xs)
  all_kept P [] all = tt
  all_kept P (x ∷ xs) all =
      elim (p x) as (λ (b : Bool). AllByRecursion P (cond b (x ∷ filter p xs) (filter p xs))) [ true ↦ (all.0, all_kept P xs all.1) | false ↦ all_kept P xs all.1 ]

  kept_at : (o : Ordering) (k x : ℕ) (xs : List ℕ) → nat_cmp k x ≡ o → IsStrictlySortedBy nat_cmp (x ∷ xs)
      → filter p (insert_key nat_cmp xs k) ≡ cond (p k) (insert_key nat_cmp (filter p xs) k) (filter p xs)
      → filter p (match_ordering o (k ∷ x ∷ xs) (x ∷ xs) (x ∷ insert_key nat_cmp xs k)) ≡ cond (p k) (insert_key nat_cmp (filter p (x ∷ xs)) k) (filter p (x ∷ xs))
  kept_at Less k x xs e s rest =
      let above : AllByRecursion (λ y. nat_cmp k y ≡ Less) (x ∷ xs) = (e, all_above nat_cmp nat_cmp_total k x xs e (sorted_head nat_cmp x xs s)) in
      ap (λ (ks : List ℕ). cond (p k) ks (filter p (x ∷ xs))) (sym (put_first k (filter p (x ∷ xs)) (all_kept (λ y. nat_cmp k y ≡ Less) (x ∷ xs) above)))
  kept_at Equal k x xs e s rest =
      elim (p x) as (λ (b : Bool). cond b (x ∷ filter p xs) (filter p xs)
      ≡ cond b (insert_key nat_cmp (cond b (x ∷ filter p xs) (filter p xs)) k) (cond b (x ∷ filter p xs) (filter p xs))) [
        | true ↦ sym (ap (λ (o : Ordering). match_ordering o (k ∷ x ∷ filter p xs) (x ∷ filter p xs) (x ∷ insert_key nat_cmp (filter p xs) k)) e)
        | false ↦ refl
      ] ∙ ap (λ (n : ℕ). cond (p n) (insert_key nat_cmp (filter p (x ∷ xs)) k) (filter p (x ∷ xs))) (sym (equal_is k x e))
  kept_at Greater k x xs e s rest =
      elim (p x) as (λ (b : Bool). cond b (x ∷ filter p (insert_key nat_cmp xs k)) (filter p (insert_key nat_cmp xs k))
      ≡ cond (p k) (insert_key nat_cmp (cond b (x ∷ filter p xs) (filter p xs)) k) (cond b (x ∷ filter p xs) (filter p xs))) [
        | true ↦
            ap (λ (ks : List ℕ). x ∷ ks) rest
            ∙ elim (p k) as (λ (b : Bool). x ∷ cond b (insert_key nat_cmp (filter p xs) k) (filter p xs) ≡ cond b (insert_key nat_cmp (x ∷ filter p xs) k) (x ∷ filter p xs)) [
              | true ↦ sym (ap (λ (o : Ordering). match_ordering o (k ∷ x ∷ filter p xs) (x ∷ filter p xs) (x ∷ insert_key nat_cmp (filter p xs) k)) e)
              | false ↦ refl
            ]
        | false ↦ rest
      ]

  kept_put : (xs : List ℕ) (k : ℕ) → IsStrictlySortedBy nat_cmp xs → filter p (insert_key nat_cmp xs k) ≡ cond (p k) (insert_key nat_cmp (filter p xs) k) (filter p xs)
  kept_put [] k s = elim (p k) as (λ (b : Bool). cond b (k ∷ []) [] ≡ cond b (insert_key nat_cmp [] k) []) [ true ↦ refl | false ↦ refl ]
  kept_put (x ∷ xs) k s = kept_at (nat_cmp k x) k x xs refl s (kept_put xs k (sorted_tail nat_cmp x xs s))

  kept_all : (ks xs : List ℕ) → IsStrictlySortedBy nat_cmp ks → filter p (sorted_into nat_cmp ks xs) ≡ sorted_into nat_cmp (filter p ks) (filter p xs)
  kept_all ks [] s = refl
  kept_all ks (x ∷ xs) s =
      kept_all (insert_key nat_cmp ks x) xs (sorted_put nat_cmp nat_cmp_total ks x s)
      ∙ ap (λ (ys : List ℕ). sorted_into nat_cmp ys (filter p xs)) (kept_put ks x s)
      ∙ elim (p x) as (λ (b : Bool). sorted_into nat_cmp (cond b (insert_key nat_cmp (filter p ks) x) (filter p ks)) (filter p xs)
      ≡ sorted_into nat_cmp (filter p ks) (cond b (x ∷ filter p xs) (filter p xs))) [ true ↦ refl | false ↦ refl ]

  -- so many of the distinct numbers pass as there are distinct ones that do
  pub count_distinct : (xs : List ℕ) → count_by p (distinct xs) ≡ length (distinct (filter p xs))
  count_distinct xs = sym (length-filter p (distinct xs)) ∙ ap (λ (ks : List ℕ). length ks) (kept_all [] xs (none_sorted nat_cmp nat_cmp_total))
