-- Entries that come in order go to the end.
use Rattle.std.proofs.Common.{◌≡◌, ℕ, List, [], ◌∷◌, ◌++◌, refl, sym, ap, ◌∙◌, subst, map, nat_cmp, arith, append_assoc}
use Rattle.std.specs.declared.cmp.Ordering.{Ordering}
use Rattle.std.specs.declared.cmp.Ordering.TheVariants.{Less, Greater}
use Rattle.std.specs.Ordering.{match_ordering}
use Rattle.std.specs.BTreeMap.{insert_entry}
use Rattle.std.specs.Map.{keys_of}
use Rattle.std.specs.List.{AllByRecursion}
use Rattle.std.specs.List.Sorted.{IsStrictlySortedBy}
use Rattle.std.proofs.lemmas.Map.Keys.{sorted_head, sorted_tail}
use Rattle.std.proofs.lemmas.Grind.{common_steps}

flipped : (x k : ℕ) → nat_cmp x k ≡ Less → nat_cmp k x ≡ Greater
flipped x k h = grind (arith, common_steps)

module _ {X : Type 0} where
  at_last : (P : ℕ → Type 0) (a : List (ℕ × X)) (k : ℕ) (w : X) (b : List (ℕ × X)) → AllByRecursion P (keys_of (a ++ (k, w) ∷ b)) → P k
  at_last P [] k w b h = h.0
  at_last P (e ∷ a) k w b h = at_last P a k w b h.1

  pub insert_in_order : (a : List (ℕ × X)) (k : ℕ) (w : X) (b : List (ℕ × X)) → IsStrictlySortedBy nat_cmp (keys_of (a ++ (k, w) ∷ b))
      → insert_entry nat_cmp a k w ≡ a ++ (k, w) ∷ []
  insert_in_order [] k w b h = refl
  insert_in_order (e ∷ a) k w b h =
      ap (λ (o : Ordering). match_ordering o ((k, w) ∷ e ∷ a) ((e.0, w) ∷ a) (e ∷ insert_entry nat_cmp a k w))
      (flipped e.0 k (at_last (λ y. nat_cmp e.0 y ≡ Less) a k w b (sorted_head nat_cmp e.0 (keys_of (a ++ (k, w) ∷ b)) h)))
      ∙ ap (λ (r : List (ℕ × X)). e ∷ r) (insert_in_order a k w b (sorted_tail nat_cmp e.0 (keys_of (a ++ (k, w) ∷ b)) h))

  pub keys_of-keyed : (f : ℕ → X) (ts : List ℕ) → keys_of (map {B = ℕ × X} (λ t. (t, f t)) ts) ≡ ts
  keys_of-keyed f [] = refl
  keys_of-keyed f (t ∷ ts) = ap (λ (r : List ℕ). t ∷ r) (keys_of-keyed f ts)

  -- one more entry, put where all are in order
  pub put_next : (all a : List (ℕ × X)) (k : ℕ) (w : X) (b m : List (ℕ × X)) → IsStrictlySortedBy nat_cmp (keys_of all)
      → a ++ (k, w) ∷ b ≡ all → m ≡ insert_entry nat_cmp a k w → m ++ b ≡ all
  put_next all a k w b m sorted is made =
      let S : List (ℕ × X) → Type 0 = λ es. IsStrictlySortedBy nat_cmp (keys_of es) in
      ap (λ (r : List (ℕ × X)). r ++ b) (made ∙ insert_in_order a k w b (subst S (sym is) sorted)) ∙ append_assoc a ((k, w) ∷ []) b ∙ is
