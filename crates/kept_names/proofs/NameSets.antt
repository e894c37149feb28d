-- Sets of names, and the names that are in them.
use Rattle.std.proofs.Common.{◌≡◌, ℕ, Bool, true, false, List, [], ◌∷◌, ◌++◌, map, refl, sym, ap, ◌∙◌, nat_cmp, bytes_eq, Vec, Global}
use Rattle.std.specs.Prelude.{◌||◌}
use Rattle.std.specs.List.{list_any}
use Rattle.std.specs.Ordering.{is_eq, match_ordering}
use Rattle.std.specs.declared.cmp.Ordering.TheVariants.{Less, Equal, Greater}
use Rattle.std.specs.BTreeMap.{is_at}
use Rattle.std.specs.BTreeSet.{insert_key}
use Rattle.std.specs.Cmp.Lexicographic.{slice_cmp}
use Rattle.std.proofs.lemmas.Slice.Eq.{bytes_eq-Decides}
use Rattle.std.proofs.lemmas.Map.Text.{is_eq-slice_cmp}

turned : (a b c : Bool) → (a || (b || c)) ≡ (b || (a || c))
turned true true c = refl
turned true false c = refl
turned false b c = refl

once : (a c : Bool) → (a || c) ≡ (a || (a || c))
once true c = refl
once false c = refl

same : (k x : List ℕ) → slice_cmp nat_cmp k x ≡ Equal → k ≡ x
same k x e = (bytes_eq-Decides k x).0 (sym (is_eq-slice_cmp k x) ∙ ap is_eq e)

-- a name is in a set with one more where it is that one, or was in the set
pub any_inserted : (n k : List ℕ) (xs : List (List ℕ)) → list_any (bytes_eq n) (insert_key (slice_cmp nat_cmp) xs k) ≡ (bytes_eq n k || list_any (bytes_eq n) xs)
any_inserted n k [] = refl
any_inserted n k (x ∷ xs) =
    elim (slice_cmp nat_cmp k x) as (λ o. slice_cmp nat_cmp k x ≡ o → list_any (bytes_eq n) (match_ordering o (k ∷ x ∷ xs) (x ∷ xs) (x ∷ insert_key (slice_cmp nat_cmp) xs k))
    ≡ (bytes_eq n k || (bytes_eq n x || list_any (bytes_eq n) xs))) [
      | Less ↦ λ e. refl
      | Equal ↦ λ e. once (bytes_eq n x) (list_any (bytes_eq n) xs) ∙ ap (λ (m : List ℕ). bytes_eq n m || (bytes_eq n x || list_any (bytes_eq n) xs)) (sym (same k x e))
      | Greater ↦ λ e. ap (λ (b : Bool). bytes_eq n x || b) (any_inserted n k xs) ∙ turned (bytes_eq n x) (bytes_eq n k) (list_any (bytes_eq n) xs)
    ] refl

-- what a search by halving finds is what is there
pub any_found : (n : List ℕ) (ks : List (Vec ℕ Global)) → list_any (is_at (λ (k : Vec ℕ Global). slice_cmp nat_cmp n k.items)) ks ≡ list_any (bytes_eq n) (map (λ (v : Vec ℕ Global). v.items) ks)
any_found n [] = refl
any_found n (k ∷ ks) = ap (λ (b : Bool). b || list_any (is_at (λ (k : Vec ℕ Global). slice_cmp nat_cmp n k.items)) ks) (is_eq-slice_cmp n k.items)
    ∙ ap (λ (b : Bool). bytes_eq n k.items || b) (any_found n ks)

pub any_more : (n : List ℕ) (xs : List (List ℕ)) (x : List ℕ) → list_any (bytes_eq n) (xs ++ x ∷ []) ≡ (bytes_eq n x || list_any (bytes_eq n) xs)
any_more n [] x = refl
any_more n (y ∷ xs) x = ap (λ (b : Bool). bytes_eq n y || b) (any_more n xs x) ∙ turned (bytes_eq n y) (bytes_eq n x) (list_any (bytes_eq n) xs)
