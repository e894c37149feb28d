-- What is found by a key, and what an option has.
use Rattle.std.proofs.Common.{◌≡◌, ◌≢◌, ◌⊎◌, ℕ, Bool, true, false, eqb, eqb-true, ne_eqb, eq-eqb, List, [], ◌∷◌, Option, Some, None, refl, sym, ap, ◌∙◌, inl, inr, if◌then◌else◌}
use Rattle.std.proofs.lemmas.Bool.{eqb-false}
use Rattle.told_folder.specs.Keyed.{with_key}

pub same_or_other : (m n : ℕ) → (m ≡ n) ⊎ (m ≢ n)
same_or_other m n = elim (eqb m n) as (λ b. eqb m n ≡ b → (m ≡ n) ⊎ (m ≢ n)) [ true ↦ λ e. inl (eqb-true _ _ e) | false ↦ λ e. inr (eqb-false _ _ e) ] refl

pub one_some : {A : Type 0} (x y : A) → Some x ≡ Some y → x ≡ y
one_some x y e = cc

pub some_none : {A : Type 0} (x : A) → Some x ≡ None → ⊥
some_none x e = cc

-- options that have the same values are the same
pub same_option : {A : Type 0} (a b : Option A) → ((x : A) → a ≡ Some x → b ≡ Some x) → ((x : A) → b ≡ Some x → a ≡ Some x) → a ≡ b
same_option None None to from = refl
same_option None (Some y) to from = from y refl
same_option (Some x) b to from = sym (to x refl)

module _ {X : Type 0} (key : X → ℕ) where
  -- the first is passed over by another key
  pub passed : (k : ℕ) (x : X) (xs : List X) → key x ≢ k → with_key key k (x ∷ xs) ≡ with_key key k xs
  passed k x xs other = ap (λ (b : Bool). if b then Some x else with_key key k xs) (ne_eqb _ _ other)

  pub taken : (k : ℕ) (x : X) (xs : List X) → key x ≡ k → with_key key k (x ∷ xs) ≡ Some x
  taken k x xs same = ap (λ (b : Bool). if b then Some x else with_key key k xs) (eq-eqb _ _ same)

  -- what is found has the key
  pub found_key : (k : ℕ) (xs : List X) (x : X) → with_key key k xs ≡ Some x → key x ≡ k
  found_key k [] x e = absurd (some_none x (sym e))
  found_key k (y ∷ ys) x e = elim (same_or_other (key y) k) [
    | inl same ↦ ap key (one_some x y (sym e ∙ taken k y ys same)) ∙ same
    | inr other ↦ found_key k ys x (sym (passed k y ys other) ∙ e)
  ]
