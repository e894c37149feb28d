-- Lists in strict order are known by their members.
use Rattle.std.proofs.Common.{◌≡◌, ◌↔◌, ℕ, zero, suc, ◌⊎◌, inl, inr, List, [], ◌∷◌, Contains, Bool, true, false, cond, filter}
use Rattle.std.proofs.Common.{refl, sym, ap, subst, ◌∙◌, arith}
use Rattle.std.specs.declared.cmp.Ordering.{Ordering}
use Rattle.std.specs.declared.cmp.Ordering.TheVariants.{Less, Equal, Greater}
use Rattle.std.specs.Ordering.{ordering_reverse}
use Rattle.std.specs.Cmp.{IsTotalOrder}
use Rattle.std.specs.List.{AllByRecursion}
use Rattle.std.specs.List.Sorted.{IsStrictlySortedBy}
use Rattle.std.proofs.lemmas.Cmp.{nat_cmp_total, on_total, then_total, tied_itself}
use Rattle.std.proofs.lemmas.Map.Keys.{sorted_head, sorted_tail}
use Rattle.query_lists.specs.Ordered.{row_cmp}

module _ {K : Type 0} where
  -- the element is the first, or among the rest
  abbrev pub IsMember : K → List K → Type 0
  IsMember e [] = ⊥
  IsMember e (x ∷ xs) = (x ≡ e) ⊎ IsMember e xs

  pub has_from : (xs : List K) (e : K) → Contains xs e → IsMember e xs
  has_from [] e (k, within, is) = absurd (omega arith)
  has_from (x ∷ xs) e (zero, within, is) = inl is
  has_from (x ∷ xs) e (suc k, within, is) = inr (has_from xs e (k, omega arith, is))

  pub contains_from : (xs : List K) (e : K) → IsMember e xs → Contains xs e
  contains_from [] e h = absurd h
  contains_from (x ∷ xs) e (inl is) = (0, omega arith, is)
  contains_from (x ∷ xs) e (inr h) =
      let c : Contains xs e = contains_from xs e h in
      (suc c.0, omega arith, c.2)

  -- what holds of all holds of a member
  pub at_member : (P : K → Type 0) (xs : List K) → AllByRecursion P xs → (e : K) → IsMember e xs → P e
  at_member P [] all e h = absurd h
  at_member P (x ∷ xs) all e (inl is) = subst P is all.0
  at_member P (x ∷ xs) all e (inr h) = at_member P xs all.1 e h

  module _ (p : K → Bool) where
    kept_first : (x e : K) (xs : List K) → p x ≡ true → ((IsMember e (filter p xs) → IsMember e xs × (p e ≡ true))) → (x ≡ e) ⊎ IsMember e (filter p xs)
        → ((x ≡ e) ⊎ IsMember e xs) × (p e ≡ true)
    kept_first x e xs passes rest (inl is) = (inl is, subst (λ k. p k ≡ true) is passes)
    kept_first x e xs passes rest (inr h) = (inr (rest h).0, (rest h).1)

    -- what a filter keeps is a member that passes
    pub has_kept : (xs : List K) (e : K) → IsMember e (filter p xs) → IsMember e xs × (p e ≡ true)
    has_kept [] e h = absurd h
    has_kept (x ∷ xs) e h =
        elim (p x) as (λ b. p x ≡ b → IsMember e (cond b (x ∷ filter p xs) (filter p xs)) → ((x ≡ e) ⊎ IsMember e xs) × (p e ≡ true)) [
          | true ↦ λ passes k. kept_first x e xs passes (has_kept xs e) k
          | false ↦ λ fails k. (inr (has_kept xs e k).0, (has_kept xs e k).1)
        ] refl h

    first_kept : (x e : K) (xs : List K) (b : Bool) → p x ≡ b → p e ≡ true → (x ≡ e) ⊎ IsMember e (filter p xs) → IsMember e (cond b (x ∷ filter p xs) (filter p xs))
    first_kept x e xs true is passes h = h
    first_kept x e xs false fails passes (inl is) = absurd (let f : false ≡ true = sym fails ∙ ap p is ∙ passes in cc)
    first_kept x e xs false fails passes (inr h) = h

    either : (x e : K) (xs : List K) → (IsMember e xs → IsMember e (filter p xs)) → (x ≡ e) ⊎ IsMember e xs → (x ≡ e) ⊎ IsMember e (filter p xs)
    either x e xs rest (inl is) = inl is
    either x e xs rest (inr h) = inr (rest h)

    -- a member that passes is kept
    pub kept_has : (xs : List K) (e : K) → p e ≡ true → IsMember e xs → IsMember e (filter p xs)
    kept_has [] e passes h = absurd h
    kept_has (x ∷ xs) e passes h = first_kept x e xs (p x) refl passes (either x e xs (kept_has xs e passes) h)

  -- tests that agree at each member keep the same
  pub same_kept : (p q : K → Bool) (xs : List K) → ((e : K) → IsMember e xs → p e ≡ q e) → filter p xs ≡ filter q xs
  same_kept p q [] agree = refl
  same_kept p q (x ∷ xs) agree =
      ap (λ b. cond b (x ∷ filter p xs) (filter p xs)) (agree x (inl refl))
      ∙ ap (λ l. cond (q x) (x ∷ l) l) (same_kept p q xs (λ e h. agree e (inr h)))

module _ {K : Type 0} (cmp : K → K → Ordering) (total : IsTotalOrder cmp) where
  -- none is before itself
  not_before_itself : (x : K) → cmp x x ≡ Less → ⊥
  not_before_itself x before = let e : Less ≡ Equal = sym before ∙ tied_itself total x in cc

  -- and no two are each before the other
  not_both : (x y : K) → cmp x y ≡ Less → cmp y x ≡ Less → ⊥
  not_both x y before behind = let e : Less ≡ Greater = sym before ∙ total.antisymm x y ∙ ap ordering_reverse behind in cc

  first_same : (x y : K) (xs ys : List K) → ((e : K) → IsMember e xs → cmp x e ≡ Less) → ((e : K) → IsMember e ys → cmp y e ≡ Less)
      → (y ≡ x) ⊎ IsMember x ys → (x ≡ y) ⊎ IsMember y xs → y ≡ x
  first_same x y xs ys below above (inl e) back = e
  first_same x y xs ys below above (inr h) (inl e) = sym e
  first_same x y xs ys below above (inr h) (inr k) = absurd (not_both x y (below y k) (above x h))

  later : (x y e : K) (ys : List K) → y ≡ x → cmp x e ≡ Less → (y ≡ e) ⊎ IsMember e ys → IsMember e ys
  later x y e ys same before (inl is) = absurd (not_before_itself x (subst (λ k. cmp x k ≡ Less) (sym is ∙ same) before))
  later x y e ys same before (inr h) = h

  -- two lists in strict order with the same members are one
  pub same_members : (xs ys : List K) → IsStrictlySortedBy cmp xs → IsStrictlySortedBy cmp ys
      → ((e : K) → IsMember e xs → IsMember e ys) → ((e : K) → IsMember e ys → IsMember e xs) → xs ≡ ys
  same_members [] [] up vp there back = refl
  same_members [] (y ∷ ys) up vp there back = absurd (back y (inl refl))
  same_members (x ∷ xs) [] up vp there back = absurd (there x (inl refl))
  same_members (x ∷ xs) (y ∷ ys) up vp there back =
      let below : (e : K) → IsMember e xs → cmp x e ≡ Less = at_member (λ e. cmp x e ≡ Less) xs (sorted_head cmp x xs up) in
      let above : (e : K) → IsMember e ys → cmp y e ≡ Less = at_member (λ e. cmp y e ≡ Less) ys (sorted_head cmp y ys vp) in
      let same : y ≡ x = first_same x y xs ys below above (there x (inl refl)) (back y (inl refl)) in
      let rest : xs ≡ ys = same_members xs ys (sorted_tail cmp x xs up) (sorted_tail cmp y ys vp)
      (λ e h. later x y e ys same (below e h) (there e (inr h))) (λ e h. later y x e xs (sym same) (above e h) (back e (inr h))) in
      cc

-- rows in order of a total order and then of their numbers are known by their members
pub one_list : {V : Type 0} (cmp : V → V → Ordering) (a b : List (ℕ × V)) → IsTotalOrder cmp → IsStrictlySortedBy (row_cmp cmp) a → IsStrictlySortedBy (row_cmp cmp) b
    → ((e : ℕ × V) → Contains a e ↔ Contains b e) → a ≡ b
one_list {V} cmp a b total up vp same =
    let rows_total : IsTotalOrder (row_cmp cmp) = then_total (on_total (λ (e : ℕ × V). e.1) total) (on_total (λ (e : ℕ × V). e.0) nat_cmp_total) in
    same_members (row_cmp cmp) rows_total a b up vp
    (λ e h. has_from b e ((same e).0 (contains_from a e h))) (λ e h. has_from a e ((same e).1 (contains_from b e h)))
