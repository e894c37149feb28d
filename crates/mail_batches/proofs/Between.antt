-- What differs between two mails is one list of items.
use Rattle.std.proofs.Common.{◌≡◌, ◌⊎◌, ◌↔◌, zero, suc, List, [], ◌∷◌, refl, sym, subst, ◌∙◌, inl, inr, arith}
use Rattle.std.specs.List.{Contains}
use Rattle.mail_batches.specs.Between.{AllAfter, AreInOrder}
use Rattle.mail_batches.specs.Steps.{ComesBefore}
use Rattle.mail_batches.specs.declared.item.Item.{Item}

-- ---- elements

pub in_head : (x : Item) (xs : List Item) → Contains (x ∷ xs) x
in_head x xs = (0, omega arith, refl)

pub in_tail : (x y : Item) (xs : List Item) → Contains xs y → Contains (x ∷ xs) y
in_tail x y xs c = let lt = c.1 in (suc c.0, omega (arith, lt), c.2)

pub is_in : (x y : Item) (xs : List Item) → Contains (x ∷ xs) y → (x ≡ y) ⊎ Contains xs y
is_in x y xs (zero, lt, e) = inl e
is_in x y xs (suc k, lt, e) = inr (k, omega (arith, lt), e)

pub none_in : (y : Item) → Contains [] y → ⊥
none_in y c = let lt = c.1 in omega (arith, lt)

-- ---- order

irreflexive : (i : Item) → ComesBefore i i → ⊥
irreflexive i (inl lt) = omega (arith, lt)
irreflexive i (inr both) = let lt = both.1 in omega (arith, lt)

asymmetric : (i j : Item) → ComesBefore i j → ComesBefore j i → ⊥
asymmetric i j (inl a) (inl b) = omega (arith, a, b)
asymmetric i j (inl a) (inr b) = let e = b.0 in omega (arith, a, e)
asymmetric i j (inr a) (inl b) = let e = a.0 in omega (arith, b, e)
asymmetric i j (inr a) (inr b) = let l = a.1 in let r = b.1 in omega (arith, l, r)

pub after_in : (i y : Item) (xs : List Item) → AllAfter i xs → Contains xs y → ComesBefore i y
after_in i y [] after c = absurd (none_in y c)
after_in i y (x ∷ xs) after c = elim (is_in x y xs c) [
  | inl same ↦ subst (ComesBefore i) same after.0
  | inr more ↦ after_in i y xs after.1 more
]

abbrev pub SameElements : List Item → List Item → Type 0
SameElements a b = (x : Item) → Contains a x ↔ Contains b x

-- the first of both is the same
same_heads : (i j : Item) (a b : List Item) → AllAfter i a → AllAfter j b → SameElements (i ∷ a) (j ∷ b) → i ≡ j
same_heads i j a b after_i after_j same = elim (is_in j i b ((same i).0 (in_head i a))) [
  | inl e ↦ sym e
  | inr more ↦ elim (is_in i j a ((same j).1 (in_head j b))) [
    | inl e ↦ e
    | inr others ↦ absurd (asymmetric j i (after_in j i b after_j more) (after_in i j a after_i others))
  ]
]

rest_in : (i j x : Item) (a b : List Item) → i ≡ j → AllAfter i a → ((y : Item) → Contains (i ∷ a) y → Contains (j ∷ b) y) → Contains a x → Contains b x
rest_in i j x a b e after to c = elim (is_in j x b (to x (in_tail i x a c))) [
  | inl same ↦ absurd (irreflexive i (subst (ComesBefore i) (sym (e ∙ same)) (after_in i x a after c)))
  | inr more ↦ more
]

pub one_between : (a b : List Item) → AreInOrder a → AreInOrder b → SameElements a b → a ≡ b
one_between [] [] p q same = refl
one_between [] (j ∷ b) p q same = absurd (none_in j ((same j).1 (in_head j b)))
one_between (i ∷ a) [] p q same = absurd (none_in i ((same i).0 (in_head i a)))
one_between (i ∷ a) (j ∷ b) p q same =
    let heads : i ≡ j = same_heads i j a b p.0 q.0 same in
    let others : a ≡ b = one_between a b p.1 q.1
    (λ x. (rest_in i j x a b heads p.0 (λ y. (same y).0), rest_in j i x b a (sym heads) q.0 (λ y. (same y).1))) in
    λ k. heads k ∷ others k
