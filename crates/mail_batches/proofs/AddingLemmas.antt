-- Marks are noted, and items are added, one element after the other.
use Rattle.std.proofs.Common.{◌≡◌, ◌≢◌, ◌↔◌, ◌⊎◌, ◌+◌, ◌<◌, ◌≤◌, ℕ, Bool, true, false, cond, eq-eqb, ne_eqb, get_or, length, take, nat_cmp, List, [], ◌∷◌, ◌++◌, Option, refl, sym, ap, subst, ◌∙◌, inl, inr, append_assoc, append-nil}
use Rattle.std.specs.BTreeMap.{is_at}
use Rattle.std.specs.BTreeSet.{BTreeSet, contains}
use Rattle.std.specs.List.{list_any}
use Rattle.std.proofs.lemmas.List.{take_all, take_more}
use Rattle.told_folder.specs.declared.message.Message.{Message}
use Rattle.told_mail.specs.Mail.{Mail}
use Rattle.mail_batches.specs.Between.{HasMark}
use Rattle.mail_batches.specs.reading.Adding.{Adds, AnyOf, IsLost, IsOther, IsOtherAt, Notes, Parts, listed}
use Rattle.mail_batches.specs.declared.item.Item.{Item}
use Rattle.mail_batches.proofs.Found.{same_or_other}
use Rattle.mail_batches.proofs.RuleLemmas.{false_true}
use Rattle.mail_batches.proofs.TableLemmas.{number_test}

-- ---- one element more

any_split : {X : Type 0} (P : X → Type 0) (xs : List X) (x : X) → AnyOf P (xs ++ x ∷ []) → AnyOf P xs ⊎ P x
any_split P [] x (inl p) = inr p
any_split P [] x (inr n) = absurd n
any_split P (y ∷ ys) x (inl p) = inl (inl p)
any_split P (y ∷ ys) x (inr r) = elim (any_split P ys x r) [ inl a ↦ inl (inr a) | inr p ↦ inr p ]

any_join : {X : Type 0} (P : X → Type 0) (xs : List X) (x : X) → AnyOf P xs ⊎ P x → AnyOf P (xs ++ x ∷ [])
any_join P [] x (inl n) = absurd n
any_join P [] x (inr p) = inl p
any_join P (y ∷ ys) x (inl (inl p)) = inl p
any_join P (y ∷ ys) x (inl (inr r)) = inr (any_join P ys x (inl r))
any_join P (y ∷ ys) x (inr p) = inr (any_join P ys x (inr p))

next_taken : {X : Type 0} (xs : List X) (i : ℕ) (x : X) → i < length xs → x ≡ get_or xs i x → take (i + 1) xs ≡ take i xs ++ x ∷ []
next_taken {X = X} xs i x within is = take_more xs i x within ∙ ap (λ (y : X). take i xs ++ y ∷ []) (sym is)

-- ---- marks

-- nothing is noted
pub none_noted : (old : ℕ → Bool) (P : ℕ → Type 0) → ((q : ℕ) → P q → ⊥) → Notes old old P
none_noted old P none = λ q. (λ h. inl h, λ s. elim s [ inl h ↦ h | inr p ↦ absurd (none q p) ])

-- these are noted, and then those
pub both_noted : (old mid new : ℕ → Bool) (P R : ℕ → Type 0) → Notes old mid P → Notes mid new R → Notes old new (λ q. P q ⊎ R q)
both_noted old mid new P R first next = λ q. (
  λ h. elim ((next q).0 h) [
    | inl m ↦ elim ((first q).0 m) [ inl o ↦ inl o | inr p ↦ inr (inl p) ]
    | inr r ↦ inr (inr r)
  ],
  λ s. elim s [
    | inl o ↦ (next q).1 (inl ((first q).1 (inl o)))
    | inr e ↦ elim e [ inl p ↦ (next q).1 (inl ((first q).1 (inr p))) | inr r ↦ (next q).1 (inr r) ]
  ],
)

-- a mark is noted
one_noted : (mid new : ℕ → Bool) (k : ℕ) (R : ℕ → Type 0) → ((q : ℕ) → new q ≡ cond (is_at (nat_cmp k) q) true (mid q)) → ((q : ℕ) → k ≡ q → R q) → ((q : ℕ) → R q → k ≡ q)
    → Notes mid new R
one_noted mid new k R put to from = λ q. (there q (same_or_other k q), back q (same_or_other k q))
  where
    at_key : (q : ℕ) → k ≡ q → new q ≡ true
    at_key q same = put q ∙ ap (λ (b : Bool). cond b true (mid q)) (number_test k q ∙ eq-eqb k q same)

    off_key : (q : ℕ) → k ≢ q → new q ≡ mid q
    off_key q other = put q ∙ ap (λ (b : Bool). cond b true (mid q)) (number_test k q ∙ ne_eqb k q other)

    there : (q : ℕ) → (k ≡ q) ⊎ (k ≢ q) → new q ≡ true → (mid q ≡ true) ⊎ R q
    there q (inl same) h = inr (to q same)
    there q (inr other) h = inl (sym (off_key q other) ∙ h)

    back : (q : ℕ) → (k ≡ q) ⊎ (k ≢ q) → (mid q ≡ true) ⊎ R q → new q ≡ true
    back q (inl same) s = at_key q same
    back q (inr other) (inl m) = off_key q other ∙ m
    back q (inr other) (inr r) = absurd (other (from q r))

-- what was noted of those before, and what is noted of the next
pub part_noted : {X : Type 0} (F : ℕ → X → Type 0) (xs : List X) (i : ℕ) (x : X) (old mid new : ℕ → Bool) → i < length xs → x ≡ get_or xs i x
    → Notes old mid (λ q. AnyOf (F q) (take i xs)) → Notes mid new (λ q. F q x) → Notes old new (λ q. AnyOf (F q) (take (i + 1) xs))
part_noted {X = X} F xs i x old mid new within is before here =
    let all = both_noted old mid new (λ q. AnyOf (F q) (take i xs)) (λ q. F q x) before here in
    subst (λ (ys : List X). Notes old new (λ q. AnyOf (F q) ys)) (sym (next_taken xs i x within is))
    (λ q. (
      λ h. elim ((all q).0 h) [ inl o ↦ inl o | inr s ↦ inr (any_join (F q) (take i xs) x s) ],
      λ s. elim s [ inl o ↦ (all q).1 (inl o) | inr a ↦ (all q).1 (inr (any_split (F q) (take i xs) x a)) ],
    ))

pub lost_noted : (other : Mail) (x : Message) (b : Bool) (old new : ℕ → Bool) → (b ≡ true) ↔ HasMark other x.mark → b ≡ false
    → ((q : ℕ) → new q ≡ cond (is_at (nat_cmp x.mark) q) true (old q)) → Notes old new (λ q. IsLost other q x)
lost_noted other x b old new both e put =
    let none : HasMark other x.mark → ⊥ = λ h. false_true b e (both.1 h) in
    one_noted old new x.mark (λ q. IsLost other q x) put (λ q same. (same, λ h. none (subst (HasMark other) (sym same) h))) (λ q l. l.0)

pub lost_passed : (other : Mail) (x : Message) (b : Bool) (old : ℕ → Bool) → (b ≡ true) ↔ HasMark other x.mark → b ≡ true → Notes old old (λ q. IsLost other q x)
lost_passed other x b old both e = none_noted old (λ q. IsLost other q x) (λ q l. l.1 (subst (HasMark other) l.0 (both.0 e)))

pub other_noted : (m : Mail) (folder : ℕ) (x : Message) (b : Bool) (old new : ℕ → Bool) → (b ≡ true) ↔ IsOther m folder x → b ≡ true
    → ((q : ℕ) → new q ≡ cond (is_at (nat_cmp x.mark) q) true (old q)) → Notes old new (λ q. IsOtherAt m folder q x)
other_noted m folder x b old new both e put = one_noted old new x.mark (λ q. IsOtherAt m folder q x) put (λ q same. (same, both.0 e)) (λ q l. l.0)

pub other_passed : (m : Mail) (folder : ℕ) (x : Message) (b : Bool) (old : ℕ → Bool) → (b ≡ true) ↔ IsOther m folder x → b ≡ false → Notes old old (λ q. IsOtherAt m folder q x)
other_passed m folder x b old both e = none_noted old (λ q. IsOtherAt m folder q x) (λ q l. false_true b e (both.1 l.1))

-- all are noted
pub all_noted : {X : Type 0} (F : ℕ → X → Type 0) (xs ys : List X) (n : ℕ) (old new : ℕ → Bool) → length xs ≤ n → xs ≡ ys → Notes old new (λ q. AnyOf (F q) (take n xs))
    → Notes old new (λ q. AnyOf (F q) ys)
all_noted {X = X} F xs ys n old new le same h = subst (λ (zs : List X). Notes old new (λ q. AnyOf (F q) zs)) (take_all n xs le ∙ same) h

-- an empty set
pub none_yet : (s : BTreeSet ℕ) (P : ℕ → Type 0) → s.keys ≡ [] → ((q : ℕ) → P q → ⊥) → Notes (λ _. false) (contains nat_cmp s) P
none_yet s P empty none = λ q. (
  λ h. inl (sym (ap (list_any (is_at (nat_cmp q))) empty) ∙ h),
  λ e. elim e [ inl f ↦ ap (list_any (is_at (nat_cmp q))) empty ∙ f | inr p ↦ absurd (none q p) ],
)

-- ---- items

module _ {X : Type 0} (R : X → Option Item → Type 0) where
  parts_more : (xs : List X) (x : X) (o : Option Item) (block : List Item) → Parts R xs block → R x o → Parts R (xs ++ x ∷ []) (block ++ listed o)
  parts_more [] x o block p r = (o, r, ([], ap (λ (l : List Item). l ++ listed o) p ∙ sym (append-nil (listed o)), refl))
  parts_more (y ∷ ys) x o block p r =
      (p.0, p.1, (p.2.0 ++ listed o, ap (λ (l : List Item). l ++ listed o) p.2.1 ∙ append_assoc (listed p.0) p.2.0 (listed o), parts_more ys x o p.2.0 p.2.2 r))

  pub none_added : (old : List Item) → Adds R [] old old
  none_added old = ([], sym (append-nil old), refl)

  pub adds_more : (xs : List X) (x : X) (o : Option Item) (old mid new : List Item) → Adds R xs old mid → R x o → new ≡ mid ++ listed o → Adds R (xs ++ x ∷ []) old new
  adds_more xs x o old mid new a r e =
      (a.0 ++ listed o, e ∙ ap (λ (l : List Item). l ++ listed o) a.1 ∙ append_assoc old a.0 (listed o), parts_more xs x o a.0 a.2 r)

  -- the next element of a slice
  pub adds_next : (xs : List X) (i : ℕ) (x : X) (o : Option Item) (old mid new : List Item) → i < length xs → x ≡ get_or xs i x → Adds R (take i xs) old mid → R x o
      → new ≡ mid ++ listed o → Adds R (take (i + 1) xs) old new
  adds_next xs i x o old mid new within is a r e =
      subst (λ (ys : List X). Adds R ys old new) (sym (next_taken xs i x within is)) (adds_more (take i xs) x o old mid new a r e)

  -- all elements of a slice
  pub adds_all : (xs : List X) (n : ℕ) (old new : List Item) → length xs ≤ n → Adds R (take n xs) old new → Adds R xs old new
  adds_all xs n old new le a = subst (λ (ys : List X). Adds R ys old new) (take_all n xs le) a

  -- these are left of the elements
  abbrev pub AddsSome : List X → List X → List Item → List Item → Type 0
  AddsSome xs left old new = (done : List X) × (xs ≡ done ++ left) × Adds R done old new

  pub begins_adding : (xs left : List X) (old : List Item) → left ≡ xs → AddsSome xs left old old
  begins_adding xs left old all = ([], sym all, none_added old)

  pub adds_one : (xs left next : List X) (x : X) (o : Option Item) (old mid new : List Item) → AddsSome xs left old mid → left ≡ x ∷ next → R x o → new ≡ mid ++ listed o
      → AddsSome xs next old new
  adds_one xs left next x o old mid new a is r e =
      (a.0 ++ x ∷ [], a.1 ∙ ap (λ (l : List X). a.0 ++ l) is ∙ sym (append_assoc a.0 (x ∷ []) next), adds_more a.0 x o old mid new a.2 r e)

  pub ends_adding : (xs left : List X) (old new : List Item) → AddsSome xs left old new → left ≡ [] → Adds R xs old new
  ends_adding xs left old new a none =
      subst (λ (ys : List X). Adds R ys old new) (sym (a.1 ∙ ap (λ (l : List X). a.0 ++ l) none ∙ append-nil a.0)) a.2
