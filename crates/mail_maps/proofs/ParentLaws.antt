-- The parent of a folder is above it, and no longer folder is.
use Rattle.std.proofs.Common.{◌≡◌, ◌⊎◌, zero, suc, ◌<◌, ◌≤◌, List, [], ◌∷◌, Bool, true, false, cond, if◌then◌else◌, Option, Some, None}
use Rattle.std.proofs.Common.{refl, sym, ap, ◌∙◌, inl, inr, arith, filter, length, ltb, ltb-true, ltb-false}
use Rattle.std.specs.Bool.{IsTrue}
use Rattle.std.specs.List.{AllByRecursion, Contains}
use Rattle.told_folder.specs.declared.message.Folder.{Folder}
use Rattle.mail_maps.specs.Hierarchy.{is_above, longer, longest, parent_in, IsParent}
use Rattle.mail_maps.proofs.FrontLemmas.{IsIn, not_both, some_folder}

-- no longer than this
abbrev IsWithin : Folder → Folder → Type 0
IsWithin g h = length h.name ≤ length g.name

abbrev BestWithin : Folder → Option Folder → Type 0
BestWithin g None = Unit {0}
BestWithin g (Some b) = IsWithin g b

within_same : (a b : Folder) → a ≡ b → IsWithin b a
within_same a b e = let l : length a.name ≡ length b.name = ap (λ (f : Folder). length f.name) e in omega (arith, l)

best_same : (g : Folder) (best : Option Folder) → best ≡ Some g → BestWithin g best
best_same g None e = tt
best_same g (Some b) e = within_same b g (some_folder b g e)

-- the longer of two is one of them, and no shorter than either
longer_least : (g : Folder) (best : Option Folder) (h : Folder) → IsWithin g (longer best h) → IsWithin g h × BestWithin g best
longer_least g None h w = (w, tt)
longer_least g (Some b) h w =
    elim (ltb (length b.name) (length h.name)) as (λ (t : Bool). ltb (length b.name) (length h.name) ≡ t → IsWithin g (if t then h else b) → IsWithin g h × IsWithin g b) [
      | true ↦ λ t v. (v, (let less : length b.name < length h.name = ltb-true _ _ t in omega (arith, less, v)))
      | false ↦ λ t v. ((let least : length h.name ≤ length b.name = ltb-false _ _ t in omega (arith, least, v)), v)
    ] refl w

longer_one : (g : Folder) (best : Option Folder) (h : Folder) → longer best h ≡ g → (best ≡ Some g) ⊎ (h ≡ g)
longer_one g None h e = inr e
longer_one g (Some b) h e =
    elim (ltb (length b.name) (length h.name)) as (λ (t : Bool). (if t then h else b) ≡ g → (Some b ≡ Some g) ⊎ (h ≡ g)) [
      | true ↦ λ f. inr f
      | false ↦ λ f. inl (ap (λ (x : Folder). Some x) f)
    ] e

record IsLongest (g : Folder) (best : Option Folder) (gs : List Folder) : Type 0 where
  pub there : (best ≡ Some g) ⊎ IsIn g gs
  pub least : BestWithin g best
  pub all : AllByRecursion (IsWithin g) gs

longest_of : (g : Folder) (best : Option Folder) (gs : List Folder) → longest best gs ≡ Some g → IsLongest g best gs
longest_of g best [] e = record { there = inl e; least = best_same g best e; all = tt }
longest_of g best (h ∷ gs) e =
    let r : IsLongest g (Some (longer best h)) gs = longest_of g (Some (longer best h)) gs e in
    let both = longer_least g best h r.least in
    record {
      there = elim r.there [
        | inl same ↦ elim (longer_one g best h (some_folder (longer best h) g same)) [ inl b ↦ inl b | inr f ↦ inr (inl f) ]
        | inr later ↦ inr (inr later)
      ];
      least = both.1;
      all = (both.0, r.all);
    }

some_longest : (best : Option Folder) (h : Folder) (gs : List Folder) → longest (Some h) gs ≡ None → ⊥
some_longest best h [] e = let f : Some h ≡ None = e in cc
some_longest best h (x ∷ gs) e = some_longest best (longer (Some h) x) gs e

none_longest : (gs : List Folder) → longest None gs ≡ None → gs ≡ []
none_longest [] e = refl
none_longest (h ∷ gs) e = absurd (some_longest None (longer None h) gs e)

-- ---- those that pass

filtered : (p : Folder → Bool) (g : Folder) (fs : List Folder) → IsIn g (filter p fs) → IsIn g fs × (p g ≡ true)
filtered p g [] i = absurd i
filtered p g (h ∷ fs) i =
    elim (p h) as (λ (b : Bool). p h ≡ b → IsIn g (cond b (h ∷ filter p fs) (filter p fs)) → IsIn g (h ∷ fs) × (p g ≡ true)) [
      | true ↦ λ t j. elim j [ inl same ↦ (inl same, sym (ap p same) ∙ t) | inr later ↦ (let r = filtered p g fs later in (inr r.0, r.1)) ]
      | false ↦ λ t j. (let r = filtered p g fs j in (inr r.0, r.1))
    ] refl i

contains : (g : Folder) (fs : List Folder) → IsIn g fs → Contains fs g
contains g [] i = absurd i
contains g (h ∷ fs) (inl e) = (zero, omega arith, e)
contains g (h ∷ fs) (inr i) = let r = contains g fs i in (suc r.0, (let l = r.1 in omega (arith, l)), r.2)

all_within : (p : Folder → Bool) (g : Folder) (fs : List Folder) → AllByRecursion (IsWithin g) (filter p fs) → AllByRecursion (λ h. IsTrue (p h) → length h.name ≤ length g.name) fs
all_within p g [] all = tt
all_within p g (h ∷ fs) all =
    elim (p h) as (λ (b : Bool). p h ≡ b → AllByRecursion (IsWithin g) (cond b (h ∷ filter p fs) (filter p fs))
    → AllByRecursion (λ k. IsTrue (p k) → length k.name ≤ length g.name) (h ∷ fs)) [
      | true ↦ λ t a. ((λ _. a.0), all_within p g fs a.1)
      | false ↦ λ t a. ((λ passes. absurd (not_both (p h) passes t)), all_within p g fs a)
    ] refl all

none_within : (p : Folder → Bool) (fs : List Folder) → filter p fs ≡ [] → AllByRecursion (λ h. p h ≡ false) fs
none_within p [] e = tt
none_within p (h ∷ fs) e =
    elim (p h) as (λ (b : Bool). p h ≡ b → cond b (h ∷ filter p fs) (filter p fs) ≡ [] → AllByRecursion (λ k. p k ≡ false) (h ∷ fs)) [
      | true ↦ λ t f. absurd (let g : h ∷ filter p fs ≡ [] = f in cc)
      | false ↦ λ t f. (t, none_within p fs f)
    ] refl e

-- a parent is above, and no longer folder is
pub parent_is : (fs : List Folder) (f g : Folder) → parent_in fs f ≡ Some g → IsParent fs f g
parent_is fs f g e =
    let r : IsLongest g None (filter (is_above f) fs) = longest_of g None (filter (is_above f) fs) e in
    let there = filtered (is_above f) g fs (elim r.there [ inl none ↦ absurd (let w : None ≡ Some g = none in cc) | inr i ↦ i ]) in
    record { there = contains g fs there.0; above = there.1; longest = all_within (is_above f) g fs r.all }

-- without a parent no folder is above
pub none_is : (fs : List Folder) (f : Folder) → parent_in fs f ≡ None → AllByRecursion (λ h. is_above f h ≡ false) fs
none_is fs f e = none_within (is_above f) fs (none_longest (filter (is_above f) fs) e)
