-- A folder has one parent, and a role one folder.
use Rattle.std.proofs.Common.{◌≡◌, ◌⊎◌, ℕ, zero, suc, ◌<◌, ◌≤◌, List, [], ◌∷◌, Bool, true, false, ◌&&◌, ◌||◌, if◌then◌else◌, Option, Some, None}
use Rattle.std.proofs.Common.{refl, sym, ap, ◌∙◌, subst, inl, inr, arith, take, drop, length, ltb, lt-ltb, eq-eqb, slice_index_or}
use Rattle.std.specs.Bool.{IsTrue}
use Rattle.std.specs.List.{AllByRecursion, Contains, list_any}
use Rattle.std.specs.Option.{option_map_or}
use Rattle.std.proofs.lemmas.Slice.Eq.{bytes_eq-Decides}
use Rattle.told_folder.specs.declared.message.Folder.{Folder}
use Rattle.told_folder.proofs.KeyedLemmas.{lt_same_gt}
use Rattle.mail_maps.specs.declared.row.Role.{Role}
use Rattle.mail_maps.specs.Hierarchy.{goes_on, begins_with, is_below, is_above, IsParent, NamesDiffer}
use Rattle.mail_maps.specs.Roles.{role_told, role_number, same_role, is_taken, role_in, NumbersDiffer}
use Rattle.mail_maps.proofs.FrontLemmas.{IsIn}

-- ---- membership

found_at : (fs : List Folder) (g : Folder) (k : ℕ) → k < length fs → slice_index_or fs k g ≡ g → IsIn g fs
found_at [] g k less e = absurd (omega (arith, less))
found_at (h ∷ fs) g zero less e = inl e
found_at (h ∷ fs) g (suc k) less e = inr (found_at fs g k (omega (arith, less)) e)

is_in : (fs : List Folder) (g : Folder) → Contains fs g → IsIn g fs
is_in fs g there = found_at fs g there.0 there.1 there.2

all_at : (P : Folder → Type 0) (fs : List Folder) (g : Folder) → AllByRecursion P fs → IsIn g fs → P g
all_at P [] g all i = absurd i
all_at P (h ∷ fs) g all (inl e) = subst P e all.0
all_at P (h ∷ fs) g all (inr i) = all_at P fs g all.1 i

both : (a b : Bool) → (a && b) ≡ true → (a ≡ true) × (b ≡ true)
both true b e = (refl, e)
both false b e = absurd (let f : false ≡ true = e in cc)

-- ---- one parent

-- the name of a folder above is the front of this one
front_is : (f g : Folder) → is_above f g ≡ true → g.name ≡ take (length g.name) f.name
front_is f g above = by f.delimiter above
  where
    by : (o : Option ℕ) → option_map_or (λ d. is_below f.name d g.name) o false ≡ true → g.name ≡ take (length g.name) f.name
    by None e = absurd (let w : false ≡ true = e in cc)
    by (Some d) e =
        (bytes_eq-Decides g.name (take (length g.name) f.name)).0 (both (goes_on d (drop (length g.name) f.name)) (begins_with f.name g.name) e).1

no_longer : (fs : List Folder) (f g h : Folder) → IsParent fs f g → IsParent fs f h → length h.name ≤ length g.name
no_longer fs f g h a b = all_at (λ k. IsTrue (is_above f k) → length k.name ≤ length g.name) fs h a.longest (is_in fs h b.there) b.above

-- two parents of a folder are one
pub one_parent : (fs : List Folder) (f g h : Folder) → NamesDiffer fs → IsParent fs f g → IsParent fs f h → g ≡ h
one_parent fs f g h differ a b =
    let less : length h.name ≤ length g.name = no_longer fs f g h a b in
    let more : length g.name ≤ length h.name = no_longer fs f h g b a in
    let same : length g.name ≡ length h.name = omega (arith, less, more) in
    differ g h a.there b.there (front_is f g a.above ∙ ap (λ (n : ℕ). take n f.name) same ∙ sym (front_is f h b.above))

-- ---- each role once

abbrev test : Folder → Folder → Bool
test f g = ltb g.number f.number && same_role (role_told g) (role_told f)

-- a folder of a lower number takes its role
taken_by : (fs : List Folder) (f g : Folder) → IsIn f fs → f.number < g.number → same_role (role_told f) (role_told g) ≡ true → list_any (test g) fs ≡ true
taken_by [] f g i less same = absurd i
taken_by (h ∷ fs) f g (inl e) less same =
    let S : Folder → Type 0 = λ k. (test g k || list_any (test g) fs) ≡ true in
    subst S (sym e)
    (ap (λ (b : Bool). (b && same_role (role_told f) (role_told g)) || list_any (test g) fs) (lt-ltb f.number g.number less)
    ∙ ap (λ (b : Bool). b || list_any (test g) fs) same)
taken_by (h ∷ fs) f g (inr i) less same =
    elim (test g h) as (λ (b : Bool). (b || list_any (test g) fs) ≡ true) [ true ↦ refl | false ↦ taken_by fs f g i less same ]

record HasRole (fs : List Folder) (f : Folder) (role : Role) : Type 0 where
  pub free : is_taken fs f ≡ false
  pub told : role_told f ≡ Some role

has_role : (fs : List Folder) (f : Folder) (role : Role) → role_in fs f ≡ Some role → HasRole fs f role
has_role fs f role e = by (is_taken fs f) refl e
  where
    by : (b : Bool) → is_taken fs f ≡ b → (if b then None else role_told f) ≡ Some role → HasRole fs f role
    by true is k = absurd (let w : None ≡ Some role = k in cc)
    by false is k = record { free = is; told = k }

not_above : (fs : List Folder) (f g : Folder) (role : Role) → Contains fs f → HasRole fs f role → HasRole fs g role → f.number < g.number → ⊥
not_above fs f g role there a b less =
    let same : same_role (role_told f) (role_told g) ≡ true =
    ap (λ (o : Option Role). same_role o (role_told g)) a.told ∙ ap (same_role (Some role)) b.told ∙ eq-eqb (role_number role) (role_number role) refl in
    let taken : is_taken fs g ≡ true = taken_by fs f g (is_in fs f there) less same in
    let w : true ≡ false = sym taken ∙ b.free in
    cc

-- two folders of one role are one
pub one_role : (fs : List Folder) (f g : Folder) (role : Role) → NumbersDiffer fs → Contains fs f → Contains fs g → role_in fs f ≡ Some role → role_in fs g ≡ Some role → f ≡ g
one_role fs f g role differ at_f at_g is_f is_g =
    let a : HasRole fs f role = has_role fs f role is_f in
    let b : HasRole fs g role = has_role fs g role is_g in
    elim (lt_same_gt f.number g.number) [
      | inl less ↦ absurd (not_above fs f g role at_f a b less)
      | inr r ↦ elim r [ inl more ↦ absurd (not_above fs g f role at_g b a more) | inr same ↦ differ f g at_f at_g same ]
    ]
