-- A folder that is under a parent has the parent's name in front of its own, and its own name is what follows.
use Rattle.std.proofs.Common.{◌≡◌, ℕ, zero, suc, ◌+◌, Bool, true, false, ◌&&◌, List, [], ◌∷◌, Option, Some, None, cond, if◌then◌else◌, length, filter, bytes_eq, refl, sym, ap, ◌∙◌, subst, add-one, ltb, take, drop, ◌==◌, eq-eqb, eqb-true}
use Rattle.std.proofs.lemmas.Slice.Eq.{bytes_eq-Decides}
use Rattle.std.specs.Option.{option_eq, option_map_or}
use Rattle.std.specs.Str.Lossy.{utf8_lossy}
use Rattle.told_folder.specs.declared.message.Folder.{Folder}
use Rattle.mail_maps.specs.Hierarchy.{goes_on, begins_with, is_below, is_above, longer, longest, parent_in, parent_len, own_name}
use Rattle.mailbox_names.specs.Siblings.{same_folder, is_child_of, is_named_child, is_served_as}
use Rattle.mailbox_names.specs.reading.Rests.{after_delimiter, rest_under}

false_true : {P : Type 0} → false ≡ true → P
false_true e = absurd (let f : false ≡ true = e in cc)

both : (a b : Bool) → (a && b) ≡ true → (a ≡ true) × (b ≡ true)
both true b e = (refl, e)
both false b e = false_true e

-- ---- the parent is above

abbrev PassesAt : (Folder → Bool) → Option Folder → Type 0
PassesAt p None = Unit {0}
PassesAt p (Some f) = p f ≡ true

longer_passes : (p : Folder → Bool) (best : Option Folder) (h : Folder) → PassesAt p best → p h ≡ true → p (longer best h) ≡ true
longer_passes p None h b t = t
longer_passes p (Some f) h b t = elim (ltb (length f.name) (length h.name)) as (λ v. p (if v then h else f) ≡ true) [ true ↦ t | false ↦ b ]

longest_passes : (p : Folder → Bool) (best : Option Folder) (fs : List Folder) → PassesAt p best → PassesAt p (longest best (filter p fs))
longest_passes p best [] b = b
longest_passes p best (h ∷ fs) b =
    elim (p h) as (λ v. p h ≡ v → PassesAt p (longest best (cond v (h ∷ filter p fs) (filter p fs)))) [
      | true ↦ λ t. longest_passes p (Some (longer best h)) fs (longer_passes p best h b t)
      | false ↦ λ t. longest_passes p best fs b
    ] refl

pub parent_above : (fs : List Folder) (f g : Folder) → parent_in fs f ≡ Some g → is_above f g ≡ true
parent_above fs f g e = let P : Option Folder → Type 0 = λ o. PassesAt (is_above f) o in subst P e (longest_passes (is_above f) None fs tt)

-- ---- what follows the parent's name

is_delimiter : (d c : ℕ) → (c == d) ≡ true → option_eq ◌==◌ (Some d) (Some c) ≡ true
is_delimiter d c e = eq-eqb d c (sym (eqb-true c d e))

after_drop : (n d : ℕ) (name : List ℕ) → goes_on d (drop n name) ≡ true → after_delimiter (Some d) (drop n name) ≡ Some (drop (suc n) name)
after_drop zero d [] e = false_true e
after_drop zero d (c ∷ []) e = false_true e
after_drop zero d (c ∷ x ∷ t) e = ap (λ v. if v then Some (x ∷ t) else None) (is_delimiter d c e)
after_drop (suc n) d [] e = false_true e
after_drop (suc n) d (c ∷ t) e = after_drop n d t e

below_by : (f g : Folder) (o : Option ℕ) → option_map_or (λ d. is_below f.name d g.name) o false ≡ true
    → (d : ℕ) × (o ≡ Some d) × (goes_on d (drop (length g.name) f.name) ≡ true) × (begins_with f.name g.name ≡ true)
below_by f g None e = false_true e
below_by f g (Some d) e = let b = both (goes_on d (drop (length g.name) f.name)) (begins_with f.name g.name) e in (d, refl, b.0, b.1)

rest_above : (f g : Folder) → is_above f g ≡ true → rest_under (Some g) f ≡ Some (drop (length g.name + 1) f.name)
rest_above f g e =
    let b = below_by f g f.delimiter e in
    ap (λ v. if v then after_delimiter f.delimiter (drop (length g.name) f.name) else None) b.3
    ∙ ap (λ (o : Option ℕ). after_delimiter o (drop (length g.name) f.name)) b.1 ∙ rw add-one (after_drop (length g.name) b.0 f.name b.2)

rest_named : (g p f : Folder) → g.name ≡ p.name → rest_under (Some g) f ≡ rest_under (Some p) f
rest_named g p f e = ap (λ (n : List ℕ). if begins_with f.name n then after_delimiter f.delimiter (drop (length n) f.name) else None) e

-- of a folder under the parent, what follows is its own name
pub rest_is : (fs : List Folder) (parent : Option Folder) (f : Folder) → is_child_of fs parent f ≡ true → rest_under parent f ≡ Some (drop (parent_len (parent_in fs f)) f.name)
rest_is fs parent f e = by (parent_in fs f) refl parent e
  where
    by : (o : Option Folder) → parent_in fs f ≡ o → (p : Option Folder) → same_folder o p ≡ true → rest_under p f ≡ Some (drop (parent_len o) f.name)
    by None is None t = refl
    by None is (Some p) t = false_true t
    by (Some g) is None t = false_true t
    by (Some g) is (Some p) t = sym (rest_named g p f ((bytes_eq-Decides g.name p.name).0 t)) ∙ rest_above f g (parent_above fs f g is)

or_false : (b : Bool) → (b ≡ true → ⊥) → b ≡ false
or_false true f = absurd (f refl)
or_false false f = refl

some_list : (a b : List ℕ) → Some a ≡ Some b → a ≡ b
some_list a b e = cc

no_child : (fs : List Folder) (parent : Option Folder) (f : Folder) → rest_under parent f ≡ None → is_child_of fs parent f ≡ false
no_child fs parent f none = or_false (is_child_of fs parent f) (λ t. let e : None ≡ Some (drop (parent_len (parent_in fs f)) f.name) = sym none ∙ rest_is fs parent f t in cc)

-- nothing follows
pub not_child : (fs : List Folder) (parent : Option Folder) (f : Folder) → None ≡ rest_under parent f → false ≡ is_child_of fs parent f
not_child fs parent f none = sym (no_child fs parent f (sym none))

pub not_named_child : (fs : List Folder) (parent : Option Folder) (f : Folder) (name : List ℕ) → None ≡ rest_under parent f → false ≡ is_named_child fs parent name f
not_named_child fs parent f name none = ap (λ b. b && bytes_eq (own_name fs f) name) (not_child fs parent f none)

own_is : (fs : List Folder) (parent : Option Folder) (f : Folder) (rest : List ℕ) → Some rest ≡ rest_under parent f → is_child_of fs parent f ≡ true → own_name fs f ≡ utf8_lossy rest
own_is fs parent f rest is t = ap utf8_lossy (sym (some_list _ _ (is ∙ rest_is fs parent f t)))

-- what follows is served otherwise
pub other_name : (fs : List Folder) (parent : Option Folder) (f : Folder) (name rest : List ℕ) → Some rest ≡ rest_under parent f → false ≡ is_served_as rest name
    → false ≡ is_named_child fs parent name f
other_name fs parent f name rest is other =
    elim (is_child_of fs parent f) as (λ b. is_child_of fs parent f ≡ b → false ≡ (b && bytes_eq (own_name fs f) name)) [
      | true ↦ λ t. other ∙ ap (λ (n : List ℕ). bytes_eq n name) (sym (own_is fs parent f rest is t))
      | false ↦ λ t. refl
    ] refl

-- what follows is served by the name
pub that_name : (fs : List Folder) (parent : Option Folder) (f : Folder) (name rest : List ℕ) → Some rest ≡ rest_under parent f → true ≡ is_served_as rest name
    → is_child_of fs parent f ≡ is_named_child fs parent name f
that_name fs parent f name rest is same =
    elim (is_child_of fs parent f) as (λ b. is_child_of fs parent f ≡ b → b ≡ (b && bytes_eq (own_name fs f) name)) [
      | true ↦ λ t. same ∙ ap (λ (n : List ℕ). bytes_eq n name) (sym (own_is fs parent f rest is t))
      | false ↦ λ t. refl
    ] refl
