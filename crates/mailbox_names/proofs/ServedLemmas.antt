-- A folder whose name is made of a parent's and of a name without the delimiter is under that parent.
use Rattle.std.proofs.Common.{◌≡◌, ℕ, zero, suc, ◌+◌, ◌<◌, ◌≤◌, ◌==◌, Bool, true, false, ◌&&◌, ◌||◌, not, List, [], ◌∷◌, ◌++◌, Option, Some, None, length, drop, take, refl, sym, ap, ◌∙◌, subst, arith, eq-eqb, ltb, ltb-true, ltb-false, slice_index_or}
use Rattle.std.proofs.Math.Seq.{drop-append_seam, take-append_seam, drop-append-add}
use Rattle.std.proofs.lemmas.Slice.Eq.{bytes_eq-Decides}
use Rattle.std.specs.Bool.{IsTrue}
use Rattle.std.specs.List.{AllByRecursion, Contains, list_any}
use Rattle.std.specs.Option.{option_map_or}
use Rattle.std.specs.Str.Lossy.{utf8_lossy}
use Rattle.told_folder.specs.declared.message.Folder.{Folder}
use Rattle.mail_maps.specs.Hierarchy.{goes_on, begins_with, is_below, is_above, parent_in, parent_len, own_name, IsParent}
use Rattle.mailbox_names.specs.FitNames.{has_delimiter, is_fit_name}
use Rattle.mailbox_names.proofs.SiblingLemmas.{parent_above}

false_true : {P : Type 0} → false ≡ true → P
false_true e = absurd (let f : false ≡ true = e in cc)

both : (a b : Bool) → (a && b) ≡ true → (a ≡ true) × (b ≡ true)
both true b e = (refl, e)
both false b e = false_true e

joined : (a b : Bool) → a ≡ true → b ≡ true → (a && b) ≡ true
joined true b s t = t
joined false b s t = false_true s

or_left : (a b : Bool) → a ≡ true → (a || b) ≡ true
or_left true b e = refl
or_left false b e = false_true e

or_right : (a b : Bool) → b ≡ true → (a || b) ≡ true
or_right true b e = refl
or_right false b e = e

-- ---- fit names

-- it has an octet, and not the delimiter
fit_is : (o : Option ℕ) (name : List ℕ) → is_fit_name o name ≡ true → (0 < length name) × (has_delimiter o name ≡ false)
fit_is o name t = (some name t, none (has_delimiter o name) (both _ _ t).1)
  where
    none : (b : Bool) → not b ≡ true → b ≡ false
    none true e = sym e
    none false e = refl

    some : (n : List ℕ) → is_fit_name o n ≡ true → 0 < length n
    some [] e = false_true e
    some (c ∷ r) e = omega arith

-- ---- where the delimiter stands

within : (d : ℕ) (name : List ℕ) (n : ℕ) → goes_on d (drop n name) ≡ true → list_any (λ c. c == d) name ≡ true
within d [] zero g = false_true g
within d (c ∷ []) zero g = false_true g
within d (c ∷ e ∷ t) zero g = or_left (c == d) (list_any (λ x. x == d) (e ∷ t)) g
within d [] (suc n) g = false_true g
within d (c ∷ t) (suc n) g = or_right (c == d) (list_any (λ x. x == d) t) (within d t n g)

-- behind the parent's name it stands in the name
past : (d : ℕ) (p name : List ℕ) (n : ℕ) → length p < n → goes_on d (drop n (p ++ d ∷ name)) ≡ true → list_any (λ c. c == d) name ≡ true
past d [] name zero less g = absurd (omega (arith, less))
past d [] name (suc n) less g = within d name n g
past d (c ∷ p) name zero less g = absurd (omega (arith, less))
past d (c ∷ p) name (suc n) less g = past d p name n (omega (arith, less)) g

begun : (d : ℕ) (name : List ℕ) → 0 < length name → goes_on d (d ∷ name) ≡ true
begun d [] some = absurd (omega (arith, some))
begun d (c ∷ t) some = eq-eqb d d refl

goes_above : (f g : Folder) (d : ℕ) → f.delimiter ≡ Some d → is_above f g ≡ true → goes_on d (drop (length g.name) f.name) ≡ true
goes_above f g d is above =
    let P : Option ℕ → Type 0 = λ o. option_map_or (λ c. is_below f.name c g.name) o false ≡ true in
    (both _ _ (let b : is_below f.name d g.name ≡ true = subst P is above in b)).0

-- ---- under a parent

not_both : (b : Bool) → b ≡ true → b ≡ false → ⊥
not_both b t f = let g : true ≡ false = sym t ∙ f in cc

module _ (parent f : Folder) (name : List ℕ) (d : ℕ) (delimiter : f.delimiter ≡ Some d) (made : f.name ≡ parent.name ++ d ∷ name) (fit : is_fit_name (Some d) name ≡ true) where
  no_longer : (g : Folder) → is_above f g ≡ true → length g.name ≤ length parent.name
  no_longer g above =
      elim (ltb (length parent.name) (length g.name)) as (λ b. ltb (length parent.name) (length g.name) ≡ b → length g.name ≤ length parent.name) [
        | true ↦ λ t.
            let goes : goes_on d (drop (length g.name) f.name) ≡ true = goes_above f g d delimiter above in
            let stands : list_any (λ c. c == d) name ≡ true =
            past d parent.name name (length g.name) (ltb-true _ _ t) (ap (λ (n : List ℕ). goes_on d (drop (length g.name) n)) (sym made) ∙ goes) in
            absurd (not_both (list_any (λ c. c == d) name) stands (fit_is (Some d) name fit).1)
        | false ↦ λ t. ltb-false _ _ t
      ] refl

  above_parent : is_above f parent ≡ true
  above_parent =
      ap (λ (o : Option ℕ). option_map_or (λ c. is_below f.name c parent.name) o false) delimiter
      ∙ ap (λ (n : List ℕ). is_below n d parent.name) made
      ∙ joined (goes_on d (drop (length parent.name) (parent.name ++ d ∷ name))) (begins_with (parent.name ++ d ∷ name) parent.name)
      (ap (goes_on d) (drop-append_seam parent.name (d ∷ name)) ∙ begun d name (fit_is (Some d) name fit).0)
      ((bytes_eq-Decides parent.name (take (length parent.name) (parent.name ++ d ∷ name))).1 (sym (take-append_seam parent.name (d ∷ name))))

  own : drop (length parent.name + 1) f.name ≡ name
  own = ap (λ (n : List ℕ). drop (length parent.name + 1) n) made ∙ drop-append-add parent.name (d ∷ name) 1

all_pass : (P : Folder → Type 0) (fs : List Folder) → ((g : Folder) → P g) → AllByRecursion P fs
all_pass P [] each = tt
all_pass P (g ∷ fs) each = (each g, all_pass P fs each)

all_at : (P : Folder → Type 0) (fs : List Folder) (g : Folder) (k : ℕ) → AllByRecursion P fs → k < length fs → slice_index_or fs k g ≡ g → P g
all_at P [] g k all less e = absurd (omega (arith, less))
all_at P (h ∷ fs) g zero all less e = subst P e all.0
all_at P (h ∷ fs) g (suc k) all less e = all_at P fs g k all.1 (omega (arith, less)) e

-- it is the one parent, by what is known of parents
pub under_is : (fs : List Folder) (parent f : Folder) (name : List ℕ) (d : ℕ) → ((g : Folder) → parent_in fs f ≡ Some g → IsParent fs f g)
    → (parent_in fs f ≡ None → AllByRecursion (λ g. is_above f g ≡ false) fs) → ((g : Folder) → IsParent fs f g → IsParent fs f parent → g ≡ parent) → Contains fs parent
    → f.delimiter ≡ Some d → f.name ≡ parent.name ++ d ∷ name → is_fit_name (Some d) name ≡ true → (parent_in fs f ≡ Some parent) × (own_name fs f ≡ utf8_lossy name)
under_is fs parent f name d some none one there delimiter made fit =
    let found : parent_in fs f ≡ Some parent = by (parent_in fs f) refl in
    (found, ap (λ (o : Option Folder). utf8_lossy (drop (parent_len o) f.name)) found ∙ ap utf8_lossy (own parent f name d delimiter made fit))
  where
    is_parent : IsParent fs f parent
    is_parent = record {
      there = there;
      above = above_parent parent f name d delimiter made fit;
      longest = all_pass (λ h. IsTrue (is_above f h) → length h.name ≤ length parent.name) fs (no_longer parent f name d delimiter made fit);
    }

    by : (o : Option Folder) → parent_in fs f ≡ o → parent_in fs f ≡ Some parent
    by None is =
        absurd (not_both (is_above f parent) is_parent.above (all_at (λ g. is_above f g ≡ false) fs parent there.0 (none is) there.1 there.2))
    by (Some g) is = is ∙ ap (λ (h : Folder). Some h) (one g (some g is) is_parent)

-- ---- at the top level

top_none : (fs : List Folder) (f : Folder) (o : Option ℕ) → f.delimiter ≡ o → has_delimiter o f.name ≡ false → (p : Option Folder) → parent_in fs f ≡ p → p ≡ None
top_none fs f o delimiter free None is = refl
top_none fs f None delimiter free (Some g) is =
    let above : is_above f g ≡ true = parent_above fs f g is in
    let P : Option ℕ → Type 0 = λ q. option_map_or (λ c. is_below f.name c g.name) q false ≡ true in
    false_true (subst P delimiter above)
top_none fs f (Some d) delimiter free (Some g) is =
    let goes : goes_on d (drop (length g.name) f.name) ≡ true = goes_above f g d delimiter (parent_above fs f g is) in
    absurd (not_both (list_any (λ c. c == d) f.name) (within d f.name (length g.name) goes) free)

pub top_is : (fs : List Folder) (f : Folder) (name : List ℕ) → is_fit_name f.delimiter name ≡ true → f.name ≡ name → (parent_in fs f ≡ None) × (own_name fs f ≡ utf8_lossy name)
top_is fs f name fit made =
    let free : has_delimiter f.delimiter f.name ≡ false = ap (has_delimiter f.delimiter) made ∙ (fit_is f.delimiter name fit).1 in
    let none : parent_in fs f ≡ None = top_none fs f f.delimiter refl free (parent_in fs f) refl in
    (none, ap (λ (o : Option Folder). utf8_lossy (drop (parent_len o) f.name)) none ∙ ap utf8_lossy made)
