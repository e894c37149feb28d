-- The longest folder that is above another is the first that is found by the fronts of its name, the longest first.
use Rattle.std.proofs.Common.{◌≡◌, ◌⊎◌, ℕ, zero, suc, ◌+◌, ◌<◌, ◌≤◌, List, [], ◌∷◌, Bool, true, false, ◌&&◌, ◌||◌, cond, if◌then◌else◌, Option, Some, None}
use Rattle.std.proofs.Common.{refl, sym, ap, ◌∙◌, subst, inl, inr, arith, drop, take, filter, length, get_or, add-one, eqb, eq-eqb, ne_eqb, ltb, ltb-true, ltb-false}
use Rattle.std.proofs.Math.Seq.{drop-cons}
use Rattle.std.proofs.lemmas.List.{length-take-le}
use Rattle.std.proofs.lemmas.Slice.Eq.{bytes_eq-Decides}
use Rattle.std.specs.List.{AllByRecursion, list_any}
use Rattle.std.specs.Option.{option_map, option_map_or, option_or}
use Rattle.std.specs.Str.{bytes_eq}
use Rattle.told_folder.specs.Folders.{folder_number, held_in}
use Rattle.told_folder.specs.Keyed.{Ascends}
use Rattle.told_folder.specs.declared.message.Folder.{Folder}
use Rattle.told_folder.specs.declared.message.NumberedFolder.{NumberedFolder}
use Rattle.told_folder.proofs.KeyedLemmas.{lt_same_gt, some_same}
use Rattle.told_mail.specs.Mail.{is_same, named}
use Rattle.told_mail.proofs.NameLemmas.{same_name, named_name, found_above, named_held, named_there}
use Rattle.told_mail.proofs.OnceLemmas.{NamesDiffer}
use Rattle.mail_maps.specs.Hierarchy.{goes_on, begins_with, is_below, longer, longest, parent_in}
use Rattle.mail_maps.specs.Mailboxes.{folders_of}
use Rattle.mail_maps.specs.reading.Fronts.{front_at, front_below, has_length}

both : (a b : Bool) → (a && b) ≡ true → (a ≡ true) × (b ≡ true)
both true b e = (refl, e)
both false b e = absurd (let f : false ≡ true = e in cc)

-- a test isn't true and false
pub not_both : (b : Bool) → b ≡ true → b ≡ false → ⊥
not_both b t f = let g : true ≡ false = sym t ∙ f in cc

-- ---- membership

abbrev pub IsIn : Folder → List Folder → Type 0
IsIn g [] = ⊥
IsIn g (h ∷ hs) = (h ≡ g) ⊎ IsIn g hs

in_filter : (p : Folder → Bool) (g : Folder) (fs : List Folder) → IsIn g fs → p g ≡ true → IsIn g (filter p fs)
in_filter p g [] i t = absurd i
in_filter p g (h ∷ fs) i t =
    elim (p h) as (λ (b : Bool). p h ≡ b → IsIn g (cond b (h ∷ filter p fs) (filter p fs))) [
      | true ↦ λ e. elim i [ inl here ↦ inl here | inr later ↦ inr (in_filter p g fs later t) ]
      | false ↦ λ e. elim i [ inl here ↦ absurd (not_both (p g) t (ap p (sym here) ∙ e)) | inr later ↦ in_filter p g fs later t ]
    ] refl

all_filter : (P : Folder → Type 0) (p : Folder → Bool) (fs : List Folder) → ((h : Folder) → IsIn h fs → p h ≡ true → P h) → AllByRecursion P (filter p fs)
all_filter P p [] f = tt
all_filter P p (h ∷ fs) f =
    elim (p h) as (λ (b : Bool). p h ≡ b → AllByRecursion P (cond b (h ∷ filter p fs) (filter p fs))) [
      | true ↦ λ t. (f h (inl refl) t, all_filter P p fs (λ k i. f k (inr i)))
      | false ↦ λ t. all_filter P p fs (λ k i. f k (inr i))
    ] refl

none_filter : (p : Folder → Bool) (fs : List Folder) → ((h : Folder) → IsIn h fs → p h ≡ true → ⊥) → filter p fs ≡ []
none_filter p [] f = refl
none_filter p (h ∷ fs) f =
    elim (p h) as (λ (b : Bool). p h ≡ b → cond b (h ∷ filter p fs) (filter p fs) ≡ []) [
      | true ↦ λ t. absurd (f h (inl refl) t)
      | false ↦ λ t. none_filter p fs (λ k i. f k (inr i))
    ] refl

-- ---- the longest

-- it is this one, or a shorter one
abbrev IsUpTo : Folder → Folder → Type 0
IsUpTo g h = (h ≡ g) ⊎ (length h.name < length g.name)

abbrev Fits : Folder → Option Folder → Type 0
Fits g None = Unit {0}
Fits g (Some b) = IsUpTo g b

same_length : (g h : Folder) → h ≡ g → length h.name ≡ length g.name
same_length g h e = ap (λ (f : Folder). length f.name) e

chosen_up_to : (g b h : Folder) → IsUpTo g b → IsUpTo g h → (t : Bool) → IsUpTo g (if t then h else b)
chosen_up_to g b h u v true = v
chosen_up_to g b h u v false = u

longer_up_to : (g : Folder) (best : Option Folder) (h : Folder) → Fits g best → IsUpTo g h → IsUpTo g (longer best h)
longer_up_to g None h f u = u
longer_up_to g (Some b) h f u = chosen_up_to g b h f u (ltb (length b.name) (length h.name))

-- equal folders, where both are there
pub some_folder : (a b : Folder) → Some a ≡ Some b → a ≡ b
some_folder a b e = cc

-- this one is chosen where it is one of the two
longer_is : (g : Folder) (best : Option Folder) (h : Folder) → Fits g best → IsUpTo g h → (best ≡ Some g) ⊎ (h ≡ g) → longer best h ≡ g
longer_is g None h f u (inl e) = absurd (let w : None ≡ Some g = e in cc)
longer_is g None h f u (inr e) = e
longer_is g (Some b) h f u is =
    elim (ltb (length b.name) (length h.name)) as (λ (t : Bool). ltb (length b.name) (length h.name) ≡ t → (if t then h else b) ≡ g) [
      | true ↦ λ t.
          let less : length b.name < length h.name = ltb-true _ _ t in
          elim u [
            | inl same ↦ same
            | inr short ↦ elim is [
              | inl e ↦ absurd (let l : length b.name ≡ length g.name = same_length g b (some_folder b g e) in omega (arith, less, short, l))
              | inr e ↦ e
            ]
          ]
      | false ↦ λ t.
          let least : length h.name ≤ length b.name = ltb-false _ _ t in
          elim f [
            | inl same ↦ same
            | inr short ↦ elim is [
              | inl e ↦ some_folder b g e
              | inr e ↦ absurd (let l : length h.name ≡ length g.name = same_length g h e in omega (arith, least, short, l))
            ]
          ]
    ] refl

longest_is : (g : Folder) (best : Option Folder) (gs : List Folder) → Fits g best → AllByRecursion (IsUpTo g) gs → (best ≡ Some g) ⊎ IsIn g gs → longest best gs ≡ Some g
longest_is g best [] f all (inl e) = e
longest_is g best [] f all (inr i) = absurd i
longest_is g best (h ∷ gs) f all is =
    longest_is g (Some (longer best h)) gs (longer_up_to g best h f all.0) all.1
    (elim is [
      | inl e ↦ inl (ap (λ (x : Folder). Some x) (longer_is g best h f all.0 (inl e)))
      | inr i ↦ elim i [
        | inl e ↦ inl (ap (λ (x : Folder). Some x) (longer_is g best h f all.0 (inr e)))
        | inr later ↦ inr later
      ]
    ])

-- the longest of those that pass a test, where no other that passes is as long
longest_known : (p : Folder → Bool) (g : Folder) (fs : List Folder) → IsIn g fs → p g ≡ true → ((h : Folder) → IsIn h fs → p h ≡ true → IsUpTo g h)
    → longest None (filter p fs) ≡ Some g
longest_known p g fs i t up = longest_is g None (filter p fs) tt (all_filter (IsUpTo g) p fs up) (inr (in_filter p g fs i t))

-- ---- folders of a mirror

in_held : (hs : List NumberedFolder) (f : Folder) → Ascends folder_number hs → IsIn f (folders_of hs) → (k : NumberedFolder) × (held_in hs (folder_number k) ≡ Some k) × (k.folder ≡ f)
in_held [] f up i = absurd i
in_held (x ∷ hs) f up (inl e) = (x, ap (λ b. if b then Some x else held_in hs (folder_number x)) (eq-eqb (folder_number x) (folder_number x) refl), e)
in_held (x ∷ hs) f up (inr i) =
    let r = in_held hs f up.1 i in
    let less : folder_number x < folder_number r.0 = found_above (folder_number x) (folder_number r.0) hs r.0 up.0 r.1 in
    (r.0, ap (λ b. if b then Some x else held_in hs (folder_number r.0)) (ne_eqb _ _ (λ e. omega (arith, e, less))) ∙ r.1, r.2)

held_is_in : (hs : List NumberedFolder) (n : ℕ) (k : NumberedFolder) → held_in hs n ≡ Some k → IsIn k.folder (folders_of hs)
held_is_in [] n k e = absurd (let f : None ≡ Some k = e in cc)
held_is_in (x ∷ hs) n k e =
    elim (eqb (folder_number x) n) as (λ b. (if b then Some x else held_in hs n) ≡ Some k → IsIn k.folder (folders_of (x ∷ hs))) [
      | true ↦ λ f. inl (ap (λ (z : NumberedFolder). z.folder) (some_same _ _ f))
      | false ↦ λ f. inr (held_is_in hs n k f)
    ] e

-- where names differ, folders of one name are one
one_folder : (hs : List NumberedFolder) (a b : Folder) → Ascends folder_number hs → NamesDiffer hs → IsIn a (folders_of hs) → IsIn b (folders_of hs) → a.name ≡ b.name → a ≡ b
one_folder hs a b up differ i j same =
    let x = in_held hs a up i in
    let y = in_held hs b up j in
    let number : folder_number x.0 ≡ folder_number y.0 =
    differ (folder_number x.0) (folder_number y.0) x.0 y.0 x.1 y.1 (ap (λ (f : Folder). f.name) x.2 ∙ same ∙ ap (λ (f : Folder). f.name) (sym y.2)) in
    let held : x.0 ≡ y.0 = some_same _ _ (sym x.1 ∙ ap (held_in hs) number ∙ y.1) in
    sym x.2 ∙ ap (λ (k : NumberedFolder). k.folder) held ∙ y.2

-- ---- fronts

-- where more follows, the name is longer
goes_within : (d n : ℕ) (name : List ℕ) → goes_on d (drop n name) ≡ true → n < length name
goes_within d zero [] e = absurd (let f : false ≡ true = e in cc)
goes_within d zero (c ∷ t) e = omega arith
goes_within d (suc n) [] e = absurd (let f : false ≡ true = e in cc)
goes_within d (suc n) (c ∷ t) e = let r : n < length t = goes_within d n t e in omega (arith, r)

-- what is below a name has it as a front, and goes on
below_is : (name : List ℕ) (d : ℕ) (p : List ℕ) → is_below name d p ≡ true → (goes_on d (drop (length p) name) ≡ true) × (p ≡ take (length p) name)
below_is name d p t =
    let h = both (goes_on d (drop (length p) name)) (begins_with name p) t in
    (h.0, (bytes_eq-Decides p (take (length p) name)).0 h.1)

is_front : (name : List ℕ) (d n : ℕ) (p : List ℕ) → length p ≡ n → p ≡ take n name → goes_on d (drop n name) ≡ true → is_below name d p ≡ true
is_front name d n p len is goes =
    ap (λ (k : ℕ). goes_on d (drop k name) && bytes_eq p (take k name)) len
    ∙ ap (λ (b : Bool). b && bytes_eq p (take n name)) goes
    ∙ (bytes_eq-Decides p (take n name)).1 is

-- ---- the look-ups

module _ (hs : List NumberedFolder) (up : Ascends folder_number hs) (differ : NamesDiffer hs) (name : List ℕ) (d : ℕ) where
  abbrev below : Folder → Bool
  below g = is_below name d g.name

  -- each folder above is shorter than this
  abbrev AreShorter : ℕ → Type 0
  AreShorter n = (h : Folder) → IsIn h (folders_of hs) → below h ≡ true → length h.name < n

  -- where no folder above has this length, each is shorter
  shorter : (n : ℕ) → AreShorter (suc n) → ((h : Folder) → IsIn h (folders_of hs) → below h ≡ true → length h.name ≡ n → ⊥) → AreShorter n
  shorter n bound other h i t =
      elim (lt_same_gt (length h.name) n) [
        | inl less ↦ less
        | inr rest ↦ elim rest [
          | inl more ↦ absurd (let l : length h.name < suc n = bound h i t in omega (arith, l, more))
          | inr same ↦ absurd (other h i t same)
        ]
      ]

  found : (n : ℕ) (k : NumberedFolder) → n ≤ length name → goes_on d (drop n name) ≡ true → named hs (take n name) ≡ Some k → AreShorter (suc n)
      → Some k.folder ≡ longest None (filter below (folders_of hs))
  found n k within goes is bound =
      let front : k.folder.name ≡ take n name = named_name hs (take n name) k is in
      let len : length k.folder.name ≡ n = ap length front ∙ length-take-le n name within in
      let there : IsIn k.folder (folders_of hs) = held_is_in hs (folder_number k) k (named_held hs (take n name) k up is) in
      sym (longest_known below k.folder (folders_of hs) there (is_front name d n k.folder.name len front goes)
      (λ h i t. elim (lt_same_gt (length h.name) n) [
        | inl less ↦ inr (omega (arith, less, len))
        | inr rest ↦ elim rest [
          | inl more ↦ absurd (let l : length h.name < suc n = bound h i t in omega (arith, l, more))
          | inr same ↦ inl (one_folder hs h k.folder up differ i there ((below_is name d h.name t).1 ∙ ap (λ (m : ℕ). take m name) same ∙ sym front))
        ]
      ]))

  -- no front of this length is a folder's name
  not_named : (n : ℕ) → named hs (take n name) ≡ None → (h : Folder) → IsIn h (folders_of hs) → below h ≡ true → length h.name ≡ n → ⊥
  not_named n none h i t len =
      let x = in_held hs h up i in
      let front : x.0.folder.name ≡ take n name = ap (λ (f : Folder). f.name) x.2 ∙ (below_is name d h.name t).1 ∙ ap (λ (m : ℕ). take m name) len in
      named_there hs (folder_number x.0) x.0 x.1 (ap (named hs) front ∙ none)

  fronts_are : (n : ℕ) → n ≤ length name → AreShorter n → front_below hs name d n ≡ longest None (filter below (folders_of hs))
  fronts_are zero within bound =
      sym (ap (longest None) (none_filter below (folders_of hs) (λ h i t. let l : length h.name < 0 = bound h i t in omega (arith, l))))
  fronts_are (suc n) within bound = by (goes_on d (drop n name)) refl (named hs (take n name)) refl (fronts_are n (omega (arith, within)))
    where
      by : (g : Bool) → goes_on d (drop n name) ≡ g → (o : Option NumberedFolder) → named hs (take n name) ≡ o
          → (AreShorter n → front_below hs name d n ≡ longest None (filter below (folders_of hs)))
          → option_or (if g then option_map (λ (h : NumberedFolder). h.folder) o else None) (front_below hs name d n) ≡ longest None (filter below (folders_of hs))
      by false ends o is rest =
          rest (shorter n bound (λ h i t len. not_both (goes_on d (drop n name)) (ap (λ (m : ℕ). goes_on d (drop m name)) (sym len) ∙ (below_is name d h.name t).0) ends))
      by true goes None is rest = rest (shorter n bound (not_named n is))
      by true goes (Some k) is rest = found n k (omega (arith, within)) goes is bound

-- the parent of a folder is that of the longest front
pub parent_found : (hs : List NumberedFolder) (f : Folder) (d : ℕ) → Ascends folder_number hs → NamesDiffer hs → f.delimiter ≡ Some d
    → front_below hs f.name d (length f.name) ≡ parent_in (folders_of hs) f
parent_found hs f d up differ is =
    fronts_are hs up differ f.name d (length f.name) (omega arith) (λ h i t. goes_within d (length h.name) f.name (below_is f.name d h.name t).0)
    ∙ ap (λ (o : Option ℕ). longest None (filter (λ (g : Folder). option_map_or (λ c. is_below f.name c g.name) o false) (folders_of hs))) (sym is)

none_passes : (fs : List Folder) → filter (λ (g : Folder). false) fs ≡ []
none_passes [] = refl
none_passes (g ∷ fs) = none_passes fs

-- a folder without a delimiter has no parent
pub no_parent : (fs : List Folder) (f : Folder) → f.delimiter ≡ None → None ≡ parent_in fs f
no_parent fs f is =
    sym (ap (λ (o : Option ℕ). longest None (filter (λ (g : Folder). option_map_or (λ c. is_below f.name c g.name) o false) fs)) is ∙ ap (longest None) (none_passes fs))

-- ---- the code's loop

-- a front that is no folder's name is passed
pub front_passed : (hs : List NumberedFolder) (name : List ℕ) (d k n : ℕ) (all : Option Folder) → n ≡ k + 1 → None ≡ front_at hs name d k → front_below hs name d n ≡ all
    → front_below hs name d k ≡ all
front_passed hs name d k n all next none was =
    let S : ℕ → Type 0 = λ m. front_below hs name d m ≡ all in
    let step : n ≡ suc k = omega (arith, next) in
    let at : front_below hs name d (suc k) ≡ all = subst S step was in
    ap (λ (o : Option Folder). option_or o (front_below hs name d k)) none ∙ at

-- the first that is one decides
pub front_decides : (hs : List NumberedFolder) (name : List ℕ) (d k n : ℕ) (f : Folder) (all : Option Folder) → n ≡ k + 1 → Some f ≡ front_at hs name d k
    → front_below hs name d n ≡ all → Some f ≡ all
front_decides hs name d k n f all next is was =
    let S : ℕ → Type 0 = λ m. front_below hs name d m ≡ all in
    let step : n ≡ suc k = omega (arith, next) in
    let at : front_below hs name d (suc k) ≡ all = subst S step was in
    ap (λ (o : Option Folder). option_or o (front_below hs name d k)) is ∙ at

unnamed : (hs : List NumberedFolder) (q : List ℕ) → list_any (has_length (length q)) hs ≡ false → named hs q ≡ None
unnamed [] q e = refl
unnamed (h ∷ hs) q e =
    elim (is_same h.folder.name q) as (λ (b : Bool). is_same h.folder.name q ≡ b → (if b then Some h else named hs q) ≡ None) [
      | true ↦ λ t. absurd (not_both (has_length (length q) h) (eq-eqb _ _ (ap length (same_name h.folder.name q t)))
          (neither (has_length (length q) h) (list_any (has_length (length q)) hs) e).0)
      | false ↦ λ t. unnamed hs q (neither (has_length (length q) h) (list_any (has_length (length q)) hs) e).1
    ] refl
  where
    neither : (a b : Bool) → (a || b) ≡ false → (a ≡ false) × (b ≡ false)
    neither true b f = absurd (let g : true ≡ false = f in cc)
    neither false b f = (refl, f)

none_either : (b : Bool) → ◌≡◌ {A = Option Folder} None (if b then None else None)
none_either true = refl
none_either false = refl

-- no front is a folder's name where no folder's name has its length
pub no_front : (hs : List NumberedFolder) (name : List ℕ) (d n : ℕ) → n < length name → list_any (has_length n) hs ≡ false → None ≡ front_at hs name d n
no_front hs name d n within none =
    let len : length (take n name) ≡ n = length-take-le n name (omega (arith, within)) in
    let free : named hs (take n name) ≡ None = unnamed hs (take n name) (ap (λ (m : ℕ). list_any (has_length m) hs) len ∙ none) in
    none_either (goes_on d (drop n name)) ∙ sym (ap (λ (o : Option NumberedFolder). if goes_on d (drop n name) then option_map (λ (h : NumberedFolder). h.folder) o else None) free)

or_joined : (a b c : Bool) → ((a || b) || c) ≡ (a || (b || c))
or_joined true b c = refl
or_joined false b c = refl

-- what was noted, and what is left, pass as before
pub noted_more : {X : Type 0} (f : X → Bool) (xs : List X) (i : ℕ) (x : X) (old new all : Bool) → i < length xs → x ≡ get_or xs i x → new ≡ (old || f x)
    → (old || list_any f (drop i xs)) ≡ all → (new || list_any f (drop (i + 1) xs)) ≡ all
noted_more {X} f xs i x old new all within is made was =
    let left_is : drop i xs ≡ x ∷ drop (i + 1) xs = rw add-one (drop-cons xs i x within ∙ ap (λ (y : X). y ∷ drop (suc i) xs) (sym is)) in
    ap (λ (b : Bool). b || list_any f (drop (i + 1) xs)) made ∙ or_joined old (f x) (list_any f (drop (i + 1) xs))
    ∙ sym (ap (λ (ys : List X). old || list_any f ys) left_is) ∙ was
