-- Rows that are narrowed by one condition after another.
use Rattle.std.proofs.Common.{◌≡◌, ◌↔◌, ℕ, ◌+◌, ◌<◌, ◌≤◌, List, [], ◌∷◌, length, get_or, drop, map, Bool, IsTrue, true, false, arith, refl, sym, subst, drop_of_length-le}
use Rattle.std.proofs.Math.Bool.{beq}
use Rattle.std.specs.List.{AllByRecursion, items_where_true}
use Rattle.std.specs.List.Retain.{IsFiltered, ReturnsInTurn}
use Rattle.query_arguments.specs.FilterTrees.{filter_tree, trees_of}
use Rattle.query_arguments.specs.declared.filter.Filter.{Filter}
use Rattle.query_lists.specs.Filters.{PassesEach, PassesFilter}
use Rattle.query_core.specs.reading.Found.{EachCondition, EachConditionOf}
use Rattle.query_core.specs.reading.Kept.{Keeps, KeepsNone, KeepsOne, LeavesOne}
use Rattle.query_core.proofs.KeptLemmas.{keeps_same}
use Rattle.query_core.proofs.FilterLemmas.{splits}

module _ {V : Type 0} where
  pub keeps_all : (P : ℕ × V → Type 0) (rows : List (ℕ × V)) → ((e : ℕ × V) → P e) → Keeps P rows rows
  keeps_all P [] each = KeepsNone
  keeps_all P (e ∷ rows) each = KeepsOne e rows rows (each e) (keeps_all P rows each)

  pub keeps_twice : (P Q : ℕ × V → Type 0) (all some kept : List (ℕ × V)) → Keeps P all some → Keeps Q some kept → Keeps (λ e. P e × Q e) all kept
  keeps_twice P Q _ _ _ KeepsNone KeepsNone = KeepsNone
  keeps_twice P Q _ _ _ (KeepsOne e all some p k) (KeepsOne _ _ kept q l) = KeepsOne e all kept (p, q) (keeps_twice P Q all some kept k l)
  keeps_twice P Q _ _ _ (KeepsOne e all some p k) (LeavesOne _ _ kept non l) = LeavesOne e all kept (λ h. non h.1) (keeps_twice P Q all some kept k l)
  keeps_twice P Q _ _ kept (LeavesOne e all some non k) l = LeavesOne e all kept (λ h. non h.0) (keeps_twice P Q all some kept k l)

-- where all of a list have to hold, one after another
module _ {V C : Type 0} (Known : List C → Type 0) (Each : ℕ × V → List C → Type 0) (Knows : C → Type 0) (Holds : ℕ × V → C → Type 0)
    (known : (c : C) (cs : List C) → Known (c ∷ cs) → Knows c × Known cs) (none : (e : ℕ × V) → Each e []) (more : (e : ℕ × V) (c : C) (cs : List C) → (Holds e c × Each e cs) ↔ Each e (c ∷ cs))
    (all : List (ℕ × V)) (cs : List C) where
  -- what is kept of these by those that are left is what is kept of all by each
  abbrev pub Narrowed : ℕ → List (ℕ × V) → Type 0
  Narrowed i rows = Known cs → Known (drop i cs) × ((kept : List (ℕ × V)) → Keeps (λ e. Each e (drop i cs)) rows kept → Keeps (λ e. Each e cs) all kept)

  pub narrow_begins : (rows : List (ℕ × V)) → rows ≡ all → Narrowed 0 rows
  narrow_begins rows same = λ k. (k, λ kept h. subst (λ (rs : List (ℕ × V)). Keeps (λ e. Each e cs) rs kept) same h)

  pub narrow_on : (i : ℕ) (rows new : List (ℕ × V)) (c : C) → i < length cs → c ≡ get_or cs i c → (Knows c → Keeps (λ e. Holds e c) rows new)
      → Narrowed i rows → Narrowed (i + 1) new
  narrow_on i rows new c within is step so_far = λ k.
      let knows = known c (drop (i + 1) cs) (subst Known (splits cs i c within is) (so_far k).0) in (
        knows.1,
        λ kept h.
            (so_far k).1 kept
            (subst (λ (ds : List C). Keeps (λ e. Each e ds) rows kept) (sym (splits cs i c within is))
            (keeps_same (λ e. Holds e c × Each e (drop (i + 1) cs)) (λ e. Each e (c ∷ drop (i + 1) cs)) rows kept (λ e. more e c (drop (i + 1) cs))
            (keeps_twice (λ e. Holds e c) (λ e. Each e (drop (i + 1) cs)) rows new kept (step knows.0) h))),
      )

  pub narrow_ends : (i : ℕ) (rows : List (ℕ × V)) → length cs ≤ i → Narrowed i rows → Known cs → Keeps (λ e. Each e cs) all rows
  narrow_ends i rows past so_far k =
      (so_far k).1 rows (subst (λ (ds : List C). Keeps (λ e. Each e ds) rows rows) (sym (drop_of_length-le cs past)) (keeps_all (λ e. Each e []) rows none))

-- the same of conditions
module _ {V C : Type 0} (Knows : C → Type 0) (Holds : ℕ × V → C → Type 0) (all : List (ℕ × V)) (cs : List C) where
  abbrev pub NarrowedByAll : ℕ → List (ℕ × V) → Type 0
  NarrowedByAll i rows =
      Narrowed (AllByRecursion Knows) (λ e. AllByRecursion (Holds e)) Knows Holds (λ c ds h. h) (λ e. tt) (λ e c ds. ((λ h. h), (λ h. h))) all cs i rows

  pub all_begin : (rows : List (ℕ × V)) → rows ≡ all → NarrowedByAll 0 rows
  all_begin = narrow_begins (AllByRecursion Knows) (λ e. AllByRecursion (Holds e)) Knows Holds (λ c ds h. h) (λ e. tt) (λ e c ds. ((λ h. h), (λ h. h))) all cs

  pub all_on : (i : ℕ) (rows new : List (ℕ × V)) (c : C) → i < length cs → c ≡ get_or cs i c → (Knows c → Keeps (λ e. Holds e c) rows new)
      → NarrowedByAll i rows → NarrowedByAll (i + 1) new
  all_on = narrow_on (AllByRecursion Knows) (λ e. AllByRecursion (Holds e)) Knows Holds (λ c ds h. h) (λ e. tt) (λ e c ds. ((λ h. h), (λ h. h))) all cs

  pub all_end : (i : ℕ) (rows : List (ℕ × V)) → length cs ≤ i → NarrowedByAll i rows → AllByRecursion Knows cs → Keeps (λ e. AllByRecursion (Holds e) cs) all rows
  all_end = narrow_ends (AllByRecursion Knows) (λ e. AllByRecursion (Holds e)) Knows Holds (λ c ds h. h) (λ e. tt) (λ e c ds. ((λ h. h), (λ h. h))) all cs

-- and of filters
module _ {V C : Type 0} (Knows : C → Type 0) (Holds : ℕ × V → C → Type 0) (all : List (ℕ × V)) (fs : List (Filter C)) where
  abbrev Known : List (Filter C) → Type 0
  Known gs = EachConditionOf Knows (trees_of (map filter_tree gs))

  abbrev Each : ℕ × V → List (Filter C) → Type 0
  Each e gs = PassesEach (Holds e) (trees_of (map filter_tree gs))

  abbrev KnownOne : Filter C → Type 0
  KnownOne g = EachCondition Knows (filter_tree g)

  abbrev Takes : ℕ × V → Filter C → Type 0
  Takes e g = PassesFilter (Holds e) (filter_tree g)

  abbrev pub NarrowedByFilters : ℕ → List (ℕ × V) → Type 0
  NarrowedByFilters i rows = Narrowed Known Each KnownOne Takes (λ g gs h. h) (λ e. tt) (λ e g gs. ((λ h. h), (λ h. h))) all fs i rows

  pub filters_begin : (rows : List (ℕ × V)) → rows ≡ all → NarrowedByFilters 0 rows
  filters_begin = narrow_begins Known Each KnownOne Takes (λ g gs h. h) (λ e. tt) (λ e g gs. ((λ h. h), (λ h. h))) all fs

  pub filters_on : (i : ℕ) (rows new : List (ℕ × V)) (g : Filter C) → i < length fs → g ≡ get_or fs i g → (KnownOne g → Keeps (λ e. Takes e g) rows new)
      → NarrowedByFilters i rows → NarrowedByFilters (i + 1) new
  filters_on = narrow_on Known Each KnownOne Takes (λ g gs h. h) (λ e. tt) (λ e g gs. ((λ h. h), (λ h. h))) all fs

  pub filters_end : (i : ℕ) (rows : List (ℕ × V)) → length fs ≤ i → NarrowedByFilters i rows → Known fs → Keeps (λ e. Each e fs) all rows
  filters_end = narrow_ends Known Each KnownOne Takes (λ g gs h. h) (λ e. tt) (λ e g gs. ((λ h. h), (λ h. h))) all fs

-- ---- conditions of one kind and of the other

either : (b : Bool) (H : Type 0) → (b ≡ false → H) → (b ≡ true → H) → H
either false H f t = f refl
either true H f t = t refl

pub each_of_both : {C : Type 0} (is_such : C → Bool) (Holds : C → Type 0) (cs : List C)
    → (AllByRecursion (λ c. is_such c ≡ false → Holds c) cs × AllByRecursion (λ c. is_such c ≡ true → Holds c) cs) ↔ AllByRecursion Holds cs
each_of_both is_such Holds [] = ((λ h. tt), (λ h. (tt, tt)))
each_of_both is_such Holds (c ∷ cs) =
    let rest = each_of_both is_such Holds cs in (
      (λ h. (either (is_such c) (Holds c) h.0.0 h.1.0, rest.0 (h.0.1, h.1.1))),
      (λ h. (((λ no. h.0), (rest.1 h.1).0), ((λ yes. h.0), (rest.1 h.1).1))),
    )

pub same_if : (a b : Bool) → beq a b ≡ true → a ≡ b
same_if true true is = refl
same_if true false is = absurd (cc)
same_if false true is = absurd (cc)
same_if false false is = refl

pub other_if : (a b : Bool) → beq a b ≡ false → ¬ (a ≡ b)
other_if true true is = absurd (cc)
other_if true false is = λ same. let no : true ≡ false = same in cc
other_if false true is = λ same. let no : false ≡ true = same in cc
other_if false false is = absurd (cc)

-- ---- what `retain` leaves

module _ {X F V : Type 0} (R : F → X → Bool → F → Type 0) (P : ℕ × V → Type 0) (shown : X → ℕ × V) (f : F)
    (tests : (x : X) (b : Bool) (g : F) → R f x b g → (IsTrue b ↔ P (shown x)) × (g ≡ f)) where
  keeps_where : (bs : List Bool) (xs : List X) (p q : F) → p ≡ f → length bs ≡ length xs → ReturnsInTurn R p bs xs q
      → Keeps P (map shown xs) (map shown (items_where_true bs xs))
  keeps_where [] [] p q at long r = KeepsNone
  keeps_where [] (x ∷ xs) p q at long r = absurd (omega (arith, long))
  keeps_where (b ∷ bs) [] p q at long r = absurd r
  keeps_where (true ∷ bs) (x ∷ xs) p q at long r =
      let step = tests x true r.0 (subst (λ (g : F). R g x true r.0) at r.1) in
      KeepsOne (shown x) (map shown xs) (map shown (items_where_true bs xs)) (step.0.0 refl) (keeps_where bs xs r.0 q step.1 (omega (arith, long)) r.2)
  keeps_where (false ∷ bs) (x ∷ xs) p q at long r =
      let step = tests x false r.0 (subst (λ (g : F). R g x false r.0) at r.1) in
      LeavesOne (shown x) (map shown xs) (map shown (items_where_true bs xs)) (λ h. let no : false ≡ true = step.0.1 h in cc)
      (keeps_where bs xs r.0 q step.1 (omega (arith, long)) r.2)

  pub keeps_retained : (xs ys : List X) → IsFiltered R f xs ys → Keeps P (map shown xs) (map shown ys)
  keeps_retained xs ys r =
      subst (λ (zs : List X). Keeps P (map shown xs) (map shown zs)) (sym r.4) (keeps_where r.0 xs f r.1 refl r.2 r.3)
