-- Filters of which some were tried: what is still to be tried decides.
use Rattle.std.proofs.Common.{◌≡◌, ◌↔◌, inl, inr, ⊎_elim, ℕ, ◌+◌, ◌<◌, ◌≤◌, List, [], ◌∷◌, length}
use Rattle.std.proofs.Common.{get_or, drop, map, Bool, true, false, IsTrue, not, Option, None, Some, IfSome, refl, sym, ap, subst, ◌∙◌, drop_of_length-le}
use Rattle.std.proofs.lemmas.List.{drop_more}
use Rattle.std.specs.List.{AllByRecursion}
use Rattle.query_conditions.specs.declared.email_condition.RecordCondition.TheVariants.{InMailbox}
use Rattle.query_arguments.specs.FilterTrees.{filter_tree, trees_of}
use Rattle.query_arguments.specs.declared.email_condition.EmailCondition.{EmailCondition}
use Rattle.query_arguments.specs.declared.email_condition.EmailCondition.TheVariants.{Record}
use Rattle.query_arguments.specs.declared.filter.Filter.{Filter}
use Rattle.query_lists.specs.Filters.{FilterTree, conditions, joined_by, FilterTrees, no_filters, filters, PassesEach, PassesFilter, PassesSome}
use Rattle.query_core.specs.reading.Found.{EachCondition, EachConditionOf}

-- a test that fails, where what it decides fails too; and one that is true
never_true : {P : Type 0} → (¬ P) → IsTrue false ↔ P
never_true non = (λ t. absurd (let e : false ≡ true = t in cc), λ p. absurd (non p))

always_true : {P : Type 0} → P → IsTrue true ↔ P
always_true p = (λ t. p, λ q. refl)

fails : {P : Type 0} (b : Bool) → b ≡ false → IsTrue b ↔ P → ¬ P
fails b is same = λ p. let e : true ≡ false = sym (same.1 p) ∙ is in cc

pub turned : {P : Type 0} (b : Bool) → IsTrue b ↔ P → IsTrue (not b) ↔ (¬ P)
turned true same = (λ t. absurd (let e : false ≡ true = t in cc), λ non. absurd (non (same.0 refl)))
turned false same = (λ t p. let e : false ≡ true = same.1 p in cc, λ non. refl)

pub splits : {A : Type 0} (xs : List A) (i : ℕ) (x : A) → i < length xs → x ≡ get_or xs i x → drop i xs ≡ x ∷ drop (i + 1) xs
splits xs i x within is = drop_more xs i x within ∙ ap (λ y. y ∷ drop (i + 1) xs) (sym is)

-- ---- conditions

module _ {C : Type 0} (Knows Holds : C → Type 0) where
  -- each of all holds where each of the rest does
  abbrev pub AllSoFar : List C → ℕ → Type 0
  AllSoFar all i = AllByRecursion Knows all → AllByRecursion Knows (drop i all) × (AllByRecursion Holds (drop i all) ↔ AllByRecursion Holds all)

  pub all_begins : (all : List C) → AllSoFar all 0
  all_begins all = λ k. (k, (λ h. h, λ h. h))

  module _ (all : List C) (i : ℕ) (c : C) (b : Bool) (within : i < length all) (is : c ≡ get_or all i c) (tests : Knows c → IsTrue b ↔ Holds c) (so_far : AllSoFar all i) where
    all_known : AllByRecursion Knows all → AllByRecursion Knows (c ∷ drop (i + 1) all)
    all_known k = subst (AllByRecursion Knows) (splits all i c within is) (so_far k).0

    all_same : AllByRecursion Knows all → AllByRecursion Holds (c ∷ drop (i + 1) all) ↔ AllByRecursion Holds all
    all_same k = subst (λ (cs : List C). AllByRecursion Holds cs ↔ AllByRecursion Holds all) (splits all i c within is) (so_far k).1

    pub all_goes_on : b ≡ true → AllSoFar all (i + 1)
    all_goes_on sure = λ k. ((all_known k).1, (λ h. (all_same k).0 ((tests (all_known k).0).0 sure, h), λ h. ((all_same k).1 h).1))

    pub all_stops : b ≡ false → AllByRecursion Knows all → IsTrue false ↔ AllByRecursion Holds all
    all_stops non k = never_true (λ h. fails b non (tests (all_known k).0) ((all_same k).1 h).0)

  pub all_ends : (all : List C) (i : ℕ) → length all ≤ i → AllSoFar all i → AllByRecursion Knows all → IsTrue true ↔ AllByRecursion Holds all
  all_ends all i past so_far k = always_true ((subst (λ (cs : List C). AllByRecursion Holds cs ↔ AllByRecursion Holds all) (drop_of_length-le all past) (so_far k).1).0 tt)

-- ---- filters

module _ {C : Type 0} (Knows Holds : C → Type 0) where
  abbrev Known : List (Filter C) → Type 0
  Known fs = EachConditionOf Knows (trees_of (map filter_tree fs))

  abbrev Each : List (Filter C) → Type 0
  Each fs = PassesEach Holds (trees_of (map filter_tree fs))

  abbrev OneOf : List (Filter C) → Type 0
  OneOf fs = PassesSome Holds (trees_of (map filter_tree fs))

  -- each of all takes the row where each of the rest does; and one of all where one of the rest does
  abbrev pub EachSoFar : List (Filter C) → ℕ → Type 0
  EachSoFar all i = Known all → Known (drop i all) × (Each (drop i all) ↔ Each all)

  abbrev pub SomeSoFar : List (Filter C) → ℕ → Type 0
  SomeSoFar all i = Known all → Known (drop i all) × (OneOf (drop i all) ↔ OneOf all)

  pub each_begins : (all : List (Filter C)) → EachSoFar all 0
  each_begins all = λ k. (k, (λ h. h, λ h. h))

  pub some_begins : (all : List (Filter C)) → SomeSoFar all 0
  some_begins all = λ k. (k, (λ h. h, λ h. h))

  module _ (all : List (Filter C)) (i : ℕ) (f : Filter C) (b : Bool) (within : i < length all) (is : f ≡ get_or all i f)
      (tests : EachCondition Knows (filter_tree f) → IsTrue b ↔ PassesFilter Holds (filter_tree f)) where
    known : EachSoFar all i → Known all → Known (f ∷ drop (i + 1) all)
    known so_far k = subst Known (splits all i f within is) (so_far k).0

    same : EachSoFar all i → Known all → Each (f ∷ drop (i + 1) all) ↔ Each all
    same so_far k = subst (λ (fs : List (Filter C)). Each fs ↔ Each all) (splits all i f within is) (so_far k).1

    pub each_goes_on : b ≡ true → EachSoFar all i → EachSoFar all (i + 1)
    each_goes_on sure so_far = λ k.
        ((known so_far k).1, (λ h. (same so_far k).0 ((tests (known so_far k).0).0 sure, h), λ h. ((same so_far k).1 h).1))

    pub each_stops : b ≡ false → EachSoFar all i → Known all → IsTrue false ↔ Each all
    each_stops non so_far k = never_true (λ h. fails b non (tests (known so_far k).0) ((same so_far k).1 h).0)

    known_some : SomeSoFar all i → Known all → Known (f ∷ drop (i + 1) all)
    known_some so_far k = subst Known (splits all i f within is) (so_far k).0

    same_some : SomeSoFar all i → Known all → OneOf (f ∷ drop (i + 1) all) ↔ OneOf all
    same_some so_far k = subst (λ (fs : List (Filter C)). OneOf fs ↔ OneOf all) (splits all i f within is) (so_far k).1

    pub some_goes_on : b ≡ false → SomeSoFar all i → SomeSoFar all (i + 1)
    some_goes_on non so_far = λ k. (
      (known_some so_far k).1,
      (
        λ h. (same_some so_far k).0 (inr h),
        λ h. ⊎_elim (λ p. absurd (fails b non (tests (known_some so_far k).0) p)) (λ r. r) ((same_some so_far k).1 h),
      ),
    )

    pub some_stops : b ≡ true → SomeSoFar all i → Known all → IsTrue true ↔ OneOf all
    some_stops sure so_far k = always_true ((same_some so_far k).0 (inl ((tests (known_some so_far k).0).0 sure)))

  pub each_ends : (all : List (Filter C)) (i : ℕ) → length all ≤ i → EachSoFar all i → Known all → IsTrue true ↔ Each all
  each_ends all i past so_far k = always_true ((subst (λ (fs : List (Filter C)). Each fs ↔ Each all) (drop_of_length-le all past) (so_far k).1).0 tt)

  pub some_ends : (all : List (Filter C)) (i : ℕ) → length all ≤ i → SomeSoFar all i → Known all → IsTrue false ↔ OneOf all
  some_ends all i past so_far k =
      never_true (λ h. (subst (λ (fs : List (Filter C)). OneOf fs ↔ OneOf all) (drop_of_length-le all past) (so_far k).1).1 h)

-- ---- what needs nothing is known

module _ {C : Type 0} where
  nothing_of_all : (cs : List C) → AllByRecursion (λ (c : C). Unit {0}) cs
  nothing_of_all [] = tt
  nothing_of_all (c ∷ cs) = (tt, nothing_of_all cs)

  mutual
    pub nothing_needed : (f : FilterTree C) → EachCondition (λ (c : C). Unit {0}) f
    nothing_needed (conditions cs) = nothing_of_all cs
    nothing_needed (joined_by operator fs) = nothing_needed_of fs

    nothing_needed_of : (fs : FilterTrees C) → EachConditionOf (λ (c : C). Unit {0}) fs
    nothing_needed_of no_filters = tt
    nothing_needed_of (filters f fs) = (nothing_needed f, nothing_needed_of fs)

-- ---- the Emails of one Mailbox

pub mailbox_asked : (tree : FilterTree EmailCondition) (condition : EmailCondition) (mailbox : Option ℕ) → tree ≡ conditions (condition ∷ []) → condition ≡ Record (InMailbox mailbox)
    → IfSome mailbox (λ m. tree ≡ conditions (Record (InMailbox (Some m)) ∷ []))
mailbox_asked tree condition None is same = tt
mailbox_asked tree condition (Some m) is same = is ∙ ap (λ (c : EmailCondition). conditions (c ∷ [])) same
