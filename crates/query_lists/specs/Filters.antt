-- Filters: conditions of rows, joined by operators (RFC 8620 section 5.5).
use Rattle.std.specs.Prelude.{List, ◌⊎◌}
use Rattle.std.specs.List.{AllByRecursion}
use Rattle.query_lists.specs.declared.filter.FilterOperator.{FilterOperator}
use Rattle.query_lists.specs.declared.filter.FilterOperator.TheVariants.{And, Or, Not}

mutual
  -- conditions, each of which has to hold, or filters that an operator joins
  pub data FilterTree (C : Type 0) : Type 0 where
    conditions : List C → FilterTree C
    joined_by : FilterOperator → FilterTrees C → FilterTree C

  pub data FilterTrees (C : Type 0) : Type 0 where
    no_filters : FilterTrees C
    filters : FilterTree C → FilterTrees C → FilterTrees C

-- where each filter takes a row, and where one does
abbrev pub JoinsBy : FilterOperator → Type 0 → Type 0 → Type 0
JoinsBy And Each Some = Each
JoinsBy Or Each Some = Some
JoinsBy Not Each Some = ¬ Some

module _ {C : Type 0} (Holds : C → Type 0) where
  abbrev mutual
    -- the filter takes a row of which these conditions hold
    pub PassesFilter : FilterTree C → Type 0
    PassesFilter (conditions cs) = AllByRecursion Holds cs
    PassesFilter (joined_by operator fs) = JoinsBy operator (PassesEach fs) (PassesSome fs)

    pub PassesEach : FilterTrees C → Type 0
    PassesEach no_filters = Unit {0}
    PassesEach (filters f fs) = PassesFilter f × PassesEach fs

    pub PassesSome : FilterTrees C → Type 0
    PassesSome no_filters = ⊥
    PassesSome (filters f fs) = PassesFilter f ⊎ PassesSome fs
