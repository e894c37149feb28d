-- Filters as JSON (RFC 8620 section 5.5): a FilterOperator has an `operator`, any other object is a FilterCondition.
use Rattle.std.specs.Prelude.{ℕ, List, [], ◌∷◌, bytes_eq, codes, if◌then◌else◌, Option, Some, None}
use Rattle.serde_json.specs.Data.{Data, null, boolean, number, string, array, object, Items, no_items, item, Members, no_members, member}
use Rattle.serde_json.specs.Find.{get_member}
use Rattle.query_lists.specs.Filters.{FilterTree, conditions, joined_by}
use Rattle.query_lists.specs.declared.filter.FilterOperator.{FilterOperator}
use Rattle.query_lists.specs.declared.filter.FilterOperator.TheVariants.{And, Or, Not}
use Rattle.query_arguments.specs.FilterTrees.{trees_of}
use Rattle.query_arguments.specs.Readings.{both_read, each_read, reading_map}
use Rattle.query_arguments.specs.declared.reading.Reading.{Reading}
use Rattle.query_arguments.specs.declared.reading.Reading.TheVariants.{Wrong, Unsupported, Means}

abbrev pub operator_named : List ℕ → Reading FilterOperator
operator_named name =
    if bytes_eq name (codes "AND") then Means And
    else if bytes_eq name (codes "OR") then Means Or
    else if bytes_eq name (codes "NOT") then Means Not
    else Unsupported

abbrev pub operator_in : Data → Reading FilterOperator
operator_in null = Wrong
operator_in (boolean b) = Wrong
operator_in (number n) = Wrong
operator_in (string name) = operator_named name
operator_in (array ds) = Wrong
operator_in (object ms) = Wrong

module _ {C : Type 0} where
  abbrev pub joined_filter : Reading FilterOperator → Reading (List (FilterTree C)) → Reading (FilterTree C)
  joined_filter = both_read (λ operator fs. joined_by operator (trees_of fs))

  -- all rows are taken
  abbrev pub all_rows : FilterTree C
  all_rows = conditions []

  module _ (condition_in : List ℕ → Data → Reading C) where
    -- each member of a FilterCondition is a condition
    abbrev pub conditions_in : Members → List (Reading C)
    conditions_in no_members = []
    conditions_in (member key d ms) = condition_in key d ∷ conditions_in ms

    abbrev pub plain_filter : Members → Reading (FilterTree C)
    plain_filter ms = reading_map conditions (each_read (conditions_in ms))

    -- conditions, or where there is an operator what it joins
    abbrev pub filter_of : Option Data → Members → Reading (List (FilterTree C)) → Reading (FilterTree C)
    filter_of None ms fs = plain_filter ms
    filter_of (Some operator) ms fs = joined_filter (operator_in operator) fs

    abbrev mutual
      pub filter_in : Data → Reading (FilterTree C)
      filter_in null = Wrong
      filter_in (boolean b) = Wrong
      filter_in (number n) = Wrong
      filter_in (string s) = Wrong
      filter_in (array ds) = Wrong
      filter_in (object ms) = filter_of (get_member (codes "operator") ms) ms (joined_in ms)

      -- the filters that an operator joins
      pub joined_in : Members → Reading (List (FilterTree C))
      joined_in no_members = Wrong
      joined_in (member key d ms) = if bytes_eq key (codes "conditions") then filters_of d else joined_in ms

      pub filters_of : Data → Reading (List (FilterTree C))
      filters_of null = Wrong
      filters_of (boolean b) = Wrong
      filters_of (number n) = Wrong
      filters_of (string s) = Wrong
      filters_of (array ds) = each_read (filters_in ds)
      filters_of (object ms) = Wrong

      pub filters_in : Items → List (Reading (FilterTree C))
      filters_in no_items = []
      filters_in (item d ds) = filter_in d ∷ filters_in ds

    -- null, or nothing, takes all
    abbrev pub filter_or_all : Option Data → Reading (FilterTree C)
    filter_or_all None = Means all_rows
    filter_or_all (Some null) = Means all_rows
    filter_or_all (Some d) = filter_in d
