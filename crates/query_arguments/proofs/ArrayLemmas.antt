-- Filters and comparators of arrays.
use Rattle.std.proofs.Common.{◌≡◌, ℕ, List, map, Vec, Global, refl, sym, ap, ◌∙◌}
use Rattle.serde_json.specs.Data.{Data}
use Rattle.serde_json.specs.View.{view, items_view}
use Rattle.serde_json.specs.declared.value.Value.{Value, Array}
use Rattle.serde_json.proofs.Views.{view-Array}
use Rattle.query_arguments.specs.Filters.{filters_in, filters_of}
use Rattle.query_arguments.specs.FilterTrees.{filter_tree}
use Rattle.query_arguments.specs.Readings.{reading_map, each_read}
use Rattle.query_arguments.specs.Sorts.{comparators_in, sort_of}
use Rattle.query_arguments.specs.declared.filter.Filter.{Filter}
use Rattle.query_arguments.specs.declared.reading.Reading.{Reading}
use Rattle.query_arguments.specs.declared.reading.Reading.TheVariants.{Wrong, Unsupported, Means}
use Rattle.query_arguments.proofs.ReadingLemmas.{each_read_map}

module _ {A B : Type 0} (f : A → B) where
  seen_twice : (r : Reading (Vec A Global)) → reading_map (λ v. map f v.items) r ≡ reading_map (map f) (reading_map (λ v. v.items) r)
  seen_twice Wrong = refl
  seen_twice Unsupported = refl
  seen_twice (Means v) = refl

  -- what all mean, each seen as something else
  pub each_seen : (r : Reading (Vec A Global)) (rs : List (Reading A)) → reading_map (λ v. v.items) r ≡ each_read rs
      → reading_map (λ v. map f v.items) r ≡ each_read (map (reading_map f) rs)
  each_seen r rs is = seen_twice r ∙ ap (reading_map (map f)) is ∙ each_read_map f rs

-- the filters that an array is
pub filters_of_array : {C : Type 0} (condition_in : List ℕ → Data → Reading C) (value : Value) (v : Vec Value Global) (parts : List (Reading (Filter C)))
    (r : Reading (Vec (Filter C) Global)) → value ≡ Array v → map (reading_map filter_tree) parts ≡ filters_in condition_in (items_view v.items)
    → reading_map (λ v. v.items) r ≡ each_read parts → reading_map (λ v. map filter_tree v.items) r ≡ filters_of condition_in (view value)
filters_of_array condition_in value v parts r is are read =
    each_seen filter_tree r parts read ∙ ap each_read are ∙ sym (ap (filters_of condition_in) (ap view is ∙ view-Array v))

-- and the order that one is
pub sort_of_array : {S : Type 0} (comparator_in : Data → Reading S) (value : Value) (v : Vec Value Global) (parts : List (Reading S))
    (r : Reading (Vec S Global)) → value ≡ Array v → parts ≡ comparators_in comparator_in (items_view v.items)
    → reading_map (λ v. v.items) r ≡ each_read parts → reading_map (λ v. v.items) r ≡ sort_of comparator_in (view value)
sort_of_array comparator_in value v parts r is are read = read ∙ ap each_read are ∙ sym (ap (sort_of comparator_in) (ap view is ∙ view-Array v))
