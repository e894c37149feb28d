-- The orders of a query (RFC 8620 section 5.5, RFC 8621 section 4.4.2).
use Rattle.std.specs.Prelude.{◌≡◌, ℕ, List, Some}
use Rattle.serde_json.specs.Data.{Data}
use Rattle.query_orders.specs.declared.comparators.EmailComparator.{EmailComparator}
use Rattle.query_arguments.specs.Sorts.{property_of, email_comparator_in}
use Rattle.query_arguments.specs.declared.reading.Reading.TheVariants.{Means}

-- there is a comparator of this property that Email/query takes
abbrev pub IsTakenOrder : List ℕ → Type 0
IsTakenOrder name = (d : Data) × (comparator : EmailComparator) × (property_of d ≡ Some name) × (email_comparator_in d ≡ Means comparator)
