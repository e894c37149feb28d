-- The octets by which properties are told apart, and which comparators have a property.
use Rattle.std.specs.Prelude.{◌≡◌, ◌⊎◌, ℕ, List, [], ◌∷◌}
use Rattle.query_orders.specs.declared.comparators.EmailComparator.{EmailComparator}
use Rattle.query_orders.specs.declared.comparators.EmailSort.{EmailSort}
use Rattle.query_orders.specs.declared.comparators.EmailSort.TheVariants as sort

abbrev pub property_key : EmailSort → List ℕ
property_key sort.ReceivedAt = 0 ∷ []
property_key sort.Size = 1 ∷ []
property_key sort.From = 2 ∷ []
property_key sort.To = 3 ∷ []
property_key sort.Subject = 4 ∷ []
property_key sort.SentAt = 5 ∷ []
property_key (sort.HasKeyword keyword) = 6 ∷ keyword
property_key (sort.AllInThreadHaveKeyword keyword) = 7 ∷ keyword
property_key (sort.SomeInThreadHaveKeyword keyword) = 8 ∷ keyword

-- the property with these octets is one comparator's
abbrev pub HasProperty : List ℕ → List EmailComparator → Type 0
HasProperty key [] = ⊥
HasProperty key (c ∷ cs) = (property_key c.property ≡ key) ⊎ HasProperty key cs
