-- Where the values of the fields of one name stand.
use Rattle.std.specs.Prelude.{◌≡◌, ℕ, List, [], ◌∷◌, ⊤}
use Rattle.httparse.specs.declared.spans.Span.{Span}
use Rattle.httparse.specs.Spans.{IsWithin, span_bytes}
use Rattle.http_service.specs.declared.fields.Values.{Values}
use Rattle.http_service.specs.declared.fields.Values.TheVariants.{Absent, Only, Several}

-- the values in the octets
abbrev pub AreValues : List ℕ → List (List ℕ) → Values → Type 0
AreValues octets [] Absent = ⊤
AreValues octets [] (Only span) = ⊥
AreValues octets [] (Several span) = ⊥
AreValues octets (value ∷ []) Absent = ⊥
AreValues octets (value ∷ []) (Only span) = span_bytes octets span ≡ value
AreValues octets (value ∷ []) (Several span) = ⊥
AreValues octets (value ∷ other ∷ more) Absent = ⊥
AreValues octets (value ∷ other ∷ more) (Only span) = ⊥
AreValues octets (value ∷ other ∷ more) (Several span) = span_bytes octets span ≡ value

-- what is kept of them lies in n octets
abbrev pub AreWithin : ℕ → Values → Type 0
AreWithin n Absent = ⊤
AreWithin n (Only span) = IsWithin n span
AreWithin n (Several span) = IsWithin n span

-- one value more
abbrev pub with_value : Span → Values → Values
with_value value Absent = Only value
with_value value (Only first) = Several first
with_value value (Several first) = Several first
