-- The orders of a query, one by one.
use Rattle.std.proofs.Common.{◌≡◌, ◌↔◌, ℕ, List, [], ◌∷◌, Bool, true, false, ◌||◌, codes, bytes_eq, Option, Some, refl, sym, ap, subst, ◌∙◌}
use Rattle.std.proofs.lemmas.Slice.Eq.{bytes_eq-Decides}
use Rattle.std.specs.List.{AllByRecursion}
use Rattle.serde_json.specs.Data.{Data, string, object, no_members, member}
use Rattle.query_orders.specs.declared.comparators.EmailComparator.{EmailComparator}
use Rattle.query_orders.specs.declared.comparators.EmailSort.{EmailSort}
use Rattle.query_orders.specs.declared.comparators.EmailSort.TheVariants as sort
use Rattle.query_arguments.specs.Readings.{both_read}
use Rattle.query_arguments.specs.Sorts.{property_named, email_sort_named, email_comparator, direction}
use Rattle.query_arguments.specs.declared.reading.Reading.{Reading}
use Rattle.query_arguments.specs.declared.reading.Reading.TheVariants.{Wrong, Unsupported, Means}
use Rattle.jmap_arguments.specs.Arguments.{is_among}
use Rattle.jmap_values.specs.Keywords.{is_keyword}
use Rattle.jmap_core.specs.Session.{email_orders}
use Rattle.gate_calls.specs.SortOptions.{IsTakenOrder}

-- ---- those that are offered are taken

-- a comparator of this property, with a keyword
abbrev comparator_of : List ℕ → Data
comparator_of name = object (member (codes "keyword") (string (codes "x")) (member (codes "property") (string name) no_members))

all_taken : AllByRecursion IsTakenOrder email_orders
unfolding is_keyword
all_taken = (
  (comparator_of (codes "receivedAt"), email_comparator sort.ReceivedAt true, refl, refl),
  (
    (comparator_of (codes "size"), email_comparator sort.Size true, refl, refl),
    (
      (comparator_of (codes "from"), email_comparator sort.From true, refl, refl),
      (
        (comparator_of (codes "to"), email_comparator sort.To true, refl, refl),
        (
          (comparator_of (codes "subject"), email_comparator sort.Subject true, refl, refl),
          (
            (comparator_of (codes "sentAt"), email_comparator sort.SentAt true, refl, refl),
            (
              (comparator_of (codes "hasKeyword"), email_comparator (sort.HasKeyword (codes "x")) true, refl, refl),
              (
                (comparator_of (codes "allInThreadHaveKeyword"), email_comparator (sort.AllInThreadHaveKeyword (codes "x")) true, refl, refl),
                (
                  (comparator_of (codes "someInThreadHaveKeyword"), email_comparator (sort.SomeInThreadHaveKeyword (codes "x")) true, refl, refl),
                  tt,
                ),
              ),
            ),
          ),
        ),
      ),
    ),
  ),
)

-- what holds of each of the names holds of one among them
of_one : (P : List ℕ → Type 0) (name : List ℕ) (names : List (List ℕ)) → AllByRecursion P names → is_among name names ≡ true → P name
of_one P name [] each among = cc
of_one P name (n ∷ ns) each among = go (bytes_eq n name) refl (λ (later : is_among name ns ≡ true). of_one P name ns each.1 later) among
  where
    go : (b : Bool) → bytes_eq n name ≡ b → (is_among name ns ≡ true → P name) → (b || is_among name ns) ≡ true → P name
    go true same later among = subst P ((bytes_eq-Decides n name).0 same) each.0
    go false same later among = later among

-- ---- and no others

differs : (n name : List ℕ) → bytes_eq n name ≡ false → bytes_eq name n ≡ false
differs n name other = go (bytes_eq name n) refl
  where
    go : (b : Bool) → bytes_eq name n ≡ b → b ≡ false
    go true same =
        let back : bytes_eq n name ≡ true = (bytes_eq-Decides n name).1 (sym ((bytes_eq-Decides name n).0 same)) in
        cc
    go false same = refl

none_of : (name : List ℕ) (names : List (List ℕ)) → is_among name names ≡ false → AllByRecursion (λ n. bytes_eq name n ≡ false) names
none_of name [] none = tt
none_of name (n ∷ ns) none = go (bytes_eq n name) refl (λ (later : is_among name ns ≡ false). none_of name ns later) none
  where
    go : (b : Bool) → bytes_eq n name ≡ b → (is_among name ns ≡ false → AllByRecursion (λ m. bytes_eq name m ≡ false) ns) → (b || is_among name ns) ≡ false
        → AllByRecursion (λ m. bytes_eq name m ≡ false) (n ∷ ns)
    go true same later none = cc
    go false same later none = (differs n name same, later none)

not_supported : (name : List ℕ) (d : Data) → is_among name email_orders ≡ false → email_sort_named name d ≡ Unsupported
not_supported name d none =
    let h = none_of name email_orders none in
    rw (h.0, h.1.0, h.1.1.0, h.1.1.1.0, h.1.1.1.1.0, h.1.1.1.1.1.0, h.1.1.1.1.1.1.0, h.1.1.1.1.1.1.1.0, h.1.1.1.1.1.1.1.1.0)

never_read : (r : Reading Bool) (comparator : EmailComparator) → both_read email_comparator Unsupported r ≡ Means comparator → ⊥
never_read Wrong comparator is = cc
never_read Unsupported comparator is = cc
never_read (Means b) comparator is = cc

is_offered : (name : List ℕ) → IsTakenOrder name → is_among name email_orders ≡ true
is_offered name taken = go (is_among name email_orders) refl
  where
    go : (b : Bool) → is_among name email_orders ≡ b → b ≡ true
    go true among = refl
    go false none =
        let named : both_read email_comparator (property_named (λ n. email_sort_named n taken.0) (Some name)) (direction taken.0) ≡ Means taken.1 =
        ap (λ (p : Option (List ℕ)). both_read email_comparator (property_named (λ n. email_sort_named n taken.0) p) (direction taken.0)) (sym taken.2) ∙ taken.3 in
        absurd (never_read (direction taken.0) taken.1
        (ap (λ (r : Reading EmailSort). both_read email_comparator r (direction taken.0)) (sym (not_supported name taken.0 none)) ∙ named))

pub offered_or_not : (name : List ℕ) → (is_among name email_orders ≡ true) ↔ IsTakenOrder name
offered_or_not name = (of_one IsTakenOrder name email_orders all_taken, is_offered name)
