-- Comparators as JSON (RFC 8620 section 5.5, RFC 8621 sections 2.3 and 4.4.2).
use Rattle.std.specs.Prelude.{ℕ, List, [], ◌∷◌, Bool, true, bytes_eq, codes, if◌then◌else◌, Option, Some, None, option_and_then}
use Rattle.serde_json.specs.Data.{Data, null, boolean, number, string, array, object, Items, no_items, item}
use Rattle.serde_json.specs.Find.{get, as_bool, as_str}
use Rattle.query_orders.specs.declared.comparators.EmailComparator.{EmailComparator}
use Rattle.query_orders.specs.declared.comparators.EmailSort.{EmailSort}
use Rattle.query_orders.specs.declared.comparators.EmailSort.TheVariants as sort
use Rattle.query_orders.specs.declared.comparators.MailboxComparator.{MailboxComparator}
use Rattle.query_orders.specs.declared.comparators.MailboxSort.{MailboxSort}
use Rattle.query_orders.specs.declared.comparators.MailboxSort.TheVariants as mailbox
use Rattle.query_arguments.specs.Readings.{both_read, each_read, means}
use Rattle.query_arguments.specs.Values.{keyword_given}
use Rattle.query_arguments.specs.declared.reading.Reading.{Reading}
use Rattle.query_arguments.specs.declared.reading.Reading.TheVariants.{Wrong, Unsupported, Means}

-- ---- what is compared

-- the keyword that a comparator has beside its property
abbrev pub keyword_beside : Data → Option (List ℕ)
keyword_beside d = option_and_then keyword_given (get (codes "keyword") d)

abbrev pub email_sort_named : List ℕ → Data → Reading EmailSort
email_sort_named name d =
    if bytes_eq name (codes "receivedAt") then Means sort.ReceivedAt
    else if bytes_eq name (codes "size") then Means sort.Size
    else if bytes_eq name (codes "from") then Means sort.From
    else if bytes_eq name (codes "to") then Means sort.To
    else if bytes_eq name (codes "subject") then Means sort.Subject
    else if bytes_eq name (codes "sentAt") then Means sort.SentAt
    else if bytes_eq name (codes "hasKeyword") then means sort.HasKeyword (keyword_beside d)
    else if bytes_eq name (codes "allInThreadHaveKeyword") then means sort.AllInThreadHaveKeyword (keyword_beside d)
    else if bytes_eq name (codes "someInThreadHaveKeyword") then means sort.SomeInThreadHaveKeyword (keyword_beside d)
    else Unsupported

abbrev pub mailbox_sort_named : List ℕ → Reading MailboxSort
mailbox_sort_named name =
    if bytes_eq name (codes "name") then Means mailbox.Name
    else if bytes_eq name (codes "sortOrder") then Means mailbox.SortOrder
    else Unsupported

-- `property` has to be a text
abbrev pub property_of : Data → Option (List ℕ)
property_of d = option_and_then as_str (get (codes "property") d)

module _ {S : Type 0} where
  abbrev pub property_named : (List ℕ → Reading S) → Option (List ℕ) → Reading S
  property_named named None = Wrong
  property_named named (Some name) = named name

abbrev pub email_sort : Data → Reading EmailSort
email_sort d = property_named (λ name. email_sort_named name d) (property_of d)

abbrev pub mailbox_sort : Data → Reading MailboxSort
mailbox_sort d = property_named mailbox_sort_named (property_of d)

-- ---- in which direction

-- true where it isn't there
abbrev pub flag_or_true : Option Data → Option Bool
flag_or_true None = Some true
flag_or_true (Some d) = as_bool d

abbrev pub is_ascending : Data → Option Bool
is_ascending d = flag_or_true (get (codes "isAscending") d)

-- a collation isn't supported
abbrev pub without_collation : Option Data → Bool → Reading Bool
without_collation None ascending = Means ascending
without_collation (Some null) ascending = Wrong
without_collation (Some (boolean b)) ascending = Wrong
without_collation (Some (number n)) ascending = Wrong
without_collation (Some (string s)) ascending = Unsupported
without_collation (Some (array ds)) ascending = Wrong
without_collation (Some (object ms)) ascending = Wrong

abbrev pub direction_of : Option Data → Option Bool → Reading Bool
direction_of collation None = Wrong
direction_of collation (Some ascending) = without_collation collation ascending

abbrev pub direction : Data → Reading Bool
direction d = direction_of (get (codes "collation") d) (is_ascending d)

-- ---- comparators

abbrev pub email_comparator : EmailSort → Bool → EmailComparator
email_comparator s ascending = record { property = s; is_ascending = ascending }

abbrev pub mailbox_comparator : MailboxSort → Bool → MailboxComparator
mailbox_comparator s ascending = record { property = s; is_ascending = ascending }

abbrev pub email_comparator_in : Data → Reading EmailComparator
email_comparator_in d = both_read email_comparator (email_sort d) (direction d)

abbrev pub mailbox_comparator_in : Data → Reading MailboxComparator
mailbox_comparator_in d = both_read mailbox_comparator (mailbox_sort d) (direction d)

module _ {S : Type 0} (comparator_in : Data → Reading S) where
  abbrev pub comparators_in : Items → List (Reading S)
  comparators_in no_items = []
  comparators_in (item d ds) = comparator_in d ∷ comparators_in ds

  abbrev pub sort_of : Data → Reading (List S)
  sort_of null = Wrong
  sort_of (boolean b) = Wrong
  sort_of (number n) = Wrong
  sort_of (string s) = Wrong
  sort_of (array ds) = each_read (comparators_in ds)
  sort_of (object ms) = Wrong

  -- null, or nothing, orders by number alone
  abbrev pub sort_or_none : Option Data → Reading (List S)
  sort_or_none None = Means []
  sort_or_none (Some null) = Means []
  sort_or_none (Some d) = sort_of d
