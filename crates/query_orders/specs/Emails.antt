-- The order of Emails (RFC 8620 section 5.5, RFC 8621 section 4.4.2). What is missing comes before all that is there, and false before true.
use Rattle.std.specs.Prelude.{ℕ, List, [], ◌∷◌, Bool, true, false}
use Rattle.std.specs.Option.{option_cmp}
use Rattle.std.specs.declared.cmp.Ordering.{Ordering}
use Rattle.std.specs.declared.cmp.Ordering.TheVariants.{Equal}
use Rattle.std.specs.Ordering.{nat_cmp, int_cmp, bool_cmp, ordering_then}
use Rattle.mail_maps.specs.Keywords.{has_name}
use Rattle.mail_maps.specs.Serve.{Email}
use Rattle.query_conditions.specs.ThreadKeywords.{all_in_thread_have, some_in_thread_has}
use Rattle.query_orders.specs.Directions.{directed}
use Rattle.query_orders.specs.Texts.{text_cmp}
use Rattle.query_orders.specs.declared.comparators.EmailComparator.{EmailComparator}
use Rattle.query_orders.specs.declared.comparators.EmailSort.{EmailSort}
use Rattle.query_orders.specs.declared.comparators.EmailSort.TheVariants as sort

-- by a property, the lowest first; the Emails are all of which a Thread's are some
abbrev pub cmp_by_property : List (ℕ × Email) → EmailSort → Email → Email → Ordering
cmp_by_property emails sort.ReceivedAt a b = int_cmp a.immutable.received b.immutable.received
cmp_by_property emails sort.Size a b = nat_cmp a.immutable.size b.immutable.size
cmp_by_property emails sort.From a b = option_cmp text_cmp a.immutable.envelope.from.first b.immutable.envelope.from.first
cmp_by_property emails sort.To a b = option_cmp text_cmp a.immutable.envelope.to.first b.immutable.envelope.to.first
cmp_by_property emails sort.Subject a b = text_cmp a.immutable.envelope.base b.immutable.envelope.base
cmp_by_property emails sort.SentAt a b = option_cmp int_cmp a.immutable.envelope.sent_at b.immutable.envelope.sent_at
cmp_by_property emails (sort.HasKeyword keyword) a b = bool_cmp (has_name keyword a.keywords) (has_name keyword b.keywords)
cmp_by_property emails (sort.AllInThreadHaveKeyword keyword) a b =
    bool_cmp (all_in_thread_have emails keyword a.immutable.thread) (all_in_thread_have emails keyword b.immutable.thread)
cmp_by_property emails (sort.SomeInThreadHaveKeyword keyword) a b =
    bool_cmp (some_in_thread_has emails keyword a.immutable.thread) (some_in_thread_has emails keyword b.immutable.thread)

-- by the first comparator, and where that doesn't tell them apart by the next one
abbrev pub email_cmp : List (ℕ × Email) → List EmailComparator → Email → Email → Ordering
email_cmp emails [] a b = Equal
email_cmp emails (c ∷ cs) a b = ordering_then (directed c.is_ascending (cmp_by_property emails c.property a b)) (email_cmp emails cs a b)

-- whether other Emails of the Thread decide too
abbrev pub sort_reads_thread : EmailSort → Bool
sort_reads_thread sort.ReceivedAt = false
sort_reads_thread sort.Size = false
sort_reads_thread sort.From = false
sort_reads_thread sort.To = false
sort_reads_thread sort.Subject = false
sort_reads_thread sort.SentAt = false
sort_reads_thread (sort.HasKeyword keyword) = false
sort_reads_thread (sort.AllInThreadHaveKeyword keyword) = true
sort_reads_thread (sort.SomeInThreadHaveKeyword keyword) = true
