-- Emails as they are sorted: by one comparator, by several and then by number, and by a text; and what is listed of them.
use Rattle.std.specs.Prelude.{ℕ, List, Option, Some}
use Rattle.std.specs.declared.cmp.Ordering.{Ordering}
use Rattle.mail_maps.specs.Serve.{Email}
use Rattle.query_conditions.specs.Entries.{email_at}
use Rattle.query_conditions.specs.declared.entry.EmailEntry.{EmailEntry}
use Rattle.query_lists.specs.Ordered.{row_cmp}
use Rattle.query_lists.specs.declared.groups.GroupedRow.{GroupedRow}
use Rattle.query_orders.specs.Directions.{directed}
use Rattle.query_orders.specs.Emails.{cmp_by_property, email_cmp}
use Rattle.query_orders.specs.Entries.{in_its_thread}
use Rattle.query_orders.specs.declared.comparators.EmailComparator.{EmailComparator}
use Rattle.query_orders.specs.declared.emails.SortedText.{SortedText}
use Rattle.query_orders.specs.declared.emails.SortedText.TheVariants as text

abbrev pub emails_by : List (ℕ × Email) → EmailComparator → EmailEntry → EmailEntry → Ordering
emails_by emails c a b = directed c.is_ascending (cmp_by_property emails c.property (email_at a) (email_at b))

abbrev pub emails_in_order : List (ℕ × Email) → List EmailComparator → EmailEntry → EmailEntry → Ordering
emails_in_order emails cs a b = row_cmp (email_cmp emails cs) (a.number, email_at a) (b.number, email_at b)

-- the text of an Email by which it is sorted
abbrev pub sorted_text : SortedText → Email → Option (List ℕ)
sorted_text text.From e = e.immutable.envelope.from.first
sorted_text text.To e = e.immutable.envelope.to.first
sorted_text text.Subject e = Some e.immutable.envelope.base

-- an Email's number with that of its Thread
abbrev pub grouped_entry : EmailEntry → GroupedRow
grouped_entry e = in_its_thread (e.number, email_at e)
