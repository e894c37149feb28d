-- The order of Mailboxes (RFC 8621 section 2.3). Each has the sortOrder 0.
use Rattle.std.specs.Prelude.{List, [], ◌∷◌}
use Rattle.std.specs.declared.cmp.Ordering.{Ordering}
use Rattle.std.specs.declared.cmp.Ordering.TheVariants.{Equal}
use Rattle.std.specs.Ordering.{ordering_then}
use Rattle.mail_maps.specs.Serve.{ServedMailbox}
use Rattle.query_orders.specs.Directions.{directed}
use Rattle.query_orders.specs.Texts.{text_cmp}
use Rattle.query_orders.specs.declared.comparators.MailboxComparator.{MailboxComparator}
use Rattle.query_orders.specs.declared.comparators.MailboxSort.{MailboxSort}
use Rattle.query_orders.specs.declared.comparators.MailboxSort.TheVariants.{Name, SortOrder}

abbrev pub mailbox_cmp_by : MailboxSort → ServedMailbox → ServedMailbox → Ordering
mailbox_cmp_by Name a b = text_cmp a.name b.name
mailbox_cmp_by SortOrder a b = Equal

abbrev pub mailbox_cmp : List MailboxComparator → ServedMailbox → ServedMailbox → Ordering
mailbox_cmp [] a b = Equal
mailbox_cmp (c ∷ cs) a b = ordering_then (directed c.is_ascending (mailbox_cmp_by c.property a b)) (mailbox_cmp cs a b)
