-- The orders of Emails and Mailboxes are total.
use Rattle.std.proofs.Common.{ℕ, List, [], ◌∷◌, Bool, true, false, refl, sym, ap, ◌∙◌}
use Rattle.std.specs.declared.cmp.Ordering.{Ordering}
use Rattle.std.specs.declared.cmp.Ordering.TheVariants.{Equal}
use Rattle.std.specs.Cmp.{IsTotalOrder, bool_cmp_total}
use Rattle.std.specs.Cmp.Lexicographic.{options_total, nat_list_cmp_total}
use Rattle.std.specs.Ordering.{ordering_reverse}
use Rattle.std.proofs.lemmas.Cmp.{nat_cmp_total, int_cmp_total, on_total, then_total, tied_back}
use Rattle.mail_maps.specs.Keywords.{has_name}
use Rattle.mail_maps.specs.Serve.{Email, ServedMailbox}
use Rattle.query_conditions.specs.ThreadKeywords.{all_in_thread_have, some_in_thread_has}
use Rattle.query_orders.specs.Directions.{directed}
use Rattle.query_orders.specs.Emails.{cmp_by_property, email_cmp}
use Rattle.query_orders.specs.Mailboxes.{mailbox_cmp, mailbox_cmp_by}
use Rattle.query_orders.specs.Texts.{folded, text_cmp}
use Rattle.query_orders.specs.declared.comparators.EmailComparator.{EmailComparator}
use Rattle.query_orders.specs.declared.comparators.EmailSort.{EmailSort}
use Rattle.query_orders.specs.declared.comparators.EmailSort.TheVariants as sort
use Rattle.query_orders.specs.declared.comparators.MailboxComparator.{MailboxComparator}
use Rattle.query_orders.specs.declared.comparators.MailboxSort.{MailboxSort}
use Rattle.query_orders.specs.declared.comparators.MailboxSort.TheVariants.{Name, SortOrder}

pub text_total : IsTotalOrder text_cmp
text_total = on_total folded nat_list_cmp_total

pub property_total : (emails : List (ℕ × Email)) (s : EmailSort) → IsTotalOrder (cmp_by_property emails s)
property_total emails sort.ReceivedAt = on_total (λ (e : Email). e.immutable.received) int_cmp_total
property_total emails sort.Size = on_total (λ (e : Email). e.immutable.size) nat_cmp_total
property_total emails sort.From = on_total (λ (e : Email). e.immutable.envelope.from.first) (options_total text_total)
property_total emails sort.To = on_total (λ (e : Email). e.immutable.envelope.to.first) (options_total text_total)
property_total emails sort.Subject = on_total (λ (e : Email). e.immutable.envelope.base) text_total
property_total emails sort.SentAt = on_total (λ (e : Email). e.immutable.envelope.sent_at) (options_total int_cmp_total)
property_total emails (sort.HasKeyword keyword) = on_total (λ (e : Email). has_name keyword e.keywords) bool_cmp_total
property_total emails (sort.AllInThreadHaveKeyword keyword) = on_total (λ (e : Email). all_in_thread_have emails keyword e.immutable.thread) bool_cmp_total
property_total emails (sort.SomeInThreadHaveKeyword keyword) = on_total (λ (e : Email). some_in_thread_has emails keyword e.immutable.thread) bool_cmp_total

module _ {K : Type 0} (R : K → K → Ordering) (total : IsTotalOrder R) where
  -- the other way round it is total too
  pub directed_total : (ascending : Bool) → IsTotalOrder (λ (x y : K). directed ascending (R x y))
  directed_total true = total
  directed_total false = record {
    antisymm = λ x y. ap ordering_reverse (total.antisymm x y);
    trans = λ x y z p q. sym (total.antisymm z x) ∙ total.trans z y x (total.antisymm z y ∙ q) (total.antisymm y x ∙ p);
    congr = λ x y z p. ap ordering_reverse (total.congr x y z (tied_back total y x (total.antisymm y x ∙ p)));
  }

all_tie : {K : Type 0} → IsTotalOrder (λ (x y : K). Equal)
all_tie = record { antisymm = λ x y. refl; trans = λ x y z p q. p; congr = λ x y z p. refl }

pub email_total : (emails : List (ℕ × Email)) (cs : List EmailComparator) → IsTotalOrder (email_cmp emails cs)
email_total emails [] = all_tie
email_total emails (c ∷ cs) = then_total (directed_total (cmp_by_property emails c.property) (property_total emails c.property) c.is_ascending) (email_total emails cs)

pub mailbox_property_total : (s : MailboxSort) → IsTotalOrder (mailbox_cmp_by s)
mailbox_property_total Name = on_total (λ (b : ServedMailbox). b.name) text_total
mailbox_property_total SortOrder = all_tie

pub mailbox_total : (cs : List MailboxComparator) → IsTotalOrder (mailbox_cmp cs)
mailbox_total [] = all_tie
mailbox_total (c ∷ cs) = then_total (directed_total (mailbox_cmp_by c.property) (mailbox_property_total c.property) c.is_ascending) (mailbox_total cs)
