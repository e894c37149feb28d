use Rattle.std.proofs.Common.{◌≡◌, ℕ, List, subst}
use Rattle.std.specs.List.Sorted.{IsStrictlySortedBy}
use Rattle.std.proofs.lemmas.Result.{IfOk-weaker}
use Rattle.served_maps.specs.Past.{served}
use Rattle.mail_maps.specs.Serve.{ServedMailbox, mailbox_of}
use Rattle.query_conditions.specs.Mailboxes.{MailboxMatches}
use Rattle.query_orders.specs.Entries.{mailboxes_at}
use Rattle.query_orders.specs.Mailboxes.{mailbox_cmp}
use Rattle.query_orders.specs.declared.comparators.MailboxComparator.{MailboxComparator}
use Rattle.query_orders.specs.declared.entry.MailboxEntry.{MailboxEntry}
use Rattle.query_orders.proofs.RowLemmas.{same_values}
use Rattle.query_arguments.specs.Asked.{list_seen}
use Rattle.query_lists.specs.Filters.{PassesFilter}
use Rattle.query_lists.specs.Ordered.{AscendByNumber, row_cmp, numbers_of}
use Rattle.query_core.specs.Lists.{IsMailboxList}
use Rattle.query_core.specs.reading.Kept.{Keeps}
use Rattle.query_core.proofs.KeptLemmas.{keeps_order}
use Rattle.query_core.proofs.ListLemmas.{mailbox_list_is}
use Rattle.query_core.proofs.mailbox_list.mailbox_numbers.Goals as goal

pub returns-clause-list : goal.returns-clause-list
returns-clause-list c =
    let shown : MailboxEntry → ℕ × ServedMailbox = λ b. (b.number, mailbox_of b.row.now) in
    let all = mailboxes_at c.in_ok-mailboxes.mailboxes.items in
    let kept = c.in_ok-rows.rows.items in
    let sorted = c.sort_mailboxes.new.rows.items in
    let keeps : Keeps (λ (b : ℕ × ServedMailbox). PassesFilter (MailboxMatches b.1) (list_seen c.args.asked.now).filter) all (mailboxes_at kept) =
    subst (λ (bs : List MailboxEntry). Keeps (λ (b : ℕ × ServedMailbox). PassesFilter (MailboxMatches b.1) (list_seen c.args.asked.now).filter) (mailboxes_at bs)
    (mailboxes_at kept))
    c.deref.ensures.value c.in_ok-rows.ensures in
    let sorts : AscendByNumber (mailboxes_at kept) → IsStrictlySortedBy (row_cmp (mailbox_cmp (list_seen c.args.asked.now).sort)) (mailboxes_at sorted) =
    subst (λ (cs : List MailboxComparator). AscendByNumber (mailboxes_at kept) → IsStrictlySortedBy (row_cmp (mailbox_cmp cs)) (mailboxes_at sorted)) c.deref-2.ensures.value
    c.in_ok-sort_mailboxes.ensures.sorted in
    IfOk-weaker c.numbers_of.result _ _ (λ numbers is.
    mailbox_list_is all (mailboxes_at kept) (mailboxes_at sorted) (served mailbox_of c.args.state.now.rows.mailboxes) (list_seen c.args.asked.now) numbers.items
    c.in_ok-mailboxes.ensures.rows c.in_ok-mailboxes.ensures.ascending keeps (same_values shown kept sorted c.in_ok-sort_mailboxes.ensures.permutation)
    (sorts (keeps_order _ all (mailboxes_at kept) keeps c.in_ok-mailboxes.ensures.ascending))
    (subst (λ (rows : List MailboxEntry). numbers.items ≡ numbers_of (mailboxes_at rows)) c.deref-3.ensures.value is)) c.numbers_of.ensures

pub returns-clause-histories : goal.returns-clause-histories
returns-clause-histories c =
    IfOk-weaker c.numbers_of.result _ _
    (λ numbers are h stands. subst (λ (bs : List (ℕ × ServedMailbox)). IsMailboxList bs (list_seen c.args.asked.now) numbers.items) stands.mailboxes.now are)
    (returns-clause-list c)
