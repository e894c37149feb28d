use Rattle.std.proofs.Common.{ℕ, List, subst, take_all}
use Rattle.mail_maps.specs.Serve.{ServedMailbox, mailbox_of}
use Rattle.query_conditions.specs.Mailboxes.{MailboxMatches}
use Rattle.query_orders.specs.Entries.{mailboxes_at}
use Rattle.query_orders.specs.declared.entry.MailboxEntry.{MailboxEntry}
use Rattle.query_arguments.specs.FilterTrees.{filter_tree}
use Rattle.query_lists.specs.Filters.{PassesFilter}
use Rattle.query_core.specs.reading.Kept.{Keeps}
use Rattle.query_core.proofs.FilterLemmas.{nothing_needed}
use Rattle.query_core.proofs.KeptLemmas.{keeps_none, kept_next}
use Rattle.query_core.proofs.mailbox_list.taken.Goals as goal

pub loop-mailbox-init : goal.loop-mailbox-init
loop-mailbox-init c =
    keeps_none (λ (b : ℕ × ServedMailbox). PassesFilter (MailboxMatches b.1) (filter_tree c.args.filter.now))
    (λ (b : MailboxEntry). let p : ℕ × ServedMailbox = (b.number, mailbox_of b.row.now) in p) c.new-rows.result.items c.new-rows.ensures.items

pub loop-mailbox-preserved : goal.loop-mailbox-preserved
loop-mailbox-preserved c =
    kept_next (λ (b : ℕ × ServedMailbox). PassesFilter (MailboxMatches b.1) (filter_tree c.args.filter.now))
    (λ (b : MailboxEntry). let p : ℕ × ServedMailbox = (b.number, mailbox_of b.row.now) in p) c.args.mailboxes.now c.loop-mailbox.mailbox-index _ _ c.mailbox-item.result _
    c.loop-mailbox-test.true c.mailbox-item.is (c.in_ok-taken.ensures (nothing_needed (filter_tree c.args.filter.now))) c.in_ok-keep_if.ensures c.loop-mailbox.invariant

pub returns : goal.returns
returns c =
    subst (λ (bs : List MailboxEntry). Keeps (λ (b : ℕ × ServedMailbox). PassesFilter (MailboxMatches b.1) (filter_tree c.args.filter.now))
    (mailboxes_at bs) (mailboxes_at c.loop-mailbox.rows.items)) (take_all c.loop-mailbox.mailbox-index c.args.mailboxes.now c.loop-mailbox-test.false) c.loop-mailbox.invariant
