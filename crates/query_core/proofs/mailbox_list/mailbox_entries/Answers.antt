use Rattle.std.proofs.Common.{ap, ◌∙◌, ◌++◌, List, ℕ}
use Rattle.std.proofs.lemmas.List.{map-append}
use Rattle.served_maps.specs.Past.{served}
use Rattle.mail_maps.specs.Serve.{ServedMailbox, mailbox_of}
use Rattle.mail_maps.specs.declared.row.MailboxRow.{MailboxRow}
use Rattle.query_orders.specs.Entries.{mailboxes_at}
use Rattle.query_orders.specs.declared.entry.MailboxEntry.{MailboxEntry}
use Rattle.query_core.proofs.EntryLemmas.{entries_all, entries_in_order, entries_more}
use Rattle.query_core.proofs.mailbox_list.mailbox_entries.Goals as goal

pub loop-number-preserved : goal.loop-number-preserved
loop-number-preserved c =
    let l = c.loop-number in
    let e : ℕ × MailboxRow = (c.in-Some.number.now, c.in-Some.row.now) in
    let left = c.next.new.self in
    let more = ap mailboxes_at c.in_ok-push.ensures.items ∙ map-append (λ (x : MailboxEntry). (x.number, mailbox_of x.row.now)) l.entries.items _ in
    ap (λ (es : List (ℕ × ServedMailbox)). es ++ served mailbox_of left) more
    ∙ entries_more mailbox_of e left l.number-iterator c.args.state.now.rows.mailboxes (mailboxes_at l.entries.items) c.in-Some.ensures.steps l.invariant

pub returns-clause-rows : goal.returns-clause-rows
returns-clause-rows c =
    let l = c.loop-number in
    entries_all mailbox_of l.number-iterator c.args.state.now.rows.mailboxes (mailboxes_at l.entries.items) c.in-None.ensures.steps.0 l.invariant

pub returns-clause-ascending : goal.returns-clause-ascending
returns-clause-ascending c =
    entries_in_order mailbox_of c.args.state.now.rows.mailboxes (mailboxes_at c.loop-number.entries.items) c.count-count.ensures.ascending (returns-clause-rows c)
