use Rattle.std.proofs.Common.{List, subst}
use Rattle.query_orders.specs.Texts.{text_cmp}
use Rattle.query_orders.specs.declared.entry.MailboxEntry.{MailboxEntry}
use Rattle.query_orders.specs.reading.Keys.{IsStableSort, by_key}
use Rattle.query_orders.proofs.RowLemmas.{none_apart, sorted_by_name}
use Rattle.query_orders.proofs.mailboxes.sort_mailboxes.Goals as goal

pub returns-in-None-clause-sorted : goal.returns-in-None-clause-sorted
returns-in-None-clause-sorted c = none_apart c.args.comparators.now c.args.rows.now.items c.in-None.ensures

pub returns-in_ok-rows-in-Some-clause-sorted : goal.returns-in_ok-rows-in-Some-clause-sorted
returns-in_ok-rows-in-Some-clause-sorted c = λ up.
    let up_or_down = c.in-Some.comparator.is_ascending in
    let sorted : List MailboxEntry = c.in_ok-rows-in-Some.field-0.items in
    sorted_by_name c.args.comparators.now up_or_down c.args.rows.now.items sorted c.in-Some.ensures up
    (subst (λ (bs : List MailboxEntry). IsStableSort (by_key up_or_down text_cmp (λ (b : MailboxEntry). b.row.now.name)) bs sorted) c.deref.ensures.value c.in_ok-rows-in-Some.ensures.sorted)
