use Rattle.std.proofs.Common.{List, Bor, drop, IsPermutation, map, refl, sym, ap, subst, ◌∙◌}
use Rattle.std.specs.List.Sorted.{IsStrictlySortedBy}
use Rattle.std.proofs.lemmas.List.Sorted.{IsPermutation-trans}
use Rattle.std.proofs.lemmas.Result.{IfOk-weaker}
use Rattle.query_conditions.specs.Entries.{emails_at}
use Rattle.query_conditions.specs.declared.entry.EmailEntry.{EmailEntry}
use Rattle.query_lists.specs.declared.groups.GroupedRow.{GroupedRow}
use Rattle.query_orders.specs.Entries.{in_its_thread}
use Rattle.query_orders.specs.declared.comparators.EmailComparator.{EmailComparator}
use Rattle.query_orders.specs.reading.Rows.{emails_in_order, grouped_entry}
use Rattle.query_orders.proofs.RowLemmas.{ListsAll, listed_at_last, values_moved}
use Rattle.query_orders.proofs.emails.threads_in_order.Goals as goal

pub returns-clause-listed : goal.returns-clause-listed
returns-clause-listed c = λ up.
    let E = emails_at c.args.emails.now in
    let kept : List (Bor EmailComparator) = c.in_ok-kept.kept.items in
    let rows : List EmailEntry = c.in_ok-rows.rows.items in
    let values : List GroupedRow = c.in_ok-grouped.grouped.items in
    IfOk-weaker c.in_order_by_all.result _ _
    (λ v lists.
    listed_at_last E kept c.args.comparators.now grouped_entry in_its_thread (λ (r : GroupedRow). r.number) c.args.rows.items rows values v.items (λ e. refl) (λ e. refl) (c.in_ok-kept.ensures E) up c.in_ok-rows.ensures.permutation
    (subst (λ (cs : List (Bor EmailComparator)). IsStrictlySortedBy (emails_in_order E (map (λ (d : Bor EmailComparator). d.now) (drop 1 cs))) rows) c.as_slice.ensures.value
    (c.in_ok-rows.ensures.sorted up))
    (c.in_ok-grouped.ensures ∙ ap (map grouped_entry) c.deref.ensures.value)
    (subst (λ (es : List EmailEntry). ListsAll E kept es values v.items) c.deref-2.ensures.value
    (subst (λ (cs : List (Bor EmailComparator)). ListsAll E cs c.deref-2.result.now values v.items) c.as_slice-2.ensures.value lists)))
    c.in_order_by_all.ensures.listed

pub returns-clause-permutation : goal.returns-clause-permutation
returns-clause-permutation c =
    let values = c.in_ok-grouped.grouped.items in
    let are = c.in_ok-grouped.ensures ∙ ap (map grouped_entry) c.deref.ensures.value in
    IfOk-weaker c.in_order_by_all.result _ _
    (λ v permutes.
    IsPermutation-trans (map in_its_thread (emails_at c.args.rows.items)) values v.items
    (subst (λ vs. IsPermutation (map in_its_thread (emails_at c.args.rows.items)) vs) (sym are)
    (values_moved grouped_entry in_its_thread c.args.rows.items c.in_ok-rows.rows.items (λ e. refl) c.in_ok-rows.ensures.permutation))
    (permutes grouped_entry (are ∙ sym (ap (map grouped_entry) c.deref-2.ensures.value))))
    c.in_order_by_all.ensures.permutation
