use Rattle.std.proofs.Common.{ℕ, List, Bor, drop, IsPermutation, map, refl, sym, ap, subst, ◌∙◌}
use Rattle.std.specs.List.Sorted.{IsStrictlySortedBy}
use Rattle.std.proofs.lemmas.List.Sorted.{IsPermutation-trans}
use Rattle.std.proofs.lemmas.Result.{IfOk-weaker}
use Rattle.mail_maps.specs.Serve.{Email}
use Rattle.query_conditions.specs.Entries.{emails_at}
use Rattle.query_conditions.specs.declared.entry.EmailEntry.{EmailEntry}
use Rattle.query_orders.specs.declared.comparators.EmailComparator.{EmailComparator}
use Rattle.query_orders.specs.reading.Rows.{emails_in_order}
use Rattle.query_orders.proofs.RowLemmas.{ListsAll, listed_at_last, values_moved}
use Rattle.query_orders.proofs.emails.numbers_in_order.Goals as goal

pub returns-clause-listed : goal.returns-clause-listed
returns-clause-listed c = λ up.
    let E = emails_at c.args.emails.now in
    let kept : List (Bor EmailComparator) = c.in_ok-kept.kept.items in
    let rows : List EmailEntry = c.in_ok-rows.rows.items in
    let values : List ℕ = c.in_ok-numbers.numbers.items in
    IfOk-weaker c.in_order_by_all.result _ _
    (λ v lists.
    listed_at_last E kept c.args.comparators.now (λ (e : EmailEntry). e.number) (λ (e : ℕ × Email). e.0) (λ (n : ℕ). n) c.args.rows.items rows values v.items (λ e. refl) (λ e. refl) (c.in_ok-kept.ensures E) up c.in_ok-rows.ensures.permutation
    (subst (λ (cs : List (Bor EmailComparator)). IsStrictlySortedBy (emails_in_order E (map (λ (d : Bor EmailComparator). d.now) (drop 1 cs))) rows) c.as_slice.ensures.value
    (c.in_ok-rows.ensures.sorted up))
    (c.in_ok-numbers.ensures ∙ ap (map (λ (e : EmailEntry). e.number)) c.deref.ensures.value)
    (subst (λ (es : List EmailEntry). ListsAll E kept es values v.items) c.deref-2.ensures.value
    (subst (λ (cs : List (Bor EmailComparator)). ListsAll E cs c.deref-2.result.now values v.items) c.as_slice-2.ensures.value lists)))
    c.in_order_by_all.ensures.listed

pub returns-clause-permutation : goal.returns-clause-permutation
returns-clause-permutation c =
    let values = c.in_ok-numbers.numbers.items in
    let are = c.in_ok-numbers.ensures ∙ ap (map (λ (e : EmailEntry). e.number)) c.deref.ensures.value in
    IfOk-weaker c.in_order_by_all.result _ _
    (λ v permutes.
    IsPermutation-trans (map (λ (e : ℕ × Email). e.0) (emails_at c.args.rows.items)) values v.items
    (subst (λ vs. IsPermutation (map (λ (e : ℕ × Email). e.0) (emails_at c.args.rows.items)) vs) (sym are)
    (values_moved (λ (e : EmailEntry). e.number) (λ (e : ℕ × Email). e.0) c.args.rows.items c.in_ok-rows.rows.items (λ e. refl) c.in_ok-rows.ensures.permutation))
    (permutes (λ (e : EmailEntry). e.number) (are ∙ sym (ap (map (λ (e : EmailEntry). e.number)) c.deref-2.ensures.value))))
    c.in_order_by_all.ensures.permutation
