use Rattle.std.proofs.Common.{ℕ, List, Option, Some, IfOk, map, nat_cmp, ap, subst, ◌∙◌}
use Rattle.std.specs.Cmp.Lexicographic.{slice_cmp}
use Rattle.std.specs.Option.{option_cmp, option_copied, option_map}
use Rattle.std.proofs.lemmas.Result.{IfOk-weaker}
use Rattle.std.proofs.lemmas.Simd.{map-map}
use Rattle.query_orders.specs.Texts.{folded, text_cmp}
use Rattle.query_orders.specs.declared.entry.MailboxEntry.{MailboxEntry}
use Rattle.query_orders.specs.reading.Keys.{AreInOrder, IsSortedByKeys, by_key}
use Rattle.query_orders.proofs.PairLemmas.{in_order, rows_in_order, themselves}
use Rattle.query_orders.proofs.mailboxes.in_order_by_name.Goals as goal
use Rattle.query_orders.proofs.mailboxes.in_order_by_name.Goals.{After-drop-names}

sorts : (c : After-drop-names) → IfOk c.sorted_by_texts.result (λ v. AreInOrder (by_key c.args.is_ascending text_cmp (λ (b : MailboxEntry). b.row.now.name)) (λ (b : MailboxEntry). b) c.args.rows.now v.items)
sorts c =
    let name : MailboxEntry → Option (List ℕ) = λ b. Some b.row.now.name in
    let key : MailboxEntry → Option (List ℕ) = λ b. Some (folded b.row.now.name) in
    let rows : List MailboxEntry = c.args.rows.now in
    let keyed = subst (λ (keys : List (Option (List ℕ))). IfOk c.sorted_by_texts.result (λ v. IsSortedByKeys c.args.is_ascending (option_cmp (slice_cmp nat_cmp)) keys rows v.items))
    (ap (map (option_map folded)) (ap (map option_copied) c.as_slice.ensures.value ∙ c.in_ok-names.ensures) ∙ map-map (option_map folded) name rows)
    c.sorted_by_texts.ensures in
    IfOk-weaker c.sorted_by_texts.result _ _
    (λ v by. in_order (option_cmp (slice_cmp nat_cmp)) key (λ (b : MailboxEntry). b) c.args.is_ascending rows rows v.items (themselves rows) by) keyed

pub returns-clause-permutation : goal.returns-clause-permutation
returns-clause-permutation c = IfOk-weaker c.sorted_by_texts.result _ _ (λ v are. (rows_in_order _ _ _ are).0) (sorts c)

pub returns-clause-sorted : goal.returns-clause-sorted
returns-clause-sorted c = IfOk-weaker c.sorted_by_texts.result _ _ (λ v are. (rows_in_order _ _ _ are).1) (sorts c)
