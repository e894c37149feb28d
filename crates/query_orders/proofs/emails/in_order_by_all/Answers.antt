use Rattle.std.proofs.Common.{◌∙◌, arith}
use Rattle.std.proofs.lemmas.Result.{IfOk-weaker}
use Rattle.query_conditions.specs.Entries.{emails_at}
use Rattle.query_orders.proofs.PairLemmas.{values_permuted}
use Rattle.query_orders.proofs.RowLemmas.{emails_more}
use Rattle.query_orders.proofs.emails.in_order_by_all.Goals as goal

pub returns-in-len1-up-clause-listed : goal.returns-in-len1-up-clause-listed
returns-in-len1-up-clause-listed g c =
    IfOk-weaker c.in_order_by.result _ _
    (λ v listed of are one was.
    let found = listed of (c.as_slice.ensures.value ∙ are) in record {
      sorted = found.sorted;
      permutes = found.permutes;
      ascends = emails_more (emails_at c.args.emails.now) c.args.comparators.now 1 c.first-item.result c.args.rows.now found.sorted
          (omega arith) c.in-len1-up.len_at_least c.first-item.is was (found.sorts one);
      are = found.are;
    })
    c.in_order_by.ensures

pub returns-in-len1-up-clause-permutation : goal.returns-in-len1-up-clause-permutation
returns-in-len1-up-clause-permutation g c =
    IfOk-weaker c.in_order_by.result _ _
    (λ v listed of are. values_permuted _ of c.args.rows.now c.args.values.items v.items are (listed of (c.as_slice.ensures.value ∙ are))) c.in_order_by.ensures
