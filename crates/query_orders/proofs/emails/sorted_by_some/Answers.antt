use Rattle.std.proofs.Common.{◌≡◌, ℕ, List, of_calls, rules, ap, ◌∙◌}
use Rattle.std.proofs.lemmas.Result.{IfOk-weaker}
use Rattle.query_conditions.specs.Entries.{email_at, emails_at}
use Rattle.query_conditions.specs.ThreadKeywords.{some_in_thread_has}
use Rattle.query_conditions.specs.declared.entry.EmailEntry.{EmailEntry}
use Rattle.query_orders.proofs.emails.sorted_by_some.Goals as goal

pub returns : goal.returns
returns g c =
    IfOk-weaker c.sorted_by.result _ _
    (λ v sorts. sorts (λ (e : EmailEntry). some_in_thread_has (emails_at c.args.emails.now) c.args.keyword.now (email_at e).immutable.thread)
    (λ x r called.
    let found : r ≡ some_in_thread_has (emails_at c.args.emails.now) c.as_slice.result.now x.now.row.now.thread = search (rules, of_calls, c.in_ok-threads.ensures) in
    found ∙ ap (λ (k : List ℕ). some_in_thread_has (emails_at c.args.emails.now) k x.now.row.now.thread) c.as_slice.ensures))
    c.sorted_by.ensures
