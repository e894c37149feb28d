use Rattle.std.proofs.Common.{ℕ, List, sym, ap, ◌∙◌}
use Rattle.std.proofs.lemmas.Result.{IfOk-weaker}
use Rattle.served_maps.specs.Past.{served}
use Rattle.mail_maps.specs.Serve.{Email, email_of}
use Rattle.query_conditions.specs.Entries.{emails_at}
use Rattle.query_orders.specs.Emails.{email_cmp}
use Rattle.query_core.proofs.EmailLemmas.{order_same}
use Rattle.query_core.proofs.email_list.emails_compared.Goals as goal

pub returns-then-sort_reads_threads : goal.returns-then-sort_reads_threads
returns-then-sort_reads_threads c =
    IfOk-weaker c.email_entries.result _ _
    (λ v are a b. ap (λ (es : List (ℕ × Email)). email_cmp es c.args.comparators.now.items a b) are) c.email_entries.ensures.rows

pub returns-else-sort_reads_threads : goal.returns-else-sort_reads_threads
returns-else-sort_reads_threads c = λ a b.
    order_same (emails_at c.new.result.items) (served email_of c.args.state.now.rows.numbered.rows) c.args.comparators.now.items a b
    (sym c.sort_reads_threads.ensures ∙ c.if-sort_reads_threads.false)
