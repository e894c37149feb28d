use Rattle.std.proofs.Common.{ℕ, ℤ, List, Bool, Option, Some, of_calls, rules, refl, nat_cmp, int_cmp}
use Rattle.std.specs.Cmp.Lexicographic.{slice_cmp}
use Rattle.std.specs.Option.{option_cmp, option_map}
use Rattle.std.specs.Ordering.{bool_cmp}
use Rattle.std.proofs.lemmas.Result.{IfOk-weaker}
use Rattle.mail_maps.specs.Keywords.{has_name}
use Rattle.query_conditions.specs.Entries.{email_at, emails_at}
use Rattle.query_conditions.specs.ThreadKeywords.{all_in_thread_have, some_in_thread_has}
use Rattle.query_conditions.specs.declared.entry.EmailEntry.{EmailEntry}
use Rattle.query_orders.specs.Texts.{folded}
use Rattle.query_orders.specs.declared.comparators.EmailSort.TheVariants as sort
use Rattle.query_orders.proofs.KeyLemmas.{email_order, options_folded}
use Rattle.query_orders.proofs.emails.in_order_by.Goals as goal

pub returns-in-ReceivedAt : goal.returns-in-ReceivedAt
returns-in-ReceivedAt g c =
    let call = c.sorted_by in
    let key : EmailEntry → ℤ = λ e. (email_at e).immutable.received in
    IfOk-weaker call.result _ _
    (λ v sorts. email_order int_cmp key (emails_at c.args.emails.now) c.args.comparator.now sort.ReceivedAt c.args.rows.now c.args.values.now v.items
    c.in-ReceivedAt.is (λ a b. refl) (sorts key (λ x r called. search (rules, of_calls))))
    call.ensures

pub returns-in-Size : goal.returns-in-Size
returns-in-Size g c =
    let call = c.sorted_by-in-Size in
    let key : EmailEntry → ℕ = λ e. (email_at e).immutable.size in
    IfOk-weaker call.result _ _
    (λ v sorts. email_order nat_cmp key (emails_at c.args.emails.now) c.args.comparator.now sort.Size c.args.rows.now c.args.values.now v.items
    c.in-Size.is (λ a b. refl) (sorts key (λ x r called. search (rules, of_calls))))
    call.ensures

pub returns-in-From : goal.returns-in-From
returns-in-From g c =
    let call = c.sorted_by_text in
    let key : EmailEntry → Option (List ℕ) = λ e. option_map folded (email_at e).immutable.envelope.from.first in
    IfOk-weaker call.result _ _
    (λ v sorts. email_order (option_cmp (slice_cmp nat_cmp)) key (emails_at c.args.emails.now) c.args.comparator.now sort.From c.args.rows.now c.args.values.now v.items
    c.in-From.is (λ a b. options_folded (email_at a).immutable.envelope.from.first (email_at b).immutable.envelope.from.first) sorts)
    call.ensures

pub returns-in-To : goal.returns-in-To
returns-in-To g c =
    let call = c.sorted_by_text-in-To in
    let key : EmailEntry → Option (List ℕ) = λ e. option_map folded (email_at e).immutable.envelope.to.first in
    IfOk-weaker call.result _ _
    (λ v sorts. email_order (option_cmp (slice_cmp nat_cmp)) key (emails_at c.args.emails.now) c.args.comparator.now sort.To c.args.rows.now c.args.values.now v.items
    c.in-To.is (λ a b. options_folded (email_at a).immutable.envelope.to.first (email_at b).immutable.envelope.to.first) sorts)
    call.ensures

pub returns-in-Subject : goal.returns-in-Subject
returns-in-Subject g c =
    let call = c.sorted_by_text-in-Subject in
    let key : EmailEntry → Option (List ℕ) = λ e. Some (folded (email_at e).immutable.envelope.base) in
    IfOk-weaker call.result _ _
    (λ v sorts. email_order (option_cmp (slice_cmp nat_cmp)) key (emails_at c.args.emails.now) c.args.comparator.now sort.Subject c.args.rows.now c.args.values.now v.items
    c.in-Subject.is (λ a b. refl) sorts)
    call.ensures

pub returns-in-SentAt : goal.returns-in-SentAt
returns-in-SentAt g c =
    let call = c.sorted_by-in-SentAt in
    let key : EmailEntry → Option ℤ = λ e. (email_at e).immutable.envelope.sent_at in
    IfOk-weaker call.result _ _
    (λ v sorts. email_order (option_cmp int_cmp) key (emails_at c.args.emails.now) c.args.comparator.now sort.SentAt c.args.rows.now c.args.values.now v.items
    c.in-SentAt.is (λ a b. refl) (sorts key (λ x r called. search (rules, of_calls))))
    call.ensures

pub returns-in-HasKeyword : goal.returns-in-HasKeyword
returns-in-HasKeyword g c =
    let call = c.sorted_by-in-HasKeyword in
    let key : EmailEntry → Bool = λ e. has_name c.in-HasKeyword.keyword (email_at e).keywords in
    IfOk-weaker call.result _ _
    (λ v sorts. email_order bool_cmp key (emails_at c.args.emails.now) c.args.comparator.now (sort.HasKeyword c.in-HasKeyword.keyword) c.args.rows.now c.args.values.now v.items
    c.in-HasKeyword.is (λ a b. refl) (sorts key (λ x r called. search (rules, of_calls))))
    call.ensures

pub returns-in-AllInThreadHaveKeyword : goal.returns-in-AllInThreadHaveKeyword
returns-in-AllInThreadHaveKeyword g c =
    let call = c.sorted_by_all in
    let key : EmailEntry → Bool = λ e. all_in_thread_have (emails_at c.args.emails.now) c.in-AllInThreadHaveKeyword.keyword (email_at e).immutable.thread in
    IfOk-weaker call.result _ _
    (λ v sorts. email_order bool_cmp key (emails_at c.args.emails.now) c.args.comparator.now (sort.AllInThreadHaveKeyword c.in-AllInThreadHaveKeyword.keyword) c.args.rows.now c.args.values.now v.items
    c.in-AllInThreadHaveKeyword.is (λ a b. refl) sorts)
    call.ensures

pub returns-in-SomeInThreadHaveKeyword : goal.returns-in-SomeInThreadHaveKeyword
returns-in-SomeInThreadHaveKeyword g c =
    let call = c.sorted_by_some in
    let key : EmailEntry → Bool = λ e. some_in_thread_has (emails_at c.args.emails.now) c.in-SomeInThreadHaveKeyword.keyword (email_at e).immutable.thread in
    IfOk-weaker call.result _ _
    (λ v sorts. email_order bool_cmp key (emails_at c.args.emails.now) c.args.comparator.now (sort.SomeInThreadHaveKeyword c.in-SomeInThreadHaveKeyword.keyword) c.args.rows.now c.args.values.now v.items
    c.in-SomeInThreadHaveKeyword.is (λ a b. refl) sorts)
    call.ensures
