use Rattle.std.proofs.Common.{ℕ, List, refl, subst}
use Rattle.std.proofs.lemmas.List.Sorted.{Contains-permutation, IsPermutation-sym}
use Rattle.std.proofs.lemmas.Result.{IfOk-weaker}
use Rattle.served_maps.specs.Past.{served}
use Rattle.mail_maps.specs.Serve.{Email, email_of}
use Rattle.query_conditions.specs.Entries.{emails_at}
use Rattle.query_conditions.specs.declared.entry.EmailEntry.{EmailEntry}
use Rattle.query_orders.specs.Emails.{email_cmp}
use Rattle.query_orders.specs.declared.comparators.EmailComparator.{EmailComparator}
use Rattle.query_orders.proofs.RowLemmas.{same_order}
use Rattle.query_arguments.specs.Asked.{list_seen}
use Rattle.query_core.specs.Lists.{IsEmailList}
use Rattle.query_core.specs.reading.Ordered.{AreNumbersAsked}
use Rattle.query_core.proofs.KeptLemmas.{keeps_order}
use Rattle.query_core.proofs.ListLemmas.{email_list_is}
use Rattle.query_core.proofs.email_list.email_numbers.Goals as goal

pub returns-clause-list : goal.returns-clause-list
returns-clause-list c =
    let asked = list_seen c.args.asked.now in
    let all = served email_of c.args.state.now.rows.numbered.rows in
    let compared = emails_at c.in_ok-emails.emails.items in
    let kept = emails_at c.in_ok-rows.rows.items in
    let keeps = c.in_ok-rows.ensures.rows in
    let ascends = c.in_ok-rows.ensures.ascending in
    let up = keeps_order _ all kept keeps ascends in
    IfOk-weaker c.numbers_asked.result _ _
    (λ numbers made.
    let ordered : AreNumbersAsked compared asked.sort asked.collapses kept numbers.items =
    subst (λ (cs : List EmailComparator). AreNumbersAsked compared cs asked.collapses kept numbers.items) c.deref-2.ensures.value
    (subst (λ (es : List EmailEntry). AreNumbersAsked (emails_at es) c.deref-2.result.now asked.collapses kept numbers.items) c.deref.ensures.value made) in
    email_list_is all kept ordered.sorted all asked numbers.items refl ascends keeps
    (λ e. (Contains-permutation ordered.sorted kept e (IsPermutation-sym kept ordered.sorted ordered.permutes), Contains-permutation kept ordered.sorted e ordered.permutes))
    (same_order (email_cmp compared asked.sort) (email_cmp all asked.sort) ordered.sorted c.in_ok-emails.ensures ordered.ascends) ordered.are)
    (c.numbers_asked.ensures up)

pub returns-clause-histories : goal.returns-clause-histories
returns-clause-histories c =
    IfOk-weaker c.numbers_asked.result _ _
    (λ numbers are h stands. subst (λ (es : List (ℕ × Email)). IsEmailList es (list_seen c.args.asked.now) numbers.items) stands.emails.now are) (returns-clause-list c)
