use Rattle.std.proofs.Common.{◌≡◌, ◌<◌, ◌≤◌, ℕ, List, get_or, length, map, refl, sym, ap, subst, ◌∙◌}
use Rattle.std.proofs.lemmas.Result.{IfOk-weaker}
use Rattle.mail_maps.specs.Serve.{Email}
use Rattle.query_conditions.specs.Entries.{emails_at}
use Rattle.query_conditions.specs.declared.entry.EmailEntry.{EmailEntry}
use Rattle.query_arguments.specs.FilterTrees.{filter_tree, trees_of}
use Rattle.query_arguments.specs.declared.email_condition.EmailCondition.{EmailCondition}
use Rattle.query_arguments.specs.declared.filter.Filter.{Filter}
use Rattle.query_lists.specs.Filters.{FilterTree, PassesFilter, conditions, joined_by}
use Rattle.query_lists.specs.declared.filter.FilterOperator.{FilterOperator}
use Rattle.query_lists.specs.declared.filter.FilterOperator.TheVariants.{And}
use Rattle.query_core.specs.Lists.{EmailMatches}
use Rattle.query_core.specs.reading.Found.{EachCondition, KnowsThreads}
use Rattle.query_core.specs.reading.Kept.{Keeps}
use Rattle.query_core.proofs.NarrowLemmas.{filters_begin, filters_end, filters_on}
use Rattle.query_core.proofs.TreeLemmas.{tree_of_conditions, tree_of_joined}
use Rattle.query_core.proofs.email_filter.+narrows.Goals as goal

pub taken_by_each-loop-filter-init : goal.taken_by_each-loop-filter-init
taken_by_each-loop-filter-init t c =
    let all = emails_at c.args.emails.now in
    filters_begin (KnowsThreads all c.args.found.now) (λ (e : ℕ × Email). EmailMatches all e.1) (emails_at c.args.rows.items) c.args.filters.now.items (emails_at c.args.rows.items) refl

pub taken_by_each-loop-filter-preserved : goal.taken_by_each-loop-filter-preserved
taken_by_each-loop-filter-preserved t c =
    let l = c.loop-filter in
    let all = emails_at c.args.emails.now in
    let given = c.deref-filter-items.ensures.value in
    let filter = c.filter-item.result in
    filters_on (KnowsThreads all c.args.found.now) (λ (e : ℕ × Email). EmailMatches all e.1) (emails_at c.args.rows.items) c.args.filters.now.items l.filter-index (emails_at l.rows.items)
    (emails_at c.in_ok-rows.rows.items) filter
    (subst (λ (fs : List (Filter EmailCondition)). l.filter-index < length fs) given c.loop-filter-test.true)
    (subst (λ (fs : List (Filter EmailCondition)). filter ≡ get_or fs l.filter-index filter) given c.filter-item.is)
    c.in_ok-rows.ensures l.invariant

pub taken_by_each-returns : goal.taken_by_each-returns
taken_by_each-returns t c =
    let l = c.loop-filter in
    let all = emails_at c.args.emails.now in
    filters_end (KnowsThreads all c.args.found.now) (λ (e : ℕ × Email). EmailMatches all e.1) (emails_at c.args.rows.items) c.args.filters.now.items l.filter-index (emails_at l.rows.items)
    (subst (λ (fs : List (Filter EmailCondition)). length fs ≤ l.filter-index) c.deref-filter-items.ensures.value c.loop-filter-test.false) l.invariant

-- what is kept of rows by a filter of these Emails
abbrev KeepsBy : List (ℕ × Email) → List (ℕ × Email) → FilterTree EmailCondition → List EmailEntry → Type 0
KeepsBy all rows tree kept = Keeps (λ (e : ℕ × Email). PassesFilter (EmailMatches all e.1) tree) rows (emails_at kept)

pub taken_of-returns-in-Conditions : goal.taken_of-returns-in-Conditions
taken_of-returns-in-Conditions t c = λ known.
    let all = emails_at c.args.emails.now in
    let rows = emails_at c.args.rows.items in
    let cs = c.in-Conditions.conditions in
    let is : filter_tree c.args.filter.now ≡ conditions cs.items = ap filter_tree c.in-Conditions.is ∙ tree_of_conditions cs in
    let knows : EachCondition (KnowsThreads all c.args.found.now) (conditions cs.items) = subst (EachCondition (KnowsThreads all c.args.found.now)) is known in
    IfOk-weaker c.narrowed.result _ _ (λ v keeps. subst (λ (tree : FilterTree EmailCondition). KeepsBy all rows tree v.items) (sym is) keeps) (c.narrowed.ensures knows)

pub taken_of-returns-in-And : goal.taken_of-returns-in-And
taken_of-returns-in-And t c = λ known.
    let all = emails_at c.args.emails.now in
    let rows = emails_at c.args.rows.items in
    let fs = c.in-Joined.filters in
    let tree : FilterTree EmailCondition = joined_by And (trees_of (map filter_tree fs.items)) in
    let is : filter_tree c.args.filter.now ≡ tree = ap filter_tree c.in-Joined.is ∙ tree_of_joined c.in-Joined.operator fs ∙ ap (λ (o : FilterOperator). joined_by o (trees_of (map filter_tree fs.items))) c.in-And.is in
    let knows : EachCondition (KnowsThreads all c.args.found.now) tree = subst (EachCondition (KnowsThreads all c.args.found.now)) is known in
    IfOk-weaker c.taken_by_each.result _ _ (λ v keeps. subst (λ (tree : FilterTree EmailCondition). KeepsBy all rows tree v.items) (sym is) keeps) (c.taken_by_each.ensures knows)

pub taken_of-returns-in-Or : goal.taken_of-returns-in-Or
taken_of-returns-in-Or t c = λ known.
    let all = emails_at c.args.emails.now in
    IfOk-weaker c.taken_by.result _ _
    (λ v keeps. subst (λ (es : List EmailEntry). KeepsBy all (emails_at es) (filter_tree c.args.filter.now) v.items) c.deref.ensures.value keeps) (c.taken_by.ensures known)

pub taken_of-returns : goal.taken_of-returns
taken_of-returns t c = λ known.
    let all = emails_at c.args.emails.now in
    IfOk-weaker c.taken_by-in-Not.result _ _
    (λ v keeps. subst (λ (es : List EmailEntry). KeepsBy all (emails_at es) (filter_tree c.args.filter.now) v.items) c.deref-in-Not.ensures.value keeps) (c.taken_by-in-Not.ensures known)
