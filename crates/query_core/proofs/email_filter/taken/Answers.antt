use Rattle.std.proofs.Common.{ℕ, List, ap, subst}
use Rattle.std.proofs.lemmas.Result.{IfOk-weaker}
use Rattle.mail_maps.specs.Serve.{Email}
use Rattle.query_conditions.specs.Entries.{emails_at}
use Rattle.query_arguments.specs.FilterTrees.{filter_tree}
use Rattle.query_lists.specs.Filters.{PassesFilter}
use Rattle.query_core.specs.Lists.{EmailMatches}
use Rattle.query_core.specs.reading.Kept.{Keeps}
use Rattle.query_core.proofs.email_filter.taken.Goals as goal

pub returns : goal.returns
returns c =
    let all = emails_at c.args.emails.now in
    IfOk-weaker c.taken_of.result _ _
    (λ v keeps.
    subst (λ (es : List (ℕ × Email)). Keeps (λ (e : ℕ × Email). PassesFilter (EmailMatches all e.1) (filter_tree c.args.filter.now)) es (emails_at v.items))
    (ap emails_at (c.in_ok-rows.ensures.items_if_clones_equal (λ x y e. e))) keeps)
    (c.taken_of.ensures c.in_ok-found.ensures)
