use Rattle.std.proofs.Common.{take}
use Rattle.query_conditions.specs.Entries.{emails_at}
use Rattle.query_arguments.specs.FilterTrees.{filter_tree}
use Rattle.query_lists.specs.Filters.{PassesFilter}
use Rattle.query_core.specs.Lists.{EmailMatches}
use Rattle.query_core.specs.reading.Found.{EachCondition, KnowsThreads}
use Rattle.query_core.specs.reading.Kept.{Keeps}
use Rattle.query_core.proofs.email_filter.taken_by.Given as goal

-- of those so far are left those that the filter takes
abbrev pub invariant-loop-email : goal.invariant-loop-email
invariant-loop-email l =
    EachCondition (KnowsThreads (emails_at l.emails) l.found) (filter_tree l.filter)
    → Keeps (λ e. PassesFilter (EmailMatches (emails_at l.emails) e.1) (filter_tree l.filter)) (emails_at (take l.email-index l.rows)) (emails_at l.kept.items)
