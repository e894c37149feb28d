use Rattle.std.proofs.Common.{ℕ}
use Rattle.mail_maps.specs.Serve.{Email}
use Rattle.query_conditions.specs.Entries.{emails_at}
use Rattle.query_core.specs.Lists.{EmailMatches}
use Rattle.query_core.specs.reading.Found.{KnowsThreads}
use Rattle.query_core.proofs.NarrowLemmas.{NarrowedByFilters}
use Rattle.query_core.proofs.email_filter.+narrows.Given as goal

-- these are left by the filters so far
abbrev pub invariant-taken_by_each-loop-filter : goal.invariant-taken_by_each-loop-filter
invariant-taken_by_each-loop-filter l =
    NarrowedByFilters (KnowsThreads (emails_at l.emails) l.found) (λ (e : ℕ × Email). EmailMatches (emails_at l.emails) e.1) (emails_at l.fn.rows.items) l.filters.items l.filter-index (emails_at l.rows.items)
