use Rattle.std.proofs.Common.{take}
use Rattle.query_conditions.specs.Entries.{emails_at}
use Rattle.query_core.specs.Lists.{EmailMatches}
use Rattle.query_core.specs.reading.Found.{KnowsThreads}
use Rattle.query_core.specs.reading.Kept.{Keeps}
use Rattle.query_core.proofs.email_filter.matching.Given as goal

-- of those so far are left those of which the condition holds
abbrev pub invariant-loop-email : goal.invariant-loop-email
invariant-loop-email l =
    KnowsThreads (emails_at l.emails) l.found l.condition
    → Keeps (λ e. EmailMatches (emails_at l.emails) e.1 l.condition) (emails_at (take l.email-index l.rows)) (emails_at l.kept.items)
