use Rattle.std.proofs.Common.{◌≡◌, ℕ}
use Rattle.mail_maps.specs.Serve.{Email}
use Rattle.query_conditions.specs.Entries.{emails_at}
use Rattle.query_arguments.specs.declared.email_condition.EmailCondition.{EmailCondition}
use Rattle.query_core.specs.Lists.{EmailMatches}
use Rattle.query_core.specs.reading.ConditionsRead.{reads_text}
use Rattle.query_core.specs.reading.Found.{KnowsThreads}
use Rattle.query_core.proofs.NarrowLemmas.{NarrowedByAll}
use Rattle.query_core.proofs.email_filter.narrowed_by.Given as goal

-- these are left by the conditions so far
abbrev pub invariant-loop-condition : goal.invariant-loop-condition
invariant-loop-condition l =
    NarrowedByAll (KnowsThreads (emails_at l.emails) l.found) (λ (e : ℕ × Email) (c : EmailCondition). reads_text c ≡ l.fn.of_texts → EmailMatches (emails_at l.emails) e.1 c)
    (emails_at l.fn.rows.items) l.conditions.items l.condition-index (emails_at l.rows.items)
