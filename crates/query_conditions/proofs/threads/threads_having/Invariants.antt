use Rattle.std.proofs.Common.{◌≡◌, ℕ, nat_cmp, drop, ◌||◌}
use Rattle.std.specs.BTreeSet.{contains}
use Rattle.std.specs.List.{list_any}
use Rattle.query_conditions.specs.Entries.{email_at}
use Rattle.query_conditions.specs.ThreadKeywords.{has_in_thread}
use Rattle.query_conditions.proofs.threads.threads_having.Given as goal

-- those so far, and those of the rest
abbrev pub invariant-loop-email : goal.invariant-loop-email
invariant-loop-email l =
    (t : ℕ) → contains nat_cmp l.set t || list_any (λ e. has_in_thread l.keyword t (email_at e)) (drop l.email-index l.emails)
    ≡ list_any (λ e. has_in_thread l.keyword t (email_at e)) l.emails
