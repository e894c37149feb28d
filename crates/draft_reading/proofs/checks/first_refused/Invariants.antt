use Rattle.serde_json.specs.View.{members_view}
use Rattle.draft_reading.proofs.FirstLemmas.{AllowedBefore}
use Rattle.draft_reading.proofs.checks.first_refused.Given as goal

-- those that are before what is left are allowed
abbrev pub invariant-loop-key : goal.invariant-loop-key
invariant-loop-key l = AllowedBefore (members_view l.all.entries) l.all.entries l.key-iterator
