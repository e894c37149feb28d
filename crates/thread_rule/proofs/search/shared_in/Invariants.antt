use Rattle.std.proofs.Common.{◌≡◌}
use Rattle.thread_rule.specs.reading.Index.{first_thread, numbers_at, numbers_up_to_other}
use Rattle.thread_rule.proofs.search.shared_in.Given as goal

-- what the entries that are left come to is the answer
abbrev pub invariant-loop-entry : goal.invariant-loop-entry
invariant-loop-entry l =
    first_thread l.members.entries l.base l.id (numbers_up_to_other l.key l.entry-iterator) ≡ first_thread l.members.entries l.base l.id (numbers_at l.key l.entries.keys)
