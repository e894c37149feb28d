use Rattle.std.proofs.Common.{◌≡◌, ◌++◌}
use Rattle.mail_maps.proofs.GroupLemmas.{thread_rows}
use Rattle.mail_maps.proofs.threads.threads_in.Given as goal

abbrev pub invariant-loop-number : goal.invariant-loop-number
invariant-loop-number l = l.threads.entries ++ thread_rows l.number-iterator ≡ thread_rows l.groups.entries
