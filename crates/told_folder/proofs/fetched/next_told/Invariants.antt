use Rattle.std.proofs.Common.{◌≡◌, drop, max}
use Rattle.told_folder.specs.ToldBy.{past_told}
use Rattle.told_folder.proofs.fetched.next_told.Given as goal

abbrev pub invariant-loop-response : goal.invariant-loop-response
invariant-loop-response l = max l.last (past_told l.messages (drop l.response-index l.responses)) ≡ max l.next (past_told l.messages l.responses)
