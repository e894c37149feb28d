use Rattle.std.proofs.Common.{◌≡◌, drop}
use Rattle.told_changes.proofs.FirstCodes.{first_told}
use Rattle.told_changes.proofs.codes.moved_uid.Given as goal

abbrev pub invariant-loop-response : goal.invariant-loop-response
invariant-loop-response l = first_told l.validity l.uid (drop l.response-index l.responses) l.code ≡ first_told l.validity l.uid l.responses l.code
