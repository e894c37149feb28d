use Rattle.std.proofs.Common.{◌≡◌, drop}
use Rattle.told_folder.specs.Select.{last_told, validity_in}
use Rattle.told_folder.proofs.select.validity_told.Given as goal

abbrev pub invariant-loop-response : goal.invariant-loop-response
invariant-loop-response l = last_told validity_in l.last (drop l.response-index l.responses) ≡ last_told validity_in l.validity l.responses
