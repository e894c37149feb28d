use Rattle.std.proofs.Common.{◌≡◌, drop}
use Rattle.told_folder.specs.Select.{last_told, modseq_in}
use Rattle.told_folder.proofs.select.last_modseq.Given as goal

abbrev pub invariant-loop-response : goal.invariant-loop-response
invariant-loop-response l = last_told modseq_in l.last (drop l.response-index l.responses) ≡ last_told modseq_in 0 l.responses
