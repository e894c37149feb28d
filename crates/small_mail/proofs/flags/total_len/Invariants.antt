use Rattle.std.proofs.Common.{◌≡◌, min, take}
use Rattle.small_answers.specs.Limits as limits
use Rattle.small_mail.proofs.flags.total_len.Given as goal

abbrev pub invariant-loop-name : goal.invariant-loop-name
invariant-loop-name l = l.total ≡ min (limits.total_length (take l.name-index l.names)) 18446744073709551615
