use Rattle.std.proofs.Common.{◌≡◌, drop}
use Rattle.mail_maps.specs.reading.Compared.{ascend_from}
use Rattle.mail_maps.proofs.same_keywords.ascend_from.Given as goal

abbrev pub invariant-loop-name : goal.invariant-loop-name
invariant-loop-name l = ascend_from l.last (drop l.name-index l.names) ≡ ascend_from l.before l.names
