use Rattle.std.proofs.Common.{◌≡◌, ◌++◌, take}
use Rattle.mail_maps.specs.reading.EndedIds.{ended}
use Rattle.mail_maps.proofs.header.push_all.Given as goal

abbrev pub invariant-loop-id : goal.invariant-loop-id
invariant-loop-id l = l.text.items ≡ l.fn.text.items ++ ended (take l.id-index l.id-items)
