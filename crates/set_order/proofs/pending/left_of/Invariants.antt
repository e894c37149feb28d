use Rattle.std.proofs.Common.{◌≡◌, map, take}
use Rattle.set_arguments.specs.reading.Keys.{keyed_data}
use Rattle.set_order.specs.reading.Waiting.{entry_data}
use Rattle.set_order.proofs.pending.left_of.Given as goal

-- those so far
abbrev pub invariant-loop-creation : goal.invariant-loop-creation
invariant-loop-creation l = map entry_data l.left.entries ≡ map keyed_data (take l.creation-index l.creation-items)
