use Rattle.std.proofs.Common.{take, map}
use Rattle.set_order.specs.reading.Creating.{HasKeys}
use Rattle.set_order.specs.Ordered.{making}
use Rattle.set_arguments.specs.reading.Keys.{keyed_data}
use Rattle.set_order.proofs.order.creation_ids.Given as goal

-- the keys so far
abbrev pub invariant-loop-creation : goal.invariant-loop-creation
invariant-loop-creation l = HasKeys l.keys (making (map keyed_data (take l.creation-index l.creation-items)))
