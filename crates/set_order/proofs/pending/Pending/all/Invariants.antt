use Rattle.std.proofs.Common.{◌≡◌, map, take}
use Rattle.set_arguments.specs.reading.Keys.{keyed_data}
use Rattle.set_order.specs.reading.Ordering.{ArePlaced}
use Rattle.set_order.specs.reading.Waiting.{left_in, ready_in, waiting_in}
use Rattle.set_order.proofs.pending.Pending.all.Given as goal

-- all are left, and those so far are placed
abbrev pub invariant-loop-creation : goal.invariant-loop-creation
invariant-loop-creation l = record {
  left : left_in l.pending ≡ map keyed_data l.creation-items;
  placed : ArePlaced (map keyed_data l.creation-items) (map keyed_data (take l.creation-index l.creation-items)) (ready_in l.pending) (waiting_in l.pending);
}
