use Rattle.std.proofs.Common.{sym}
use Rattle.set_arguments.specs.reading.Keys.{keyed_data}
use Rattle.set_order.specs.reading.Waiting.{left_in, ready_in, waiting_at, waiting_in}
use Rattle.set_order.proofs.PlacingLemmas.{placed_ready, placed_waiting}
use Rattle.set_order.proofs.pending.Pending.place.Goals as goal

pub returns-in_ok-put_waiting-in-Some-clause-placed : goal.returns-in_ok-put_waiting-in-Some-clause-placed
returns-in_ok-put_waiting-in-Some-clause-placed c = λ placed are.
    placed_waiting (left_in c.args.self.now) placed (keyed_data c.args.creation) (ready_in c.args.self.now) (waiting_in c.args.self.now) are c.in-Some.parent.now
    (waiting_at c.put_waiting.new.waiting) c.in-Some.ensures.parent (sym c.in-Some.ensures.waits) c.in_ok-put_waiting-in-Some.ensures.here c.in_ok-put_waiting-in-Some.ensures.others

pub returns-in_ok-is_new-in-None-clause-placed : goal.returns-in_ok-is_new-in-None-clause-placed
returns-in_ok-is_new-in-None-clause-placed c = λ placed are.
    placed_ready (left_in c.args.self.now) placed (keyed_data c.args.creation) (ready_in c.args.self.now) (waiting_in c.args.self.now) are _
    (sym c.in-None.ensures.waits) c.in_ok-is_new-in-None.ensures.seen
