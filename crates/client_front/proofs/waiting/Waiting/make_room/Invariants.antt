use Rattle.std.proofs.Common.{length}
use Rattle.client_front.specs.Waiting.{AskersLeave, held}
use Rattle.client_front.proofs.waiting.Waiting.make_room.Given as goal

abbrev pub invariant-oldest : goal.invariant-oldest
invariant-oldest g l = AskersLeave g.S.ClientStream.shows g.S.ClientStream.closes (held l.fn.self) (held l.self)

abbrev pub decreases-oldest : goal.decreases-oldest
decreases-oldest g l = length l.self.idle.items
