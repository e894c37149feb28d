use Rattle.client_front.proofs.Late.{awaited}
use Rattle.client_front.specs.Waiting.{LooksAtLateOnes, held}
use Rattle.client_front.proofs.waiting.Waiting.expire.Given as goal

abbrev pub invariant-late : goal.invariant-late
invariant-late g l = LooksAtLateOnes g.S.ClientStream.shows g.S.ClientStream.closes l.now (held l.fn.self) (held l.self)

abbrev pub decreases-late : goal.decreases-late
decreases-late g l = awaited l.self.idle.items
