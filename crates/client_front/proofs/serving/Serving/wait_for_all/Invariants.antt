use Rattle.std.proofs.Common.{length}
use Rattle.client_front.specs.Handing.{Empties}
use Rattle.client_front.proofs.serving.Serving.wait_for_all.Given as goal

abbrev pub invariant-pieces : goal.invariant-pieces
invariant-pieces g l =
    Empties g.S.ClientStream.sends g.C.Ticks.reads l.fn.clock (record { serving = l.fn.self; kept = l.fn.kept }) l.clock (record { serving = l.self; kept = l.kept })

-- each wait takes an octet at least
abbrev pub decreases-pieces : goal.decreases-pieces
decreases-pieces g l = length l.kept.unsent
