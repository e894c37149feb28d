use Rattle.std.proofs.Common.{arith, inr, refl}
use Rattle.client_front.specs.Accepting.{NoneSpared, OneSpared, state}
use Rattle.client_front.specs.Waiting.{held}
use Rattle.client_front.proofs.acceptor.Acceptor+L+C+L+Stream.spare.Goals as goal

pub spared-init : goal.spared-init
spared-init g c = NoneSpared

pub returns-then-not-make_room : goal.returns-then-not-make_room
returns-then-not-make_room g c =
    inr (c.spared.spared, state c.spared.self, omega arith, c.spared.invariant, (held c.make_room.new.self, c.if-not-make_room.ensures.made, refl))

pub spared-preserved : goal.spared-preserved
spared-preserved g c = OneSpared c.spared.invariant (held c.make_room.new.self, c.if-not-make_room.ensures.made, refl)
