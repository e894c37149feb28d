use Rattle.std.proofs.Common.{arith, inl, inr, refl}
use Rattle.client_front.specs.Accepting.{NoneCame, OneCame, state}
use Rattle.client_front.proofs.acceptor.Acceptor+L+C+L+Stream.admit_all.Goals as goal

pub clients-init : goal.clients-init
clients-init g c = NoneCame

pub returns-in-Nobody : goal.returns-in-Nobody
returns-in-Nobody g c = inr (c.clients.came, state c.clients.self, omega arith, c.clients.invariant, inl (c.in-Nobody.ensures, refl))

pub returns-in-Refused : goal.returns-in-Refused
returns-in-Refused g c =
    inr (c.clients.came, state c.clients.self, omega arith, c.clients.invariant, inr (c.next_client.new.self, c.in-Refused.ensures, c.spare.ensures))

pub clients-preserved : goal.clients-preserved
clients-preserved g c =
    OneCame c.clients.invariant (c.in-Client.stream, c.next_client.new.self, c.in-Client.ensures, c.hold.ensures)
