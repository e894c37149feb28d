use Rattle.client_front.specs.Accepting.{state, world}
use Rattle.client_front.specs.Finishing.{LooksOn}
use Rattle.client_front.proofs.acceptor.Acceptor+L+C+L+Stream.end.Given as goal

abbrev pub invariant-looks : goal.invariant-looks
invariant-looks g l =
    LooksOn (world g.L.Stream.ClientStream.shows g.L.Stream.ClientStream.closes g.L.Stream.ClientStream.gives g.L.Stream.ClientStream.takes g.L.Stream.ClientStream.ends g.C.Ticks.reads g.L.ClientListener.waits g.L.ClientListener.comes) (state l.fn.self) l.looked (state l.self)
