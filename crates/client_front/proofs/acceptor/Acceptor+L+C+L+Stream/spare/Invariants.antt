use Rattle.client_front.specs.Accepting.{Spared, state, world}
use Rattle.client_front.proofs.acceptor.Acceptor+L+C+L+Stream.spare.Given as goal

abbrev pub invariant-spared : goal.invariant-spared
invariant-spared g l =
    Spared (world g.L.Stream.ClientStream.shows g.L.Stream.ClientStream.closes g.L.Stream.ClientStream.gives g.L.Stream.ClientStream.takes g.L.Stream.ClientStream.ends g.C.Ticks.reads g.L.ClientListener.waits g.L.ClientListener.comes) (state l.fn.self) l.spared (state l.self)
