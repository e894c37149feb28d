use Rattle.client_front.specs.Accepting.{Come, state, world}
use Rattle.client_front.proofs.acceptor.Acceptor+L+C+L+Stream.admit_all.Given as goal

abbrev pub invariant-clients : goal.invariant-clients
invariant-clients g l =
    Come (world g.L.Stream.ClientStream.shows g.L.Stream.ClientStream.closes g.L.Stream.ClientStream.gives g.L.Stream.ClientStream.takes g.L.Stream.ClientStream.ends g.C.Ticks.reads g.L.ClientListener.waits g.L.ClientListener.comes) l.now (state l.fn.self) l.came (state l.self)
