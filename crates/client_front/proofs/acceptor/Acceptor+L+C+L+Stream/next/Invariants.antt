use Rattle.client_front.specs.Accepting.{Turns, state, world}
use Rattle.client_front.proofs.acceptor.Acceptor+L+C+L+Stream.next.Given as goal

abbrev pub invariant-turns : goal.invariant-turns
invariant-turns g l =
    Turns (world g.L.Stream.ClientStream.shows g.L.Stream.ClientStream.closes g.L.Stream.ClientStream.gives g.L.Stream.ClientStream.takes g.L.Stream.ClientStream.ends g.C.Ticks.reads g.L.ClientListener.waits g.L.ClientListener.comes) (state l.fn.self) l.turn (state l.self)
