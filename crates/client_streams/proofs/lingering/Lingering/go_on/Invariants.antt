use Rattle.client_streams.proofs.GoneOn.{Turned}
use Rattle.client_streams.proofs.lingering.Lingering.go_on.Given as goal

abbrev pub invariant-loop-turn : goal.invariant-loop-turn
invariant-loop-turn g l = Turned g.S.ClientStream.gives g.S.ClientStream.closes l.now l.fn.self.clients.items l.turn l.self.clients.items
