use Rattle.client_streams.proofs.FlushedOn.{Turned}
use Rattle.client_streams.proofs.flushing.Flushing.go_on.Given as goal

abbrev pub invariant-clients : goal.invariant-clients
invariant-clients g l =
    Turned g.S.ClientStream.takes g.S.ClientStream.ends g.S.ClientStream.gives g.S.ClientStream.closes l.now l.fn.lingering.clients.items l.fn.self.clients.items l.turn l.self.clients.items l.lingering.clients.items
