use Rattle.std.proofs.Common.{◌≡◌, take}
use Rattle.client_front.specs.Accepting.{Asked}
use Rattle.client_front.specs.Waiting.{held}
use Rattle.client_front.proofs.acceptor.Acceptor+L+C+L+Stream.ask_all.Given as goal

abbrev pub invariant-loop-key : goal.invariant-loop-key
invariant-loop-key g l = record {
  asked : Asked g.L.Stream.ClientStream.shows g.L.Stream.ClientStream.closes l.now (held l.fn.self.waiting) (take l.key-index l.keys) (held l.self.waiting);
  same : l.self ≡ record l.fn.self { waiting = l.self.waiting };
}
