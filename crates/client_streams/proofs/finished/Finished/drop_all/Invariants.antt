use Rattle.client_streams.specs.Draining.{DropsSome}
use Rattle.client_streams.proofs.finished.Finished.drop_all.Given as goal

abbrev pub invariant-pieces : goal.invariant-pieces
invariant-pieces g l = DropsSome g.S.ClientStream.gives l.fn.self l.piece l.self
