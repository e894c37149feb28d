-- A write that a signal broke off wrote nothing.
use Rattle.std.specs.Io.KnownBytes.{Keeps}
use Rattle.client_streams.proofs.streams.write_once.Given as goal

abbrev pub invariant-signals : goal.invariant-signals
invariant-signals g l = Keeps (g.W.Write.contents l.initial.stream) (g.W.Write.contents l.stream)
