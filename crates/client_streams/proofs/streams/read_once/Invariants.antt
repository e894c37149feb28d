-- A read that a signal broke off consumed nothing.
use Rattle.std.specs.Io.KnownBytes.{Keeps}
use Rattle.client_streams.proofs.streams.read_once.Given as goal

abbrev pub invariant-signals : goal.invariant-signals
invariant-signals g l = Keeps (g.R.Read.remaining l.initial.stream) (g.R.Read.remaining l.stream)
