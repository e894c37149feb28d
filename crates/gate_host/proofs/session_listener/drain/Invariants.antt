-- No more is dropped than may be.
use Rattle.std.proofs.Common.{◌≤◌, ◌-◌}
use Rattle.client_streams.specs.declared.finished.TheConstants.{MAX_DRAIN_OCTETS}
use Rattle.gate_host.proofs.session_listener.drain.Given as goal

abbrev pub invariant-loop-dropped : goal.invariant-loop-dropped
invariant-loop-dropped g l = l.dropped ≤ MAX_DRAIN_OCTETS

abbrev pub decreases-loop-dropped : goal.decreases-loop-dropped
decreases-loop-dropped g l = MAX_DRAIN_OCTETS - l.dropped
