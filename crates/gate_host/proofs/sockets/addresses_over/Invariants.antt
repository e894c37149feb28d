-- No more addresses than there is room for.
use Rattle.std.proofs.Common.{◌≤◌, length}
use Rattle.gate_host.proofs.sockets.addresses_over.Given as goal

abbrev pub invariant-loop-address : goal.invariant-loop-address
invariant-loop-address g l = l.count ≤ length l.room
