use Rattle.std.proofs.Common.{◌≡◌, ◌≤◌}
use Rattle.std.specs.VecDeque.{deque_capacity, deque_len}
use Rattle.client_streams.specs.declared.flushing.TheConstants.{MAX_FLUSHING_CLIENTS}
use Rattle.client_streams.proofs.flushing.spare_buffers.Given as goal

abbrev pub invariant-buffers : goal.invariant-buffers
invariant-buffers l = (deque_len l.spare ≡ l.made) × (MAX_FLUSHING_CLIENTS ≤ deque_capacity l.spare)
