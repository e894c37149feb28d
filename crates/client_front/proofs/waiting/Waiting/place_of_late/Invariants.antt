use Rattle.std.proofs.Common.{◌≡◌, ◌<◌, ℕ, false, slice_index_or}
use Rattle.client_front.specs.Waiting.{is_late}
use Rattle.client_front.specs.declared.waiting.Idle.{Idle}
use Rattle.client_front.proofs.waiting.Waiting.place_of_late.Given as goal

abbrev pub invariant-loop-at : goal.invariant-loop-at
invariant-loop-at g l = (k : ℕ) (d : Idle g.row.S.Denot) → k < l.at → is_late l.now (slice_index_or l.self.idle.items k d) ≡ false
