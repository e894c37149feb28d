-- So far the batches before the index are shared.
use Rattle.std.proofs.Common.{◌≡◌, take}
use Rattle.scripted_world.proofs.playback.share_all.Given as goal

abbrev pub invariant-loop-batch : goal.invariant-loop-batch
invariant-loop-batch l = l.shared.items ≡ take l.batch-index l.batches
