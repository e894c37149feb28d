use Rattle.std.proofs.Common.{length}
use Rattle.blob_store.proofs.NewestLemmas.{HaveGone}
use Rattle.blob_store.proofs.store.drop_oldest.Given as goal

abbrev pub invariant-loop-uploads : goal.invariant-loop-uploads
invariant-loop-uploads l = HaveGone 200000000 l.fn.uploads l.uploads

abbrev pub decreases-loop-uploads : goal.decreases-loop-uploads
decreases-loop-uploads l = length l.uploads
