use Rattle.message_blobs.proofs.LeafLemmas.{one_named}
use Rattle.message_blobs.proofs.laws.one_leaf_named.Goals as goal

pub returns : goal.returns
returns c = λ ns b s t g h. one_named ns b s t g h
