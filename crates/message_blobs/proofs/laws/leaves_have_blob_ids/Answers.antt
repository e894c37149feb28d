use Rattle.message_blobs.proofs.IdLemmas.{leaf_id}
use Rattle.message_blobs.proofs.laws.leaves_have_blob_ids.Goals as goal

pub returns : goal.returns
returns c = λ root ns n text i few some fits. leaf_id root ns n text i few some fits
