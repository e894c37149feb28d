use Rattle.message_blobs.proofs.IdLemmas.{one_root_of, one_leaves_of}
use Rattle.message_blobs.proofs.laws.one_blob_id.Goals as goal

pub returns-clause-root : goal.returns-clause-root
returns-clause-root c = λ r s ns ms text i j. one_root_of r s ns ms text i j

pub returns-clause-leaves : goal.returns-clause-leaves
returns-clause-leaves c = λ r s ns ms text i j. one_leaves_of r s ns ms text i j
