use Rattle.blob_store.proofs.KeptLemmas.{no_other_length}
use Rattle.blob_store.proofs.store.BlobStore.get.Goals as goal

pub returns-in-Err : goal.returns-in-Err
returns-in-Err c = no_other_length c.args.id.now c.args.self.now c.in-Err.ensures.1
