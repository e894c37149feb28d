use Rattle.message_blobs.proofs.IdLemmas.{no_root}
use Rattle.message_blobs.proofs.blob_id.read_root.Goals as goal

pub returns-in-None : goal.returns-in-None
returns-in-None c = λ root is e. no_root c.args.text.now (λ u. let t = c.is_upload_id.ensures.1 u in cc (t, c.if-is_upload_id.false)) c.in-None.ensures root is e
