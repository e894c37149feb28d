use Rattle.message_blobs.proofs.UploadLemmas.{upload_blob_id}
use Rattle.message_blobs.proofs.laws.uploads_have_blob_ids.Goals as goal

pub returns : goal.returns
returns c = λ octets. upload_blob_id octets
