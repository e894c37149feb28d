use Rattle.email_get.proofs.OneBlob as lemmas
use Rattle.email_get.proofs.laws.one_blob_found.Goals as goal

pub returns : goal.returns
returns c = λ emails uploads id asks more also later r s f g same. lemmas.one_blob_found emails uploads id asks more also later r s f g same
