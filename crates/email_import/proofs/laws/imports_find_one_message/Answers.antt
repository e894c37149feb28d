use Rattle.email_import.proofs.LawLemmas.{one_message}
use Rattle.email_import.proofs.laws.imports_find_one_message.Goals as goal

pub returns : goal.returns
returns c = λ emails uploads i asks more also later r s f g same. one_message c.one_blob_found.ensures emails uploads i asks more also later r s f g same
