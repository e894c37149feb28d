use Rattle.imap_client.proofs.FoldersStay.{folders_stay, fetches_begin}
use Rattle.imap_client.proofs.laws.fetches_keep_folders.Goals as goal

pub returns-clause-stay : goal.returns-clause-stay
returns-clause-stay c = folders_stay

pub returns-clause-begin : goal.returns-clause-begin
returns-clause-begin c = fetches_begin
