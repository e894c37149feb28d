use Rattle.imap_client.proofs.Sparse.{sparse_folders_take_three}
use Rattle.imap_client.proofs.laws.sparse_folders_take_three.Goals as goal

pub returns : goal.returns
returns c = sparse_folders_take_three
