use Rattle.message_blobs.specs.BlobIds.{root_view}
use Rattle.email_import.proofs.FindLemmas.{no_id, of_root}
use Rattle.email_import.proofs.messages.is_of_long_email.Goals as goal

pub returns-in-None : goal.returns-in-None
returns-in-None c = no_id c.args.state.now.rows.numbered.rows c.args.blob.now c.in-None.ensures

pub returns-in-Some : goal.returns-in-Some
returns-in-Some c =
    of_root c.args.state.now.rows.numbered.rows c.args.blob.now (root_view c.in-Some.id.root) c.in-Some.id.leaves.items c.is_long_root.result c.in-Some.ensures
    c.is_long_root.ensures
