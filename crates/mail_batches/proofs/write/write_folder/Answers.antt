use Rattle.mail_batches.proofs.WriteLemmas.{folder_added}
use Rattle.mail_batches.proofs.write.write_folder.Goals as goal

pub returns : goal.returns
returns c =
    folder_added c.args.folder.now _ _ _ _ _ _ _ _ c.in_ok-write_long.ensures (rw c.as_slice.ensures at c.in_ok-write_text.ensures) c.in_ok-write_optional.ensures
    c.in_ok-write_texts.ensures c.in_ok-write_half.ensures c.in_ok-write_long-2.ensures c.in_ok-write_long-3.ensures
