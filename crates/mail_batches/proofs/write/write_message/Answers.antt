use Rattle.std.proofs.Common.{rules, w64}
use Rattle.std.specs.Prelude.{FitsSigned}
use Rattle.std.proofs.lemmas.Int.{to_z-of_z}
use Rattle.mail_batches.proofs.WriteLemmas.{message_added}
use Rattle.mail_batches.proofs.write.write_message.Goals as goal

pub returns : goal.returns
returns c =
    let fits : FitsSigned w64 c.args.message.now.date = search rules in
    message_added c.args.folder c.args.message.now _ _ _ _ _ c.in_ok-write_set.ensures (rw (to_z-of_z w64 c.args.message.now.date fits) at c.in_ok-write_signed.ensures)
    c.in_ok-write_long.ensures (rw c.as_slice.ensures at c.in_ok-write_text.ensures)
