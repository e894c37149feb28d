use Rattle.mail_batches.specs.reading.Adding.{IsOtherAt}
use Rattle.mail_batches.proofs.AddingLemmas.{part_noted}
use Rattle.mail_batches.proofs.mail_differences.note_other.Goals as goal

pub loop-message-preserved : goal.loop-message-preserved
loop-message-preserved c =
    part_noted (IsOtherAt c.args.before.now.mail c.args.folder) c.args.messages.now c.loop-message.message-index c.message-item.result _ _ _ c.loop-message-test.true c.message-item.is
    c.loop-message.invariant c.in_ok-note_if_other.ensures
