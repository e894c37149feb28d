use Rattle.mail_batches.proofs.AddingLemmas.{lost_noted, lost_passed}
use Rattle.mail_batches.proofs.mail_differences.note_if_lost.Goals as goal

pub returns-in_ok-insert : goal.returns-in_ok-insert
returns-in_ok-insert c =
    lost_noted c.args.other.now.mail c.args.message.now c.has_mark-there.result _ _ c.has_mark-there.ensures c.if-not-there.true (λ q. c.in_ok-insert.ensures.updates.0 q)

pub returns-else-not-there : goal.returns-else-not-there
returns-else-not-there c = lost_passed c.args.other.now.mail c.args.message.now c.has_mark-there.result _ c.has_mark-there.ensures c.if-not-there.false
