use Rattle.mail_batches.proofs.AddingLemmas.{other_noted, other_passed}
use Rattle.mail_batches.proofs.mail_differences.note_if_other.Goals as goal

pub returns-in_ok-insert : goal.returns-in_ok-insert
returns-in_ok-insert c =
    other_noted c.args.before.now.mail c.args.folder c.args.message.now c.is_other-other.result _ _ c.is_other-other.ensures c.if-other.true (λ q. c.in_ok-insert.ensures.updates.0 q)

pub returns-else-other : goal.returns-else-other
returns-else-other c = other_passed c.args.before.now.mail c.args.folder c.args.message.now c.is_other-other.result _ c.is_other-other.ensures c.if-other.false
