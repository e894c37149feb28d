use Rattle.told_folder.proofs.KeyedLemmas.{get_or-defaults}
use Rattle.mail_rows.proofs.UpdateLemmas.{row_forgotten}
use Rattle.mail_rows.proofs.remaining.forget_rows.Goals as goal

pub loop-email-preserved : goal.loop-email-preserved
loop-email-preserved c = λ q. row_forgotten c.args.gone.now c.loop-email.email-index _ q _ _ _ c.loop-email-test.true
    (get_or-defaults _ _ _ c.loop-email-test.true) (c.remove.ensures.updates.0 q) (c.loop-email.invariant q)
