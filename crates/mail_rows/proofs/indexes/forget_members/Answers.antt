use Rattle.told_folder.proofs.KeyedLemmas.{get_or-defaults}
use Rattle.mail_rows.proofs.LoopLemmas.{member_forgotten}
use Rattle.mail_rows.proofs.indexes.forget_members.Goals as goal

pub loop-email-preserved : goal.loop-email-preserved
loop-email-preserved c = member_forgotten c.args.gone.now c.loop-email.email-index _ _ _ _ c.loop-email-test.true
    (get_or-defaults _ _ _ c.loop-email-test.true) c.forget.ensures c.loop-email.invariant
