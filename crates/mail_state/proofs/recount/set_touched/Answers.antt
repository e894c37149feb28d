use Rattle.told_folder.proofs.KeyedLemmas.{get_or-defaults}
use Rattle.mail_state.specs.reading.Recounts.{counted}
use Rattle.mail_state.proofs.RecountLemmas.{box_taken}
use Rattle.mail_state.proofs.recount.set_touched.Goals as goal

pub loop-touch-preserved : goal.loop-touch-preserved
loop-touch-preserved c = λ q. box_taken (counted c.args.counts.now) c.args.touches.now c.loop-touch.touch-index _ q _ _ _ _ c.loop-touch-test.true
    (get_or-defaults _ _ _ c.loop-touch-test.true) c.counts_of.ensures (c.set_counts.ensures q) (c.loop-touch.invariant q)
