use Rattle.told_folder.proofs.KeyedLemmas.{get_or-defaults}
use Rattle.mail_state.specs.reading.ThreadSteps.{removes}
use Rattle.mail_maps.proofs.FrontLemmas.{noted_more}
use Rattle.mail_state.proofs.threads.removals.Goals as goal

pub loop-touch-preserved : goal.loop-touch-preserved
loop-touch-preserved c =
    λ n. noted_more (removes n) c.args.touches.now c.loop-touch.touch-index _ _ _ _ c.loop-touch-test.true (get_or-defaults _ _ _ c.loop-touch-test.true)
    (c.in_ok-note_removal.ensures n) (c.loop-touch.invariant n)
