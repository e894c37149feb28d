use Rattle.std.proofs.Common.{ℕ, Bool, ◌==◌}
use Rattle.told_folder.proofs.KeyedLemmas.{get_or-defaults}
use Rattle.mail_maps.proofs.FrontLemmas.{noted_more}
use Rattle.query_changes.proofs.told.touched_ids.Goals as goal

pub loop-touch-preserved : goal.loop-touch-preserved
loop-touch-preserved c = λ n.
    noted_more (λ (t : ℕ × Bool). t.0 == n) c.args.touched.now c.loop-touch.touch-index _ _ _ _ c.loop-touch-test.true (get_or-defaults _ _ _ c.loop-touch-test.true)
    (c.in_ok-note.ensures n) (c.loop-touch.invariant n)
