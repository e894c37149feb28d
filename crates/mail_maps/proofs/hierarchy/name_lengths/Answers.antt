use Rattle.mail_maps.specs.reading.Fronts.{has_length}
use Rattle.mail_maps.proofs.FrontLemmas.{noted_more}
use Rattle.mail_maps.proofs.hierarchy.name_lengths.Goals as goal

pub loop-held-preserved : goal.loop-held-preserved
loop-held-preserved c = λ q.
    noted_more (has_length q) c.args.folders.now c.loop-held.held-index c.held-item.result _ _ _ c.loop-held-test.true c.held-item.is (c.in_ok-note_length.ensures q)
    (c.loop-held.invariant q)
