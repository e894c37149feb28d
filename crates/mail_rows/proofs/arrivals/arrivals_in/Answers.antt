use Rattle.mail_rows.proofs.LoopLemmas.{folder_taken}
use Rattle.mail_rows.proofs.arrivals.arrivals_in.Goals as goal

pub loop-held-preserved : goal.loop-held-preserved
loop-held-preserved c =
    folder_taken c.args.marks.now c.args.folders.now c.loop-held.held-index c.held-item.result c.loop-held.arrivals.items _ _ c.loop-held-test.true c.held-item.is
    c.in_ok-add_folder.ensures c.loop-held.invariant
