use Rattle.std.proofs.Common.{arith}
use Rattle.mail_batches.specs.reading.Adding.{HasOther}
use Rattle.mail_batches.proofs.AddingLemmas.{all_noted, none_yet, part_noted}
use Rattle.mail_batches.proofs.mail_differences.other_marks.Goals as goal

pub loop-held-init : goal.loop-held-init
loop-held-init c = none_yet c.new-marks.result _ c.new-marks.ensures.empty (λ q a. a)

pub loop-held-preserved : goal.loop-held-preserved
loop-held-preserved c =
    part_noted (HasOther c.args.before.now.mail) c.folders-held-items.result.now c.loop-held.held-index c.held-item.result _ _ _ c.loop-held-test.true c.held-item.is c.loop-held.invariant
    (rw c.as_slice.ensures at c.in_ok-note_other.ensures)

pub returns : goal.returns
returns c = all_noted (HasOther c.args.before.now.mail) c.folders-held-items.result.now c.args.after.now.mail.folders c.loop-held.held-index _ _ (omega arith) c.folders-held-items.ensures c.loop-held.invariant
