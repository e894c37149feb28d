use Rattle.std.proofs.Common.{arith}
use Rattle.mail_batches.specs.reading.Adding.{PutFolder}
use Rattle.mail_batches.proofs.AddingLemmas.{adds_all, adds_next, none_added}
use Rattle.mail_batches.proofs.mail_differences.push_folders.Goals as goal

pub loop-held-init : goal.loop-held-init
loop-held-init c = none_added (PutFolder c.args.before.now.mail) c.args.items.now.items

pub loop-held-preserved : goal.loop-held-preserved
loop-held-preserved c =
    adds_next (PutFolder c.args.before.now.mail) c.args.after.now c.loop-held.held-index c.held-item.result _ _ _ _ c.loop-held-test.true c.held-item.is c.loop-held.invariant c.in_ok-item.ensures c.in_ok-push.ensures

pub returns : goal.returns
returns c = adds_all (PutFolder c.args.before.now.mail) c.args.after.now c.loop-held.held-index _ _ (omega arith) c.loop-held.invariant
