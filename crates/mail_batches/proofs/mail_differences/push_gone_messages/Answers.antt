use Rattle.std.proofs.Common.{refl}
use Rattle.mail_batches.specs.reading.Adding.{GoneMessage}
use Rattle.mail_batches.proofs.AddingLemmas.{adds_one, begins_adding, ends_adding}
use Rattle.mail_batches.proofs.mail_differences.push_gone_messages.Goals as goal

pub loop-mark-init : goal.loop-mark-init
loop-mark-init c = begins_adding (GoneMessage) c.args.marks.now.keys c.into_iter-mark-iterator.result c.args.items.now.items c.into_iter-mark-iterator.ensures.into_iter_gives.0

pub loop-mark-preserved : goal.loop-mark-preserved
loop-mark-preserved c =
    adds_one (GoneMessage) c.args.marks.now.keys _ _ c.in-Some.mark.now _ _ _ _ c.loop-mark.invariant c.in-Some.ensures.steps refl c.in_ok-push.ensures.items

pub returns-clause-added : goal.returns-clause-added
returns-clause-added c = ends_adding (GoneMessage) c.args.marks.now.keys _ _ _ c.loop-mark.invariant c.in-None.ensures.steps.0
