use Rattle.std.proofs.Common.{arith}
use Rattle.mail_rows.proofs.LoopLemmas.{number_added, numbers_end}
use Rattle.mail_rows.proofs.touches.additions.Goals as goal

pub loop-number-preserved : goal.loop-number-preserved
loop-number-preserved c = number_added c.loop-number.number c.args.next c.loop-number.added.items _ _ (omega arith) c.in_ok-push.ensures.items c.loop-number.invariant

pub returns : goal.returns
returns c = numbers_end c.loop-number.number c.args.next c.loop-number.added.items _ (omega arith) c.loop-number.invariant
