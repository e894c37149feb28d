use Rattle.std.proofs.Common.{arith}
use Rattle.thread_rule.specs.BaseSubject.{Step2, NoStep}
use Rattle.thread_rule.proofs.NormalForms.{reaches_more}
use Rattle.thread_rule.proofs.base.without_trailers.Goals as goal

pub loop-more-init : goal.loop-more-init
loop-more-init c = record { reached = NoStep c.args.text.now; shorter = omega arith }

pub loop-more-preserved : goal.loop-more-preserved
loop-more-preserved c = record {
  reached = reaches_more c.args.text.now c.loop-more.rest.now c.in-Some.more.now c.loop-more.invariant.reached (Step2 c.in-Some.ensures.trailer);
  shorter = omega (arith, c.in-Some.ensures.shorter, c.loop-more.invariant.shorter);
}
