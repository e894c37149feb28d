use Rattle.std.proofs.Common.{arith}
use Rattle.thread_rule.specs.BaseSubject.{Step3, NoStep}
use Rattle.thread_rule.proofs.PieceLemmas.{lacks_trailer_behind}
use Rattle.thread_rule.proofs.NormalForms.{reaches_more}
use Rattle.thread_rule.proofs.base.without_leaders.Goals as goal

pub loop-more-init : goal.loop-more-init
loop-more-init c = record { reached = NoStep c.args.text.now; trailer = c.requires; shorter = omega arith }

pub loop-more-preserved : goal.loop-more-preserved
loop-more-preserved c =
    let s = c.loop-more.rest.now in
    let t = c.in-Some.more.now in
    let i = c.loop-more.invariant in
    let d = c.in-Some.ensures.leader in
    record {
      reached = reaches_more c.args.text.now s t i.reached (Step3 i.trailer d);
      trailer = lacks_trailer_behind s d.piece t d.whole i.trailer;
      shorter = omega (arith, c.in-Some.ensures.shorter, i.shorter);
    }
