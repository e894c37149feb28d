use Rattle.std.proofs.Common.{arith}
use Rattle.thread_rule.specs.BaseSubject.{Step4, NoStep}
use Rattle.thread_rule.proofs.PieceLemmas.{lacks_trailer_behind}
use Rattle.thread_rule.proofs.LeaderLemmas.{lacks_leader_behind}
use Rattle.thread_rule.proofs.NormalForms.{reaches_more}
use Rattle.thread_rule.proofs.base.without_blobs.Goals as goal

pub loop-more-init : goal.loop-more-init
loop-more-init c = record { reached = NoStep c.args.text.now; trailer = c.requires.trailer; leader = c.requires.leader; shorter = omega arith }

pub loop-more-preserved : goal.loop-more-preserved
loop-more-preserved c =
    let s = c.loop-more.rest.now in
    let t = c.in-Some.more.now in
    let i = c.loop-more.invariant in
    let d = c.in-Some.ensures.blob in
    let b = d.drops.drops in
    record {
      reached = reaches_more c.args.text.now s t i.reached (Step4 i.trailer i.leader d);
      trailer = lacks_trailer_behind s b.piece t b.whole i.trailer;
      leader = lacks_leader_behind s t d.drops i.leader;
      shorter = omega (arith, c.in-Some.ensures.shorter, i.shorter);
    }

pub returns : goal.returns
returns c =
    let i = c.loop-more.invariant in
    record { reached = i.reached; trailer = i.trailer; leader = i.leader; blob = c.in_default.ensures.blob; shorter = i.shorter }
