use Rattle.thread_rule.specs.BaseSubject.{Step6}
use Rattle.thread_rule.proofs.NormalForms.{reaches_on, reaches_more, no_step, is_the_form}
use Rattle.thread_rule.proofs.base.base_of.Goals as goal

pub loop-inner-preserved : goal.loop-inner-preserved
loop-inner-preserved c =
    let s = c.loop-inner.rest.now in
    let t = c.in-Some.inner.now in
    let i = c.loop-inner.invariant in
    let b = c.stripped-rest-in-Some.ensures in
    record {
      reached = reaches_on c.args.text.now t c.stripped-rest-in-Some.result.now
          (reaches_more c.args.text.now s t i.reached (Step6 i.trailer i.leader i.blob c.in-Some.ensures.inner)) b.reached;
      trailer = b.trailer;
      leader = b.leader;
      blob = b.blob;
    }

pub returns : goal.returns
returns c =
    let s = c.loop-inner.rest.now in
    let i = c.loop-inner.invariant in
    is_the_form c.args.text.now s i.reached (no_step s i.trailer i.leader i.blob c.in_default.ensures.inner)
