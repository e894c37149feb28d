use Rattle.std.proofs.Common.{arith}
use Rattle.thread_rule.proofs.NormalForms.{reaches_on}
use Rattle.thread_rule.proofs.base.stripped.Goals as goal

pub returns : goal.returns
returns c =
    let s = c.args.text.now in
    let t = c.without_trailers.result.now in
    let u = c.without_leaders.result.now in
    let b = c.without_blobs.ensures in
    record {
      reached = reaches_on s t c.without_blobs.result.now c.without_trailers.ensures.reached
          (reaches_on t u c.without_blobs.result.now c.without_leaders.ensures.reached b.reached);
      trailer = b.trailer;
      leader = b.leader;
      blob = b.blob;
      shorter = omega (arith, c.without_trailers.ensures.shorter, c.without_leaders.ensures.shorter, b.shorter);
    }
