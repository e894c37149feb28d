use Rattle.std.proofs.Common.{arith}
use Rattle.mail_maps.proofs.FrontLemmas.{front_passed, front_decides}
use Rattle.mail_maps.proofs.hierarchy.parent_below.Goals as goal

pub loop-len-preserved : goal.loop-len-preserved
loop-len-preserved c = record {
  within = omega (arith, c.loop-len.invariant.within);
  fronts =
      front_passed c.args.mirror.now.mail.folders c.args.name.now c.args.delimiter _ c.loop-len.len _ (omega (arith, c.loop-len-test.true)) c.in-None.ensures
      c.loop-len.invariant.fronts;
}

pub returns-in-Some : goal.returns-in-Some
returns-in-Some c =
    front_decides c.args.mirror.now.mail.folders c.args.name.now c.args.delimiter _ c.loop-len.len _ _ (omega (arith, c.loop-len-test.true)) c.in-Some.ensures
    c.loop-len.invariant.fronts
