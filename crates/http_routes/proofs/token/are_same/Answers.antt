use Rattle.std.proofs.Common.{arith}
use Rattle.http_routes.proofs.Compared.{compared-more}
use Rattle.http_routes.proofs.token.are_same.Goals as goal

pub loop-at-preserved : goal.loop-at-preserved
loop-at-preserved c =
    compared-more c.loop-at.difference c.merged-difference.result c.args.one.now c.args.other.now c.loop-at.at (omega arith) (omega (arith, c.requires))
    c.merged-difference.ensures.zero c.merged-difference.ensures.same c.loop-at.invariant
