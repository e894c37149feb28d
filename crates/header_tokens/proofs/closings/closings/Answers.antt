use Rattle.std.proofs.Common.{drop, false, arith}
use Rattle.std.proofs.lemmas.List.{length-drop}
use Rattle.header_tokens.proofs.ClosingLemmas.{unmatched_within}
use Rattle.header_tokens.proofs.closings.closings.Goals as goal

pub before-ends-requires : goal.before-ends-requires
before-ends-requires c =
    let t = drop c.loop-at.at c.args.text.now in
    omega (arith, unmatched_within false t, length-drop c.loop-at.at c.args.text.now, c.loop-at.invariant.ends.comments, c.loop-at.invariant.within)
