use Rattle.std.proofs.Common.{◌∙◌, sym, inl, inr, arith}
use Rattle.body_parts.proofs.CutLemmas.{cut_before}
use Rattle.body_parts.proofs.cuts.whole_characters.Goals as goal

pub returns-else-is_inner-clause-cut : goal.returns-else-is_inner-clause-cut
returns-else-is_inner-clause-cut c =
    cut_before c.args.most c.args.text.now c.loop-at.at c.loop-at.invariant.up_to (omega arith) (inr (sym c.is_inner.ensures ∙ c.if-is_inner.false)) c.loop-at.invariant.goes_on

pub returns-after-loop-at-clause-cut : goal.returns-after-loop-at-clause-cut
returns-after-loop-at-clause-cut c =
    cut_before c.args.most c.args.text.now c.loop-at.at c.loop-at.invariant.up_to (omega arith) (inl (omega arith)) c.loop-at.invariant.goes_on
