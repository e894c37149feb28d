use Rattle.std.proofs.Common.{◌∙◌, sym, arith, eq-eqb, ne_eqb}
use Rattle.told_folder.proofs.HeaderLemmas.{lines_passed, lines_end}
use Rattle.told_changes.proofs.headers.whole_lines_len.Goals as goal

pub loop-end-preserved : goal.loop-end-preserved
loop-end-preserved c = record {
  within = omega arith;
  lines = sym (lines_passed c.args.octets.now c.loop-end.end (omega arith) c.loop-end.invariant.within (ne_eqb _ _ c.if-octets-end-ne-LF.true)) ∙ c.loop-end.invariant.lines;
}

pub returns-else-octets-end-ne-LF-clause-lines : goal.returns-else-octets-end-ne-LF-clause-lines
returns-else-octets-end-ne-LF-clause-lines c =
    sym (lines_end c.args.octets.now c.loop-end.end (omega arith) c.loop-end.invariant.within (eq-eqb _ _ c.if-octets-end-ne-LF.false)) ∙ c.loop-end.invariant.lines
