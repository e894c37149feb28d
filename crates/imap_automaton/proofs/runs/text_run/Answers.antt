use Rattle.std.proofs.Common.{get_or, refl, sym, ◌∙◌, arith}
use Rattle.imap_automaton.specs.declared.sym.Line.TheVariants as line
use Rattle.imap_automaton.specs.declared.sym.Sym.TheVariants as sym
use Rattle.imap_automaton.specs.Responses.{responses}
use Rattle.pushdown.proofs.Leading.{runs_more}
use Rattle.imap_automaton.proofs.RunLemmas.{text_stays}
use Rattle.imap_automaton.proofs.runs.text_run.Goals as goal

pub loop-i-preserved : goal.loop-i-preserved
loop-i-preserved c =
    let text = sym.Line line.Text in
    let octet = get_or c.args.octets.now c.loop-i.i 0 in
    runs_more responses text text text c.args.octets.now c.loop-i.i octet (omega arith) refl c.loop-i.invariant (text_stays octet (sym c.is_text.ensures ∙ c.if-not-is_text.false))
