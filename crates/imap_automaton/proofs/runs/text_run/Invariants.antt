use Rattle.std.proofs.Common.{take}
use Rattle.imap_automaton.specs.declared.sym.Line.TheVariants as line
use Rattle.imap_automaton.specs.declared.sym.Sym.TheVariants as sym
use Rattle.imap_automaton.specs.Responses.{responses}
use Rattle.pushdown.specs.Run.{LeadsTo}
use Rattle.imap_automaton.proofs.runs.text_run.Given as goal

abbrev pub invariant-loop-i : goal.invariant-loop-i
invariant-loop-i l = LeadsTo responses (sym.Line line.Text) (take l.i l.octets) (sym.Line line.Text)
