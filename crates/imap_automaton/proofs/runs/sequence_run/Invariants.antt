use Rattle.std.proofs.Common.{◌≡◌, true, take}
use Rattle.imap_automaton.specs.declared.sym.Line.TheVariants as line
use Rattle.imap_automaton.specs.declared.sym.Sym.TheVariants as sym
use Rattle.imap_automaton.specs.Fits.{SymFits}
use Rattle.imap_automaton.specs.Responses.{responses}
use Rattle.pushdown.specs.Run.{LeadsTo}
use Rattle.imap_automaton.proofs.runs.sequence_run.Given as goal

abbrev pub invariant-loop-i : goal.invariant-loop-i
invariant-loop-i l = record {
  fits : SymFits (sym.Line (line.Sequence l.so_far l.length)) ≡ true;
  run : LeadsTo responses (sym.Line (line.Sequence l.value l.digits)) (take l.i l.octets) (sym.Line (line.Sequence l.so_far l.length));
}
