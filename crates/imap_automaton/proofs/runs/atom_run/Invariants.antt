use Rattle.std.proofs.Common.{take}
use Rattle.imap_automaton.specs.declared.sym.Names.TheVariants as names
use Rattle.imap_automaton.specs.declared.sym.Sym.TheVariants as sym
use Rattle.imap_automaton.specs.Responses.{responses}
use Rattle.pushdown.specs.Run.{LeadsTo}
use Rattle.imap_automaton.proofs.runs.atom_run.Given as goal

abbrev pub invariant-loop-i : goal.invariant-loop-i
invariant-loop-i l = LeadsTo responses (sym.Names names.AtomRest) (take l.i l.octets) (sym.Names names.AtomRest)
