use Rattle.std.proofs.Common.{◌≡◌, true, take}
use Rattle.imap_automaton.specs.declared.sym.Item.TheVariants as item
use Rattle.imap_automaton.specs.declared.sym.Sym.TheVariants as sym
use Rattle.imap_automaton.specs.Fits.{SymFits}
use Rattle.imap_automaton.specs.Responses.{responses}
use Rattle.pushdown.specs.Run.{LeadsTo}
use Rattle.imap_automaton.proofs.runs.long_run.Given as goal

abbrev pub invariant-loop-i : goal.invariant-loop-i
invariant-loop-i l = record {
  fits : SymFits (sym.Item (item.Long l.so_far l.length)) ≡ true;
  run : LeadsTo responses (sym.Item (item.Long l.value l.digits)) (take l.i l.octets) (sym.Item (item.Long l.so_far l.length));
}
