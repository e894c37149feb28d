use Rattle.std.proofs.Common.{get_or, refl, sym, ◌∙◌, arith}
use Rattle.imap_automaton.specs.declared.sym.Names.TheVariants as names
use Rattle.imap_automaton.specs.declared.sym.Sym.TheVariants as sym
use Rattle.imap_automaton.specs.Responses.{responses}
use Rattle.pushdown.proofs.Leading.{runs_more}
use Rattle.imap_automaton.proofs.RunLemmas.{atom_stays}
use Rattle.imap_automaton.proofs.runs.atom_run.Goals as goal

pub loop-i-preserved : goal.loop-i-preserved
loop-i-preserved c =
    let atom = sym.Names names.AtomRest in
    let octet = get_or c.args.octets.now c.loop-i.i 0 in
    runs_more responses atom atom atom c.args.octets.now c.loop-i.i octet (omega arith) refl c.loop-i.invariant (atom_stays octet (sym c.is_atom.ensures ∙ c.if-not-is_atom.false))
