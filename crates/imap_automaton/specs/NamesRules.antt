-- Names in brackets.
use Rattle.std.specs.Prelude.{ℕ, ◌==◌, if◌then◌else◌}
use Rattle.imap_automaton.specs.declared.sym.Names.{Names}
use Rattle.imap_automaton.specs.declared.sym.Names.TheVariants as names
use Rattle.imap_automaton.specs.declared.sym.Sym.TheVariants as sym
use Rattle.imap_automaton.specs.declared.sym.Sym.{Sym}
use Rattle.pushdown.specs.declared.moves.Move.{Move}
use Rattle.pushdown.specs.declared.moves.Move.TheVariants as move
use Rattle.imap_types.specs.Octets.{is_atom}

abbrev pub names_rule : Names → ℕ → Move Sym
names_rule names.Open c = if c == 40 then move.One (sym.Names names.First) else move.Fail
names_rule names.First c =
    if c == 41 then move.End
    else if c == 92 then move.Two (sym.Names names.Atom) (sym.Names names.More)
    else if is_atom c then move.Two (sym.Names names.AtomRest) (sym.Names names.More) else move.Fail
names_rule names.More c =
    if c == 32 then move.Two (sym.Names names.Name) (sym.Names names.More)
    else if c == 41 then move.End else move.Fail
names_rule names.Name c =
    if c == 92 then move.One (sym.Names names.Atom)
    else if is_atom c then move.One (sym.Names names.AtomRest) else move.Fail
names_rule names.Atom c = if is_atom c then move.One (sym.Names names.AtomRest) else move.Fail
names_rule names.AtomRest c = if is_atom c then move.One (sym.Names names.AtomRest) else move.Yield
