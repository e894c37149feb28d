-- Strings.
use Rattle.std.specs.Prelude.{ℕ, ◌+◌, ◌-◌, ◌*◌, ◌&&◌, ◌||◌, nat_lt, nat_le, ◌==◌, if◌then◌else◌, Option, Some, None}
use Rattle.imap_keywords.specs.declared.phrase.Phrase.TheVariants as phrase
use Rattle.imap_automaton.specs.declared.sym.Line.TheVariants as line
use Rattle.imap_automaton.specs.declared.sym.Free.TheVariants as free
use Rattle.imap_automaton.specs.declared.sym.Names.TheVariants as names
use Rattle.imap_automaton.specs.declared.sym.Str.{Str}
use Rattle.imap_automaton.specs.declared.sym.Str.TheVariants as str
use Rattle.imap_automaton.specs.declared.sym.Sym.{Sym}
use Rattle.imap_automaton.specs.declared.sym.Sym.TheVariants as sym
use Rattle.pushdown.specs.declared.moves.Move.{Move}
use Rattle.pushdown.specs.declared.moves.Move.TheVariants as move
use Rattle.imap_types.specs.Octets.{is_digit, is_text, is_atom, lower}

-- what is read after the first octet of an atom, a quoted text or a literal
abbrev pub flat_start : ℕ → Option Sym
flat_start c =
    if c == 34 then Some (sym.Str str.Quoted)
    else if c == 123 then Some (sym.Str (str.Count 0 0))
    else if c == 126 then Some (sym.Str str.AtomTilde)
    else if is_atom c then Some (sym.Names names.AtomRest) else None

abbrev pub alone : Option Sym → Move Sym
alone None = move.Fail
alone (Some s) = move.One s

abbrev pub before : Sym → Option Sym → Move Sym
before later None = move.Fail
before later (Some s) = move.Two s later

abbrev pub nstring_rule : ℕ → Move Sym
nstring_rule c =
    if c == 34 then move.One (sym.Str str.Quoted)
    else if c == 123 then move.One (sym.Str (str.Count 0 0))
    else if c == 126 then move.One (sym.Str str.Tilde)
    else if lower c == 110 then move.One (sym.Line (line.Folded phrase.Nil 1)) else move.Fail

abbrev pub count_rule : ℕ → ℕ → ℕ → Move Sym
count_rule value digits c =
    if is_digit c then
    (if nat_lt digits 8 && nat_le (10 * value + (c - 48)) 50000000 then move.One (sym.Str (str.Count (10 * value + (c - 48)) (digits + 1))) else move.Fail)
    else if c == 125 && nat_lt 0 digits then move.One (sym.Str (str.Brace value)) else move.Fail

abbrev pub string_rule : Str → ℕ → Move Sym
string_rule str.NString c = nstring_rule c
string_rule str.AString c = alone (flat_start c)
string_rule str.Quoted c =
    if c == 34 then move.End
    else if c == 92 then move.One (sym.Str str.Escaped)
    else if is_text c then move.One (sym.Str str.Quoted) else move.Fail
string_rule str.Escaped c = if c == 34 || c == 92 then move.One (sym.Str str.Quoted) else move.Fail
string_rule str.Tilde c = if c == 123 then move.One (sym.Str (str.Count 0 0)) else move.Fail
string_rule str.AtomTilde c =
    if c == 123 then move.One (sym.Str (str.Count 0 0))
    else if is_atom c then move.One (sym.Names names.AtomRest) else move.Yield
string_rule (str.Count value digits) c = count_rule value digits c
string_rule (str.Brace n) c = if c == 13 then move.One (sym.Free (free.Break n)) else move.Fail
