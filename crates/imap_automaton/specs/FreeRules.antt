-- Text with literals.
use Rattle.std.specs.Prelude.{ℕ, ◌-◌, ◌&&◌, nat_lt, nat_le, ◌==◌, if◌then◌else◌}
use Rattle.imap_keywords.specs.declared.count.Pending.{Pending}
use Rattle.imap_keywords.specs.declared.count.Pending.TheVariants as pending
use Rattle.imap_keywords.specs.declared.phrase.Phrase.TheVariants as phrase
use Rattle.imap_automaton.specs.declared.sym.Line.TheVariants as line
use Rattle.imap_automaton.specs.declared.sym.Free.{Free}
use Rattle.imap_automaton.specs.declared.sym.Free.TheVariants as free
use Rattle.imap_automaton.specs.declared.sym.Sym.TheVariants as sym
use Rattle.imap_automaton.specs.declared.sym.Sym.{Sym}
use Rattle.pushdown.specs.declared.moves.Move.{Move}
use Rattle.pushdown.specs.declared.moves.Move.TheVariants as move
use Rattle.imap_keywords.specs.Counts.{pend}
use Rattle.imap_types.specs.Octets.{is_text}

-- what the end of a line is: a literal's where a count stands before it
abbrev pub free_end : Pending → Move Sym
free_end (pending.Closed v) = if nat_le v 50000000 then move.Two (sym.Free (free.Break v)) (sym.Free (free.Text pending.Nothing)) else move.Fail
free_end _ = move.One (sym.Line (line.Fixed phrase.Crlf 1))

abbrev pub text_rule : Pending → ℕ → Move Sym
text_rule s c = if c == 13 then free_end s else if is_text c then move.One (sym.Free (free.Text (pend s c))) else move.Fail

abbrev pub free_rule : Free → ℕ → Move Sym
free_rule (free.Text s) c = text_rule s c
free_rule (free.Break n) c = if c == 10 then (if n == 0 then move.End else move.One (sym.Free (free.Octets n))) else move.Fail
free_rule (free.Octets n) c =
    if nat_le 256 c && nat_lt c 512 && nat_lt 0 n then (if n == 1 then move.End else move.One (sym.Free (free.Octets (n - 1)))) else move.Fail
