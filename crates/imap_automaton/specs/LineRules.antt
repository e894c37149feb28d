-- Lines.
use Rattle.std.specs.Prelude.{ℕ, ◌+◌, ◌-◌, ◌*◌, ◌&&◌, nat_lt, nat_le, ◌==◌, if◌then◌else◌, length, get_or}
use Rattle.imap_keywords.specs.declared.phrase.Phrase.{Phrase}
use Rattle.imap_keywords.specs.declared.phrase.Phrase.TheVariants as phrase
use Rattle.imap_keywords.specs.declared.key.WordPlace.{WordPlace}
use Rattle.imap_keywords.specs.declared.key.WordPlace.TheVariants as place
use Rattle.imap_keywords.specs.declared.count.Pending.TheVariants as pending
use Rattle.imap_automaton.specs.declared.sym.Line.{Line}
use Rattle.imap_automaton.specs.declared.sym.Line.TheVariants as line
use Rattle.imap_automaton.specs.declared.sym.Sym.{Sym}
use Rattle.imap_automaton.specs.declared.sym.Sym.TheVariants as sym
use Rattle.pushdown.specs.declared.moves.Move.{Move}
use Rattle.pushdown.specs.declared.moves.Move.TheVariants as move
use Rattle.imap_keywords.specs.Keys.{first_key, phrase_text}
use Rattle.imap_automaton.specs.FreeRules.{text_rule}
use Rattle.imap_automaton.specs.WordRules.{word_rule}
use Rattle.imap_types.specs.Octets.{is_digit, is_alnum, is_text, lower}

abbrev pub word_start : WordPlace → Sym
word_start p = sym.Word p (first_key p) 0

-- a number goes on as one, up to ten digits and 2^32 - 1, or else is a word
abbrev pub sequence_rule : ℕ → ℕ → ℕ → Move Sym
sequence_rule value digits c =
    if is_digit c && nat_lt digits 10 && nat_le (10 * value + (c - 48)) 4294967295 then move.One (sym.Line (line.Sequence (10 * value + (c - 48)) (digits + 1)))
    else if c == 32 then move.One (word_start place.Numbered)
    else text_rule pending.Nothing c

abbrev pub fixed_rule : Phrase → ℕ → ℕ → Move Sym
fixed_rule p at c =
    if nat_lt at (length (phrase_text p)) && c == get_or (phrase_text p) at 0
    then (if at + 1 == length (phrase_text p) then move.End else move.One (sym.Line (line.Fixed p (at + 1)))) else move.Fail

abbrev pub folded_rule : Phrase → ℕ → ℕ → Move Sym
folded_rule p at c =
    if nat_lt at (length (phrase_text p)) && lower c == get_or (phrase_text p) at 0
    then (if at + 1 == length (phrase_text p) then move.End else move.One (sym.Line (line.Folded p (at + 1)))) else move.Fail

abbrev pub line_rule : Line → ℕ → Move Sym
line_rule line.Start c =
    if c == 42 then move.Two (sym.Line (line.Fixed phrase.Space 0)) (sym.Line line.Untagged)
    else if c == 43 then move.One (sym.Line line.Text)
    else if is_alnum c then move.One (sym.Line (line.Tag 1)) else move.Fail
line_rule (line.Tag n) c =
    if c == 32 then move.One (word_start place.Tagged)
    else if is_alnum c && nat_lt n 32 then move.One (sym.Line (line.Tag (n + 1))) else move.Fail
line_rule line.Untagged c =
    if is_digit c then move.One (sym.Line (line.Sequence (c - 48) 1)) else word_rule place.Plain (first_key place.Plain) 0 c
line_rule (line.Sequence value digits) c = sequence_rule value digits c
line_rule line.Text c =
    if c == 13 then move.One (sym.Line (line.Fixed phrase.Crlf 1))
    else if is_text c then move.One (sym.Line line.Text) else move.Fail
line_rule (line.Fixed p at) c = fixed_rule p at c
line_rule (line.Folded p at) c = folded_rule p at c
