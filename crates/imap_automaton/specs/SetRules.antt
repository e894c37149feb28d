-- Words and sets of UIDs up to a line's end.
use Rattle.std.specs.Prelude.{ℕ, ◌+◌, ◌-◌, ◌*◌, Bool, true, false, not, ◌&&◌, nat_lt, nat_le, ◌==◌, if◌then◌else◌}
use Rattle.imap_keywords.specs.declared.phrase.Phrase.TheVariants as phrase
use Rattle.imap_automaton.specs.declared.sym.Line.TheVariants as line
use Rattle.imap_automaton.specs.declared.sym.Words.{Words}
use Rattle.imap_automaton.specs.declared.sym.Words.TheVariants as words
use Rattle.imap_automaton.specs.declared.sym.Set.{Set}
use Rattle.imap_automaton.specs.declared.sym.Set.TheVariants as set
use Rattle.imap_automaton.specs.declared.sym.Sym.TheVariants as sym
use Rattle.imap_automaton.specs.declared.sym.Sym.{Sym}
use Rattle.pushdown.specs.declared.moves.Move.{Move}
use Rattle.pushdown.specs.declared.moves.Move.TheVariants as move
use Rattle.imap_types.specs.Octets.{is_digit, is_word}

-- after a word
abbrev pub words_more : ℕ → Move Sym
words_more c =
    if c == 32 then move.One (sym.Words words.First)
    else if c == 13 then move.One (sym.Line (line.Fixed phrase.Crlf 1)) else move.Fail

abbrev pub words_rule : Words → ℕ → Move Sym
words_rule words.More c = words_more c
words_rule words.First c = if is_word c then move.One (sym.Words words.Rest) else move.Fail
words_rule words.Rest c = if is_word c then move.One (sym.Words words.Rest) else words_more c

-- after a number, the second of its range or not
abbrev pub set_ends : Bool → ℕ → Move Sym
set_ends second c =
    if c == 13 then move.One (sym.Line (line.Fixed phrase.Crlf 1))
    else if c == 44 then move.One (sym.Set (set.Number 0 0 false))
    else if c == 58 && not second then move.One (sym.Set (set.Number 0 0 true)) else move.Fail

-- ten zeros are the front of no number other than 0
abbrev pub set_number : ℕ → ℕ → Bool → ℕ → Move Sym
set_number value digits second c =
    if is_digit c then
    (if nat_lt digits 10 && nat_le (10 * value + (c - 48)) 4294967295 && not (10 * value + (c - 48) == 0 && digits == 9)
    then move.One (sym.Set (set.Number (10 * value + (c - 48)) (digits + 1) second)) else move.Fail)
    else if nat_lt 0 value then set_ends second c else move.Fail

abbrev pub set_rule : Set → ℕ → Move Sym
set_rule set.Open c =
    if c == 40 then move.Two (sym.Line (line.Folded phrase.Earlier 1)) (sym.Set (set.Number 0 0 false)) else set_number 0 0 false c
set_rule (set.Number value digits second) c = set_number value digits second c
