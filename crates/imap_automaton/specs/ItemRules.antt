-- The items of a FETCH.
use Rattle.std.specs.Prelude.{ℕ, ◌+◌, ◌-◌, ◌*◌, not, ◌&&◌, nat_lt, nat_le, ◌==◌, if◌then◌else◌}
use Rattle.imap_keywords.specs.declared.phrase.Phrase.TheVariants as phrase
use Rattle.imap_automaton.specs.declared.sym.Line.TheVariants as line
use Rattle.imap_keywords.specs.declared.key.WordPlace.TheVariants as place
use Rattle.imap_automaton.specs.declared.sym.Item.{Item}
use Rattle.imap_automaton.specs.declared.sym.Item.TheVariants as item
use Rattle.imap_automaton.specs.declared.sym.Sym.{Sym}
use Rattle.imap_automaton.specs.declared.sym.Sym.TheVariants as sym
use Rattle.pushdown.specs.declared.moves.Move.{Move}
use Rattle.pushdown.specs.declared.moves.Move.TheVariants as move
use Rattle.imap_keywords.specs.Keys.{first_key}
use Rattle.imap_types.specs.Octets.{is_digit}

abbrev pub item_start : Sym
item_start = sym.Word place.Item (first_key place.Item) 0

-- ten zeros are the front of no number other than 0
abbrev pub number_rule : ℕ → ℕ → ℕ → Move Sym
number_rule value digits c =
    if is_digit c then
    (if nat_lt digits 10 && nat_le (10 * value + (c - 48)) 4294967295 && not (10 * value + (c - 48) == 0 && digits == 9)
    then move.One (sym.Item (item.Number (10 * value + (c - 48)) (digits + 1))) else move.Fail)
    else if nat_lt 0 value then move.Yield else move.Fail

abbrev pub long_rule : ℕ → ℕ → ℕ → Move Sym
long_rule value digits c =
    if is_digit c then
    (if nat_lt digits 19 && nat_le (10 * value + (c - 48)) 9223372036854775807
    then move.One (sym.Item (item.Long (10 * value + (c - 48)) (digits + 1))) else move.Fail)
    else if nat_lt 0 digits then move.Yield else move.Fail

abbrev pub item_rule : Item → ℕ → Move Sym
item_rule item.Open c = if c == 40 then move.Two item_start (sym.Item item.More) else move.Fail
item_rule item.More c =
    if c == 32 then move.Two item_start (sym.Item item.More)
    else if c == 41 then move.One (sym.Line (line.Fixed phrase.Crlf 0)) else move.Fail
item_rule (item.Number value digits) c = number_rule value digits c
item_rule item.LongOpen c = if c == 40 then move.Two (sym.Item (item.Long 0 0)) (sym.Line (line.Fixed phrase.Close 0)) else move.Fail
item_rule (item.Long value digits) c = long_rule value digits c
