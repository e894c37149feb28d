-- What the registers of a symbol keep.
use Rattle.std.specs.Prelude.{Bool, true, not, ◌&&◌, ◌||◌, nat_lt, nat_le, ◌==◌, length}
use Rattle.imap_keywords.specs.Counts.{PendFits}
use Rattle.imap_automaton.specs.declared.sym.Line.{Line}
use Rattle.imap_automaton.specs.declared.sym.Line.TheVariants as line
use Rattle.imap_automaton.specs.declared.sym.Free.{Free}
use Rattle.imap_automaton.specs.declared.sym.Free.TheVariants as free
use Rattle.imap_automaton.specs.declared.sym.Item.{Item}
use Rattle.imap_automaton.specs.declared.sym.Item.TheVariants as item
use Rattle.imap_automaton.specs.declared.sym.Date.{Date}
use Rattle.imap_automaton.specs.declared.sym.Date.TheVariants as date
use Rattle.imap_automaton.specs.declared.sym.Set.{Set}
use Rattle.imap_automaton.specs.declared.sym.Set.TheVariants as set
use Rattle.imap_automaton.specs.declared.sym.Str.{Str}
use Rattle.imap_automaton.specs.declared.sym.Str.TheVariants as str
use Rattle.imap_automaton.specs.declared.sym.Value.{Value}
use Rattle.imap_automaton.specs.declared.sym.Value.TheVariants as value
use Rattle.imap_automaton.specs.declared.sym.Sym.{Sym}
use Rattle.imap_automaton.specs.declared.sym.Sym.TheVariants as sym
use Rattle.imap_keywords.specs.Keys.{key_text, phrase_text, keys, is_among}

abbrev pub LineFits : Line → Bool
LineFits (line.Tag n) = nat_lt 0 n && nat_le n 32
LineFits (line.Sequence value digits) = nat_lt 0 digits && nat_le digits 10 && nat_le value 4294967295
LineFits (line.Fixed p at) = nat_lt at (length (phrase_text p))
LineFits (line.Folded p at) = nat_lt at (length (phrase_text p))
LineFits _ = true

abbrev pub FreeFits : Free → Bool
FreeFits (free.Text s) = PendFits s
FreeFits (free.Break n) = nat_le n 50000000
FreeFits (free.Octets n) = nat_lt 0 n && nat_le n 50000000

abbrev pub ItemFits : Item → Bool
ItemFits (item.Number value digits) = nat_le digits 10 && nat_le value 4294967295 && (nat_lt 0 digits || value == 0) && not (value == 0 && digits == 10)
ItemFits (item.Long value digits) = nat_le digits 19 && nat_le value 9223372036854775807 && (nat_lt 0 digits || value == 0)
ItemFits _ = true

abbrev pub DateFits : Date → Bool
DateFits date.Open = true
DateFits (date.Day at) = nat_lt at 3
DateFits (date.Time at) = nat_lt at 21

abbrev pub SetFits : Set → Bool
SetFits (set.Number value digits second) = ItemFits (item.Number value digits)
SetFits _ = true

abbrev pub StrFits : Str → Bool
StrFits (str.Count value digits) = nat_le digits 8 && nat_le value 50000000 && (nat_lt 0 digits || value == 0)
StrFits (str.Brace n) = nat_le n 50000000
StrFits _ = true

abbrev pub ValueFits : Value → Bool
ValueFits value.Start = true
ValueFits (value.First within) = nat_le within 63
ValueFits (value.Next within) = nat_le within 63
ValueFits (value.More within) = nat_le within 63

abbrev pub SymFits : Sym → Bool
SymFits (sym.Line s) = LineFits s
SymFits (sym.Word place key at) = nat_le at (length (key_text key)) && is_among key (keys place)
SymFits (sym.Free s) = FreeFits s
SymFits (sym.Item s) = ItemFits s
SymFits (sym.Names s) = true
SymFits (sym.Date s) = DateFits s
SymFits (sym.ItemName s) = true
SymFits (sym.Words s) = true
SymFits (sym.Set s) = SetFits s
SymFits (sym.Str s) = StrFits s
SymFits (sym.Value s) = ValueFits s
SymFits (sym.Folder s) = true
