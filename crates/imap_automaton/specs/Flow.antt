-- Which symbol may end before an octet, which begins with one that ends those, how many may stand on a stack, and what is
-- left of literals.
use Rattle.std.specs.Prelude.{ℕ, zero, Bool, true, false, ◌||◌, ◌==◌}
use Rattle.imap_keywords.specs.declared.key.WordPlace.TheVariants as place
use Rattle.imap_keywords.specs.declared.phrase.Phrase.TheVariants as phrase
use Rattle.imap_automaton.specs.declared.sym.Line.TheVariants as line
use Rattle.imap_automaton.specs.declared.sym.Free.TheVariants as free
use Rattle.imap_automaton.specs.declared.sym.Item.TheVariants as item
use Rattle.imap_automaton.specs.declared.sym.Names.TheVariants as names
use Rattle.imap_automaton.specs.declared.sym.Set.TheVariants as set
use Rattle.imap_automaton.specs.declared.sym.Str.TheVariants as str
use Rattle.imap_automaton.specs.declared.sym.Value.TheVariants as value
use Rattle.imap_automaton.specs.declared.sym.Folder.TheVariants as folder
use Rattle.imap_automaton.specs.declared.sym.Sym.{Sym}
use Rattle.imap_automaton.specs.declared.sym.Sym.TheVariants as sym

-- the last octets may be followed by nothing but a space, a closing bracket or a line's end
abbrev pub ends_open : Sym → Bool
ends_open (sym.Word place.Item key at) = true
ends_open (sym.Item (item.Number value digits)) = true
ends_open (sym.Item (item.Long value digits)) = true
ends_open (sym.Names names.Name) = true
ends_open (sym.Names names.Atom) = true
ends_open (sym.Names names.AtomRest) = true
ends_open (sym.Str str.AString) = true
ends_open (sym.Str str.AtomTilde) = true
ends_open (sym.Value value.Start) = true
ends_open (sym.ItemName s) = true
ends_open _ = false

-- begins with a space, a closing bracket or a line's end
abbrev pub begins : Sym → Bool
begins (sym.Item item.More) = true
begins (sym.Names names.More) = true
begins (sym.Line (line.Fixed phrase.Close zero)) = true
begins (sym.Line (line.Fixed phrase.Crlf zero)) = true
begins (sym.Value (value.More within)) = true
begins (sym.Folder folder.ListEnd) = true
begins (sym.Folder folder.Counts) = true
begins (sym.Folder folder.MoreCounts) = true
begins _ = false

abbrev pub stops : ℕ → Bool
stops c = c == 32 || c == 41 || c == 13

-- how many symbols there may be while a symbol is read, itself among them
abbrev pub need : Sym → ℕ
need (sym.Line line.Start) = 5
need (sym.Line (line.Tag n)) = 4
need (sym.Line line.Untagged) = 4
need (sym.Line (line.Sequence value digits)) = 4
need (sym.Word place.Item key at) = 2
need (sym.Word place.Month key at) = 1
need (sym.Word p key at) = 4
need (sym.Free (free.Text s)) = 2
need (sym.Item item.Open) = 3
need (sym.Item item.More) = 3
need (sym.Item item.LongOpen) = 2
need (sym.Names names.Open) = 2
need (sym.Names names.First) = 2
need (sym.Names names.More) = 2
need (sym.Set set.Open) = 2
need (sym.Value s) = 2
need (sym.ItemName s) = 2
need (sym.Folder folder.Attributes) = 3
need (sym.Folder folder.Name) = 3
need (sym.Folder folder.ListEnd) = 3
need (sym.Folder folder.Counts) = 2
need (sym.Folder folder.CountsOpen) = 2
need (sym.Folder folder.FirstCount) = 2
need (sym.Folder folder.Count) = 2
need (sym.Folder folder.CountWord) = 2
need (sym.Folder folder.MoreCounts) = 2
need _ = 1

-- how many octets of its literal a symbol still reads
abbrev pub sym_left : Sym → ℕ
sym_left (sym.Free (free.Octets n)) = n
sym_left _ = 0

-- may end before an octet
abbrev pub may_yield : Sym → Bool
may_yield (sym.Item (item.Number value digits)) = true
may_yield (sym.Item (item.Long value digits)) = true
may_yield (sym.Names names.AtomRest) = true
may_yield (sym.Str str.AtomTilde) = true
may_yield _ = false

-- the symbol is within a literal
abbrev pub is_octets : Sym → Bool
is_octets (sym.Free (free.Octets n)) = true
is_octets _ = false

-- within a literal, with as many octets still to be read
abbrev pub with_left : Sym → ℕ → Sym
with_left (sym.Free (free.Octets n)) k = sym.Free (free.Octets k)
with_left s k = s
