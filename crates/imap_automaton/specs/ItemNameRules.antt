-- The names of other items.
use Rattle.std.specs.Prelude.{ℕ, Bool, true, false, ◌&&◌, ◌||◌, ◌==◌, if◌then◌else◌, List, [], ◌∷◌}
use Rattle.imap_automaton.specs.declared.sym.Str.TheVariants as str
use Rattle.imap_automaton.specs.declared.sym.Value.TheVariants as value
use Rattle.imap_automaton.specs.declared.sym.ItemName.{ItemName}
use Rattle.imap_automaton.specs.declared.sym.ItemName.TheVariants as name
use Rattle.imap_automaton.specs.declared.sym.Sym.TheVariants as sym
use Rattle.imap_automaton.specs.declared.sym.Sym.{Sym}
use Rattle.pushdown.specs.declared.moves.Move.{Move}
use Rattle.pushdown.specs.declared.moves.Move.TheVariants as move
use Rattle.imap_types.specs.Octets.{is_digit, is_atom}
use Rattle.imap_types.specs.ItemNames.{is_inner}

-- a name may end here
abbrev pub may_end : ItemName → Bool
may_end name.Plain = true
may_end name.After = true
may_end name.End = true
may_end _ = false

abbrev pub in_section : ItemName → Bool
in_section name.Section = true
in_section _ = false

-- the octet goes on with the name, by itself
abbrev pub takes : ItemName → ℕ → Bool
takes name.Plain c = is_atom c
takes name.Section c = c == 93 || is_inner c
takes name.After c = c == 60
takes name.Part c = is_digit c
takes name.Digits c = c == 62 || is_digit c
takes name.End c = false

abbrev pub next_name : ItemName → ℕ → ItemName
next_name name.Plain c = if c == 91 then name.Section else name.Plain
next_name name.Section c = if c == 93 then name.After else name.Section
next_name name.After c = name.Part
next_name name.Part c = name.Digits
next_name name.Digits c = if c == 62 then name.End else name.Digits
next_name name.End c = name.End

-- after octets that go on with it
abbrev pub name_from : ItemName → List ℕ → ItemName
name_from s [] = s
name_from s (c ∷ t) = name_from (next_name s c) t

abbrev pub item_name_rule : ItemName → ℕ → Move Sym
item_name_rule s c =
    if c == 32 && may_end s then move.One (sym.Value value.Start)
    else if c == 34 && in_section s then move.Two (sym.Str str.Quoted) (sym.ItemName name.Section)
    else if takes s c then move.One (sym.ItemName (next_name s c)) else move.Fail
