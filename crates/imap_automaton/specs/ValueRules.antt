-- Values, whose brackets are counted.
use Rattle.std.specs.Prelude.{ℕ, ◌+◌, ◌-◌, nat_lt, ◌==◌, if◌then◌else◌}
use Rattle.imap_automaton.specs.declared.sym.Value.{Value}
use Rattle.imap_automaton.specs.declared.sym.Value.TheVariants as value
use Rattle.imap_automaton.specs.declared.sym.Sym.TheVariants as sym
use Rattle.imap_automaton.specs.declared.sym.Sym.{Sym}
use Rattle.pushdown.specs.declared.moves.Move.{Move}
use Rattle.pushdown.specs.declared.moves.Move.TheVariants as move
use Rattle.imap_automaton.specs.StringRules.{flat_start, alone, before}

-- a value in a bracket
abbrev pub inner_rule : ℕ → ℕ → Move Sym
inner_rule within c =
    if c == 40 then (if nat_lt within 63 then move.One (sym.Value (value.First (within + 1))) else move.Fail)
    else before (sym.Value (value.More within)) (flat_start c)

-- after the closing bracket
abbrev pub closes : ℕ → Move Sym
closes within = if within == 0 then move.End else move.One (sym.Value (value.More (within - 1)))

abbrev pub value_rule : Value → ℕ → Move Sym
value_rule value.Start c = if c == 40 then move.One (sym.Value (value.First 0)) else alone (flat_start c)
value_rule (value.First within) c = if c == 41 then closes within else inner_rule within c
value_rule (value.Next within) c = inner_rule within c
value_rule (value.More within) c =
    if c == 32 then move.One (sym.Value (value.Next within))
    else if c == 41 then closes within else move.Fail
