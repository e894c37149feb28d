-- Dates.
use Rattle.std.specs.Prelude.{ℕ, ◌+◌, Bool, ◌&&◌, ◌||◌, nat_lt, ◌==◌, if◌then◌else◌}
use Rattle.imap_keywords.specs.declared.key.WordPlace.TheVariants as place
use Rattle.imap_automaton.specs.declared.sym.Date.{Date}
use Rattle.imap_automaton.specs.declared.sym.Date.TheVariants as date
use Rattle.imap_automaton.specs.declared.sym.Sym.{Sym}
use Rattle.imap_automaton.specs.declared.sym.Sym.TheVariants as sym
use Rattle.pushdown.specs.declared.moves.Move.{Move}
use Rattle.pushdown.specs.declared.moves.Move.TheVariants as move
use Rattle.imap_keywords.specs.Keys.{first_key}
use Rattle.imap_types.specs.Octets.{is_digit}

abbrev pub month_start : Sym
month_start = sym.Word place.Month (first_key place.Month) 0

-- the octet may stand at a place between the quote and the month: `dd-`
abbrev pub day_octet : ℕ → ℕ → Bool
day_octet at c = if at == 0 then c == 32 || is_digit c else if at == 1 then is_digit c else c == 45

-- the octet may stand at a place after the month: `-yyyy hh:mm:ss +hhmm"`
abbrev pub time_octet : ℕ → ℕ → Bool
time_octet at c =
    if at == 0 then c == 45
    else if at == 5 || at == 14 then c == 32
    else if at == 8 || at == 11 then c == 58
    else if at == 15 then c == 43 || c == 45
    else if at == 20 then c == 34
    else is_digit c

abbrev pub day_rule : ℕ → ℕ → Move Sym
day_rule at c =
    if nat_lt at 3 && day_octet at c
    then (if at + 1 == 3 then move.One month_start else move.One (sym.Date (date.Day (at + 1)))) else move.Fail

abbrev pub time_rule : ℕ → ℕ → Move Sym
time_rule at c =
    if nat_lt at 21 && time_octet at c
    then (if at + 1 == 21 then move.End else move.One (sym.Date (date.Time (at + 1)))) else move.Fail

abbrev pub date_rule : Date → ℕ → Move Sym
date_rule date.Open c = if c == 34 then move.One (sym.Date (date.Day 0)) else move.Fail
date_rule (date.Day at) c = day_rule at c
date_rule (date.Time at) c = time_rule at c
