use Rattle.std.proofs.Common.{◌≡◌, ◌++◌, ℕ, Vec, Global, filter, map}
use Rattle.told_mail.specs.reading.Lines.{is_picked}
use Rattle.told_mail.specs.reading.Names.{names_in}
use Rattle.told_mail.proofs.new_names.add_names.Given as goal

abbrev pub invariant-loop-name : goal.invariant-loop-name
invariant-loop-name l = l.names.items ++ filter (is_picked l.numbers l.inbox) (map (λ (v : Vec ℕ Global). v.items) l.name-iterator)
    ≡ l.initial.names.items ++ filter (is_picked l.numbers l.inbox) (names_in l.lines)
