-- Mail whose places are left.
use Rattle.std.specs.Prelude.{Ok, Err}
use Rattle.mail_state.specs.History.{HasRoom}
use Rattle.gate_calls.specs.Mailings.{Mailing}

-- no place of it has passed the last one
abbrev pub HasPlaces : Mailing → Type 0
HasPlaces (Ok h) = HasRoom h
HasPlaces (Err e) = Unit {0}
