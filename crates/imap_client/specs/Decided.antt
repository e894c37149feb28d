-- Ends that octets decide.
use Rattle.std.specs.Prelude.{Result, Err}
use Rattle.imap_exchange.specs.declared.link_end.LinkEnd.{LinkEnd}
use Rattle.imap_exchange.specs.declared.link_end.LinkEnd.TheVariants as end

-- the store's octets decide this end: it is neither a lost link, nor more octets than may come, nor out of memory
abbrev pub IsDecided : Result (Unit {0}) LinkEnd → Type 0
IsDecided (Err end.Lost) = ⊥
IsDecided (Err end.TooMuch) = ⊥
IsDecided (Err end.Memory) = ⊥
IsDecided _ = Unit {0}
