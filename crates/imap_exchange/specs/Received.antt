-- What a store gave in one link life.
use Rattle.std.specs.Prelude.{ℕ, ◌+◌, ◌-◌, List, [], length}
use Rattle.gate_world.specs.declared.unread.TheConstants.{MAX_FILL_OCTETS}
use Rattle.imap_exchange.specs.declared.link_end.TheConstants.{MAX_LIFE_OCTETS}

-- the octets that aren't read yet, and how many were given in all
pub record Octets : Type 0 where
  pub octets : List ℕ
  pub given : ℕ

-- nothing is given yet
abbrev pub nothing_given : Octets
nothing_given = record { octets = []; given = 0 }

-- the last fill may go past the limit of a life
abbrev pub most_given : ℕ
most_given = MAX_LIFE_OCTETS + MAX_FILL_OCTETS

-- how many octets of the life can still be read
abbrev pub room_left : Octets → ℕ
room_left u = (most_given - u.given) + length u.octets
