-- Octets of a response that its client has not taken yet.
use Rattle.std.specs.Prelude.{◌+◌, ◌-◌, ◌++◌, ℕ, List, [], length, drop, min}
use Rattle.client_streams.specs.Kept.{Kept}
use Rattle.client_streams.specs.declared.send_buffer.TheConstants.{MAX_KEPT_OCTETS}

abbrev pub nothing_kept : Kept
nothing_kept = record { unsent = []; stored = 0 }

-- it has taken so many more, from the front
abbrev pub sent_more : ℕ → Kept → Kept
sent_more count kept = record kept { unsent = drop count kept.unsent }

-- these are put behind what stands
abbrev pub kept_more : List ℕ → Kept → Kept
kept_more octets kept = record { unsent = kept.unsent ++ octets; stored = kept.stored + length octets }

-- for how many of these there is room
abbrev pub fitting : Kept → List ℕ → ℕ
fitting kept octets = min (length octets) (MAX_KEPT_OCTETS - kept.stored)
