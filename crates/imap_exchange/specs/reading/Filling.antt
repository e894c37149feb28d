-- What reading octets adds.
use Rattle.std.specs.Prelude.{◌≡◌, ◌++◌, ◌+◌, ℕ, Bool, true, false, List, [], ◌∷◌, length, Result, Ok, Err}
use Rattle.gate_world.specs.declared.event.Event.{Event}
use Rattle.gate_world.specs.declared.event.Event.TheVariants.{LinkEnded, StoreGave}
use Rattle.gate_world.specs.Octets.{Talk}
use Rattle.imap_types.specs.declared.response.Response.{Response}
use Rattle.imap_exchange.specs.declared.link_end.LinkEnd.{LinkEnd}
use Rattle.imap_exchange.specs.declared.link_end.LinkEnd.TheVariants as end
use Rattle.imap_exchange.specs.Received.{Octets}
use Rattle.imap_exchange.specs.Needed.{ReadsWhile}
use Rattle.imap_exchange.specs.Responses.{IsOver, AwaitsResponse}

-- these octets stand after those that weren't read yet
pub record Grows (before after : Octets) (gave : List ℕ) : Type 0 where
  pub octets : after.octets ≡ before.octets ++ gave
  pub given : after.given ≡ before.given + length gave

-- By these events the store gave these octets, each time while further ones were awaited.
pub record GainsOctets (begun : ℕ) (before after : Octets) (gave : List ℕ) (events : List Event) : Type 0 where
  pub said : Talk gave [] events
  pub needed : ReadsWhile (AwaitsResponse begun before) events
  pub grows : Grows before after gave

-- the store gave octets; or the link ended; or too much was given; or nothing was asked
abbrev pub Fills : ℕ → Octets → Octets → Result (Unit {0}) LinkEnd → List Event → Type 0
Fills begun before after (Ok _) events = (gave : List ℕ) × (events ≡ StoreGave gave ∷ []) × Grows before after gave × (IsOver begun before.given → ⊥)
Fills begun before after (Err end.Lost) events = (events ≡ LinkEnded ∷ []) × (after ≡ before) × (IsOver begun before.given → ⊥)
Fills begun before after (Err end.TooMuch) events = (events ≡ []) × (after ≡ before) × IsOver begun before.given
Fills begun before after (Err end.Memory) events = (events ≡ []) × (after ≡ before)
Fills begun before after (Err _) events = ⊥

-- the link is up unless it was lost
abbrev pub is_up_at : LinkEnd → Bool
is_up_at end.Lost = false
is_up_at _ = true

abbrev pub is_up_after : Result Response LinkEnd → Bool
is_up_after (Ok _) = true
is_up_after (Err e) = is_up_at e
