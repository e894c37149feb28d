-- What reading one response adds.
use Rattle.std.specs.Prelude.{◌≡◌, ◌⊎◌, ◌<◌, ◌++◌, ◌+◌, ℕ, Bool, true, false, List, [], length, Result, Ok, Err}
use Rattle.gate_world.specs.declared.event.Event.{Event}
use Rattle.gate_world.specs.Octets.{Talk}
use Rattle.imap_types.specs.declared.response.Response.{Response}
use Rattle.imap_types.specs.Spells.{IsSpelling}
use Rattle.imap_grammar.specs.Scan.{ScanOf}
use Rattle.imap_grammar.specs.declared.answer.Scan.TheVariants as scan
use Rattle.imap_exchange.specs.declared.link_end.LinkEnd.{LinkEnd}
use Rattle.imap_exchange.specs.declared.link_end.LinkEnd.TheVariants as end
use Rattle.imap_exchange.specs.declared.link_end.TheConstants.{MAX_EXCHANGE_OCTETS, MAX_LIFE_OCTETS}
use Rattle.imap_exchange.specs.Received.{Octets}
use Rattle.imap_exchange.specs.Needed.{ReadsWhile, NeedsMore}
use Rattle.imap_exchange.specs.Answering.{end_unless}

-- too much stands there, of an exchange that began once n octets were given
abbrev pub IsOver : ℕ → ℕ → Type 0
IsOver begun given = (MAX_EXCHANGE_OCTETS + begun < given) ⊎ (MAX_LIFE_OCTETS < given)

-- there is room for more, where the link was up
abbrev pub HasRoom : Bool → ℕ → ℕ → Type 0
HasRoom true begun given = IsOver begun given → ⊥
HasRoom false begun given = Unit {0}

-- Further octets of a response are awaited: none is whole yet, and there is room for more.
pub record AwaitsResponse (begun : ℕ) (before : Octets) (gave took : List ℕ) : Type 0 where
  pub more : NeedsMore (before.octets ++ gave)
  pub room : IsOver begun (before.given + length gave) → ⊥

-- what was read of these octets, over a link that was up or not
abbrev pub ReadsOf : ℕ → Bool → Octets → List ℕ → Octets → Result Response LinkEnd → Type 0
ReadsOf begun was before gave after (Ok response) =
    (text : List ℕ) × IsSpelling response text × (before.octets ++ gave ≡ text ++ after.octets) × (after.given ≡ before.given + length gave)
ReadsOf begun was before gave after (Err end.Lost) = ScanOf (before.octets ++ gave) scan.NeedMore × HasRoom was begun (before.given + length gave)
ReadsOf begun was before gave after (Err end.TooMuch) = ScanOf (before.octets ++ gave) scan.NeedMore × IsOver begun (before.given + length gave) × (was ≡ true)
ReadsOf begun was before gave after (Err (end.Bad at)) =
    (place : ℕ) × ScanOf (before.octets ++ gave) (scan.Bad place) × (at + length (before.octets ++ gave) ≡ before.given + length gave)
    × (after.octets ≡ before.octets ++ gave)
ReadsOf begun was before gave after (Err end.Memory) = Unit {0}
ReadsOf begun was before gave after (Err _) = ⊥

-- how the link's end stands after a talk: nothing is said over a link that was down
abbrev pub EndsTalk : Bool → Bool → List Event → List Event → Type 0
EndsTalk true up talk events = events ≡ talk ++ end_unless up
EndsTalk false up talk events = (events ≡ []) × (talk ≡ []) × (up ≡ false)

-- The next response: of the link where it was up, else of what is held alone. Nothing is read once a response is whole or too much
-- stands there.
pub record ReadsResponse (begun : ℕ) (was up : Bool) (before after : Octets) (result : Result Response LinkEnd) (events : List Event) : Type 0 where
  pub talk : List Event
  pub gave : List ℕ
  pub ended : EndsTalk was up talk events
  pub said : Talk gave [] talk
  pub needed : ReadsWhile (AwaitsResponse begun before) talk
  pub reads : ReadsOf begun was before gave after result
