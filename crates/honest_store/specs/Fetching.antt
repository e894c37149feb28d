-- What UID FETCH tells (RFC 9051 sections 6.4.5 and 6.4.9).
use Rattle.std.specs.Prelude.{◌⊎◌, ℕ, ◌<◌, ◌≤◌, min, max, List, Option, Some, None, All, IsSome}
use Rattle.std.specs.List.{Any}
use Rattle.imap_types.specs.declared.response.Response.{Response}
use Rattle.imap_types.specs.declared.response.FetchItems.{FetchItems}
use Rattle.honest_store.specs.StoreMail.{StoreMessage, StoreFolder}
use Rattle.honest_store.specs.Responses.{IsFetchOf}

-- `from:*` has the last message too, whatever its UID (RFC 9051 section 9, seq-range)
abbrev pub IsFromOn : ℕ → List StoreMessage → StoreMessage → Type 0
IsFromOn from ms m = (from ≤ m.uid) ⊎ All (λ other. other.uid ≤ m.uid) ms

-- a range has its ends in either order (RFC 9051 section 9, seq-range)
abbrev pub IsBetween : ℕ → ℕ → List StoreMessage → StoreMessage → Type 0
IsBetween from to ms m = (min from to ≤ m.uid) × (m.uid ≤ max from to)

-- all that a header fetch asks for and that is kept
pub record TellsHeader (items : FetchItems) : Type 0 where
  pub flags : IsSome items.flags
  pub date : IsSome items.date
  pub size : IsSome items.size
  pub header : IsSome items.header

-- A folder is selected, and each of its messages that is asked for is told of in one response, with all the items that are asked for.
abbrev pub TellsMessages : Option (List StoreMessage) → (List StoreMessage → StoreMessage → Type 0) → (FetchItems → Type 0) → List Response → Type 0
TellsMessages None IsAsked Tells rs = ⊥
TellsMessages (Some ms) IsAsked Tells rs = All (λ m. IsAsked ms m → Any (IsFetchOf m.uid Tells) rs) ms

-- A message that is told of whole was there as the command was read: none comes so unasked. Of a folder that is there no more nothing is said.
abbrev pub TellsNoneNewer : Option (Option StoreFolder) → List Response → Type 0
TellsNoneNewer (Some (Some f)) rs = All (λ r. (u : ℕ) → IsFetchOf u TellsHeader r → u < f.uid_next) rs
TellsNoneNewer _ rs = Unit {0}
