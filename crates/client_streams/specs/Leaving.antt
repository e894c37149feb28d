-- What is kept for the client that is served, and the clients whose response has ended.
use Rattle.std.specs.Prelude.{◌≡◌, ℕ, Bool, List, [], Option, length, nat_lt}
use Rattle.client_streams.specs.Flushing.{FlushOn}
use Rattle.client_streams.specs.Kept.{Kept}
use Rattle.client_streams.specs.Lingering.{GoOn}
use Rattle.client_streams.specs.Sending.{nothing_kept}
use Rattle.client_streams.specs.declared.finished.Finished.{Finished}
use Rattle.client_streams.specs.declared.flushing.TheConstants.{MAX_FLUSHING_CLIENTS}
use Rattle.client_streams.specs.declared.leaving.Leaving.{Leaving}
use Rattle.client_streams.specs.declared.unflushed.Unflushed.{Unflushed}

-- what is kept for the client that is served; those that take what is left of their response; those that have all of it and are open yet
pub record Open (S : Type 0) : Type 0 where
  pub kept : Kept
  pub flushing : List (Unflushed S)
  pub lingering : List (Finished S)

abbrev pub open_of : {S : Type 0} → Leaving S → Open S
open_of leaving = record { kept = leaving.served; flushing = leaving.flushing.clients.items; lingering = leaving.lingering.clients.items }

abbrev pub nobody_open : {S : Type 0} → Open S
nobody_open = record { kept = nothing_kept; flushing = []; lingering = [] }

-- no client whose response has ended is there
abbrev pub IsOver : {S : Type 0} → Open S → Type 0
IsOver clients = (clients.flushing ≡ []) × (clients.lingering ≡ [])

-- there is a place for one more that takes what is left of its response
abbrev pub has_place : {S : Type 0} → Open S → Bool
has_place clients = nat_lt (length clients.flushing) MAX_FLUSHING_CLIENTS

-- Those that take what is left of their response go on; then those that have all of it do, with those that have it now.
abbrev pub AllGoOn : {S : Type 0} → (S → List ℕ → Option ℕ → S → Type 0) → (S → S → Type 0) → (S → ℕ → Option (List ℕ) → S → Type 0) → (S → Type 0)
    → ℕ → Open S → Open S → Type 0
AllGoOn {S} takes ends gives closes now old new =
    (mid : List (Finished S)) × FlushOn takes ends gives closes now old.lingering old.flushing new.flushing mid
    × GoOn gives closes now mid new.lingering × (new.kept ≡ old.kept)
