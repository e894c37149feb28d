-- Clients whose response has ended, until they are closed.
use Rattle.std.specs.Prelude.{◌≡◌, ◌<◌, ◌≤◌, ◌++◌, ◌⊎◌, ℕ, Bool, true, false, List, [], ◌∷◌, Option, length}
use Rattle.client_streams.specs.Draining.{DropsAll}
use Rattle.client_streams.specs.declared.finished.Finished.{Finished}
use Rattle.client_streams.specs.declared.lingering.TheConstants.{MAX_LINGERING_CLIENTS}

-- where as many are open as may be, what has come of the first of them is dropped, and it is closed, as its stream stands then
abbrev pub MakesWay : {S : Type 0} → (S → ℕ → Option (List ℕ) → S → Type 0) → (S → Type 0) → List (Finished S) → List (Finished S) → Type 0
MakesWay {S} gives closes old new =
    ((length old < MAX_LINGERING_CLIENTS) × (new ≡ old))
    ⊎ ((first : Finished S) × (more : Bool) × (left : Finished S) × (MAX_LINGERING_CLIENTS ≤ length old) × (old ≡ first ∷ new)
    × DropsAll gives more first left × closes left.stream)

-- A client that stays open is the last of those that do, and where as many do as may, the first of them is closed.
abbrev pub Lingers : {S : Type 0} → (S → ℕ → Option (List ℕ) → S → Type 0) → (S → Type 0) → Finished S → List (Finished S) → List (Finished S) → Type 0
Lingers {S} gives closes client old new = (mid : List (Finished S)) × MakesWay gives closes old mid × (new ≡ mid ++ client ∷ [])

module _ {S : Type 0} (gives : S → ℕ → Option (List ℕ) → S → Type 0) (now : ℕ) where
  -- What has come of one is dropped; whether it stays open: more may come of it, and it isn't due.
  abbrev pub StaysOpen : Bool → Finished S → Finished S → Type 0
  StaysOpen true old new = DropsAll gives true old new × (now < new.due)
  StaysOpen false old left = DropsAll gives false old left ⊎ (DropsAll gives true old left × (left.due ≤ now))

module _ {S : Type 0} (gives : S → ℕ → Option (List ℕ) → S → Type 0) (closes : S → Type 0) (now : ℕ) where
  -- Those that stay open stand as they stood, and the others are closed, as their streams stand after what has come was dropped: none
  -- is passed over.
  pub data GoOn : List (Finished S) → List (Finished S) → Type 0 where
    Nobody : GoOn [] []
    RemainsOpen : {olds news : List (Finished S)} {old new : Finished S} → GoOn olds news → StaysOpen gives now true old new → GoOn (olds ++ old ∷ []) (news ++ new ∷ [])
    Leaves : {olds news : List (Finished S)} {old : Finished S} → GoOn olds news → (left : Finished S) → StaysOpen gives now false old left
        → closes left.stream → GoOn (olds ++ old ∷ []) news

  -- the first of them is the last then, or is closed
  abbrev pub FirstGoesOn : List (Finished S) → List (Finished S) → Type 0
  FirstGoesOn [] new = new ≡ []
  FirstGoesOn (first ∷ rest) new =
      ((last : Finished S) × StaysOpen gives now true first last × (new ≡ rest ++ last ∷ []))
      ⊎ ((left : Finished S) × StaysOpen gives now false first left × closes left.stream × (new ≡ rest))
