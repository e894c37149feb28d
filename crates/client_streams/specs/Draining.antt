-- A client whose response has ended: what it still sends is dropped as it comes.
use Rattle.std.specs.Prelude.{◌≡◌, ◌+◌, ◌-◌, ◌<◌, ◌≤◌, ◌⊎◌, ℕ, Bool, true, false, List, length, min, Option, None, Some}
use Rattle.client_streams.specs.Patience.{capped}
use Rattle.client_streams.specs.declared.finished.Finished.{Finished}
use Rattle.client_streams.specs.declared.finished.TheConstants.{DRAIN_MILLISECONDS, DRAIN_PIECE_OCTETS, MAX_DRAIN_OCTETS, MAX_DRAIN_PIECES}

-- a client whose response ends now: it is closed `DRAIN_MILLISECONDS` later, if it isn't earlier
abbrev pub finished : {S : Type 0} → ℕ → S → Finished S
finished now stream = record { due = capped (now + DRAIN_MILLISECONDS); dropped = 0; stream = stream }

-- how many octets one look for them asks for: no more than may be dropped still
abbrev pub piece : ℕ → ℕ
piece dropped = min DRAIN_PIECE_OCTETS (MAX_DRAIN_OCTETS - dropped)

module _ {S : Type 0} (gives : S → ℕ → Option (List ℕ) → S → Type 0) where
  -- a look gives so many octets, which are dropped; none where none has come yet
  abbrev pub DropsPiece : ℕ → Finished S → Finished S → Type 0
  DropsPiece n old new =
      (old.dropped < MAX_DRAIN_OCTETS) × (octets : List ℕ) × gives old.stream (piece old.dropped) (Some octets) new.stream × (length octets ≡ n)
      × (new ≡ record old { dropped = old.dropped + n; stream = new.stream })

  -- a look finds that no more comes
  abbrev pub EndsInput : Finished S → Finished S → Type 0
  EndsInput old new = (old.dropped < MAX_DRAIN_OCTETS) × gives old.stream (piece old.dropped) None new.stream

  -- so many pieces are dropped, one after another, and no more than `MAX_DRAIN_PIECES`
  pub data DropsSome (old : Finished S) : ℕ → Finished S → Type 0 where
    NoPiece : DropsSome old 0 old
    OnePiece : {pieces n : ℕ} {mid new : Finished S} → DropsSome old pieces mid → pieces < MAX_DRAIN_PIECES → 0 < n → DropsPiece n mid new
        → DropsSome old (pieces + 1) new

  -- What has come is dropped, until none has come yet, `MAX_DRAIN_OCTETS` are dropped in all, or as many pieces as one look may: more may
  -- come. Or no more comes.
  abbrev pub DropsAll : Bool → Finished S → Finished S → Type 0
  DropsAll true old new =
      (pieces : ℕ) × (mid : Finished S) × DropsSome old pieces mid
      × (((pieces < MAX_DRAIN_PIECES) × DropsPiece 0 mid new)
      ⊎ (((MAX_DRAIN_OCTETS ≤ mid.dropped) ⊎ (pieces ≡ MAX_DRAIN_PIECES)) × (new ≡ mid)))
  DropsAll false old new = (pieces : ℕ) × (mid : Finished S) × DropsSome old pieces mid × (pieces < MAX_DRAIN_PIECES) × EndsInput mid new
