-- Clients of whose response some octets are to be sent yet.
use Rattle.std.specs.Prelude.{◌≡◌, ◌≢◌, ◌+◌, ◌-◌, ◌<◌, ◌≤◌, ◌++◌, ◌⊎◌, ◌||◌, ℕ, Bool, true, false, List, [], ◌∷◌, Option, None, Some, length, min, nat_le, if◌then◌else◌}
use Rattle.client_streams.specs.Draining.{finished}
use Rattle.client_streams.specs.Kept.{Kept}
use Rattle.client_streams.specs.Lingering.{Lingers}
use Rattle.client_streams.specs.Patience.{capped, patience, taken_more, untaken}
use Rattle.client_streams.specs.Sending.{sent_more}
use Rattle.client_streams.specs.declared.finished.Finished.{Finished}
use Rattle.client_streams.specs.declared.flushing.TheConstants.{MAX_FLUSHING_CLIENTS}
use Rattle.client_streams.specs.declared.pace.TheConstants.{STALL_MILLISECONDS}
use Rattle.client_streams.specs.declared.unflushed.Flow.{Flow}
use Rattle.client_streams.specs.declared.unflushed.Flow.TheVariants.{Lost, Sent, Waits}
use Rattle.client_streams.specs.declared.unflushed.TheConstants.{MAX_STEP_MILLISECONDS}
use Rattle.client_streams.specs.declared.unflushed.Unflushed.{Unflushed}

-- a client whose response ends now, of which this stands unsent
abbrev pub unflushed : {S : Type 0} → ℕ → S → Kept → Unflushed S
unflushed now stream kept = record { stream = stream; buffer = kept; seen = now; taking = untaken; stalled = 0 }

-- For how long it was waited for since it was given octets last. It is given none while another is served, so that no more than
-- `MAX_STEP_MILLISECONDS` count.
abbrev pub waited_for : {S : Type 0} → ℕ → Unflushed S → ℕ
waited_for now client = min (now - client.seen) MAX_STEP_MILLISECONDS

-- it took none for `STALL_MILLISECONDS`, or it was waited for as long as the octets that it took may take
abbrev pub is_late : {S : Type 0} → Unflushed S → Bool
is_late client = nat_le STALL_MILLISECONDS client.stalled || nat_le (patience client.taking.octets) client.taking.waited

-- it is given octets now, and takes so many
abbrev pub noted : {S : Type 0} → ℕ → ℕ → Unflushed S → Unflushed S
noted count now client = record client {
  seen = now;
  taking = taken_more count 0 (waited_for now client) client.taking;
  stalled = if nat_le count 0 then capped (client.stalled + waited_for now client) else 0;
}

-- nothing more is sent from now on
abbrev pub EndsAt : {S : Type 0} → (S → S → Type 0) → ℕ → S → Finished S → Type 0
EndsAt {S} ends now stream client = (ended : S) × ends stream ended × (client ≡ finished now ended)

module _ {S : Type 0} (takes : S → List ℕ → Option ℕ → S → Type 0) where
  -- All that stands unsent is given to the stream, which takes so many octets of it, from the front: what it doesn't take stands unsent.
  abbrev pub Flushes : ℕ → ℕ → Unflushed S → Unflushed S → Type 0
  Flushes now count old new =
      takes old.stream old.buffer.unsent (Some count) new.stream
      × (new ≡ noted count now (record old { stream = new.stream; buffer = sent_more count old.buffer }))

  -- the stream fails as it is given what stands unsent
  abbrev pub FlushFails : Unflushed S → Unflushed S → Type 0
  FlushFails old new = takes old.stream old.buffer.unsent None new.stream × (new ≡ record old { stream = new.stream })

  -- What becomes of a client that was given what stood unsent: it has taken all of it; or it waits for the rest, unless it is late.
  abbrev pub GoesOut : ℕ → Flow → Unflushed S → Unflushed S → Type 0
  GoesOut now Sent old new = (count : ℕ) × Flushes now count old new × (new.buffer.unsent ≡ [])
  GoesOut now Waits old new = (count : ℕ) × Flushes now count old new × (new.buffer.unsent ≢ []) × (is_late new ≡ false)
  GoesOut now Lost old new =
      FlushFails old new ⊎ ((count : ℕ) × Flushes now count old new × (new.buffer.unsent ≢ []) × (is_late new ≡ true))

module _ {S : Type 0} (takes : S → List ℕ → Option ℕ → S → Type 0) (ends : S → S → Type 0) (gives : S → ℕ → Option (List ℕ) → S → Type 0)
    (closes : S → Type 0) (now : ℕ) where
  -- Each is given what stood unsent, and none is passed over: those that wait for the rest stand as they stood; those that have taken
  -- all are the last of those that are open yet, whose list stands behind; the others are closed.
  pub data FlushOn (open_yet : List (Finished S)) : List (Unflushed S) → List (Unflushed S) → List (Finished S) → Type 0 where
    NoneUnsent : FlushOn open_yet [] [] open_yet
    StaysUnsent : {olds news : List (Unflushed S)} {mid : List (Finished S)} → FlushOn open_yet olds news mid → (old new : Unflushed S)
        → GoesOut takes now Waits old new → FlushOn open_yet (olds ++ old ∷ []) (news ++ new ∷ []) mid
    IsSent : {olds news : List (Unflushed S)} {mid after : List (Finished S)} → FlushOn open_yet olds news mid → (old left : Unflushed S)
        → GoesOut takes now Sent old left → (client : Finished S) → EndsAt ends now left.stream client
        → Lingers gives closes client mid after → FlushOn open_yet (olds ++ old ∷ []) news after
    IsLost : {olds news : List (Unflushed S)} {mid : List (Finished S)} → FlushOn open_yet olds news mid → (old left : Unflushed S)
        → GoesOut takes now Lost old left → closes left.stream → FlushOn open_yet (olds ++ old ∷ []) news mid

  -- the first of them is the last then, or is open yet, or is closed
  abbrev pub FirstFlushes : List (Unflushed S) → List (Finished S) → List (Unflushed S) → List (Finished S) → Type 0
  FirstFlushes [] open_yet new after = (new ≡ []) × (after ≡ open_yet)
  FirstFlushes (first ∷ rest) open_yet new after =
      ((last : Unflushed S) × GoesOut takes now Waits first last × (new ≡ rest ++ last ∷ []) × (after ≡ open_yet))
      ⊎ (((left : Unflushed S) × GoesOut takes now Sent first left × (client : Finished S) × EndsAt ends now left.stream client
      × Lingers gives closes client open_yet after × (new ≡ rest))
      ⊎ ((left : Unflushed S) × GoesOut takes now Lost first left × closes left.stream × (new ≡ rest) × (after ≡ open_yet)))

-- A client of whose response this is kept is one more, the last of them; where `MAX_FLUSHING_CLIENTS` are there, it is closed.
abbrev pub IsFlushed : {S : Type 0} → (S → Type 0) → ℕ → S → Kept → List (Unflushed S) → List (Unflushed S) → Type 0
IsFlushed closes now stream kept old new =
    ((length old < MAX_FLUSHING_CLIENTS) × (new ≡ old ++ unflushed now stream kept ∷ []))
    ⊎ ((MAX_FLUSHING_CLIENTS ≤ length old) × (new ≡ old) × closes stream)
