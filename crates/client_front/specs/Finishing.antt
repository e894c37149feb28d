-- What becomes of a client whose response has ended, and of those that are open yet.
use Rattle.std.specs.Prelude.{⊤, ◌≡◌, ◌≢◌, ◌+◌, ◌-◌, ◌^◌, ◌⊎◌, ℕ, Bool, true, false, List, [], Option, None, Some}
use Rattle.client_front.specs.Accepting.{LookFails, Looks, State, World}
use Rattle.client_streams.specs.Draining.{DropsAll, finished}
use Rattle.client_streams.specs.Flushing.{IsFlushed}
use Rattle.client_streams.specs.Leaving.{IsOver}
use Rattle.client_streams.specs.Lingering.{Lingers}
use Rattle.client_streams.specs.Sending.{nothing_kept}
use Rattle.client_streams.specs.declared.finished.Finished.{Finished}
use Rattle.client_front.specs.declared.serving.Serving.{Serving}

module _ {C S : Type 0} (ends : S → S → Type 0) (gives : S → ℕ → Option (List ℕ) → S → Type 0) (reads : C → Option ℕ → C → Type 0) where
  -- Nothing more is sent from a look of the clock on, and what has come is dropped; whether more may come.
  abbrev pub EndsResponse : Bool → S → C → C → Finished S → Type 0
  EndsResponse stays stream clock later_clock client =
      (now : ℕ) × (ended : S) × ends stream ended × reads clock (Some now) later_clock × DropsAll gives stays (finished now ended) client

module _ {C S : Type 0} (closes : S → Type 0) (reads : C → Option ℕ → C → Type 0) where
  -- The response has ended, and the client has not taken all that is kept of it: it takes it from a look of the clock on, while others are
  -- served. Where the clock fails it is closed.
  abbrev pub LeavesSome : {L : Type 0} → S → State L C S → State L C S → Type 0
  LeavesSome stream old new =
      (reads old.clock None new.clock × closes stream × (new.leaving ≡ old.leaving))
      ⊎ ((now : ℕ) × reads old.clock (Some now) new.clock
      × IsFlushed closes now stream old.leaving.kept old.leaving.flushing new.leaving.flushing
      × (new.leaving ≡ record old.leaving { kept = nothing_kept; flushing = new.leaving.flushing }))

module _ {C S : Type 0} (ends : S → S → Type 0) (closes : S → Type 0) (gives : S → ℕ → Option (List ℕ) → S → Type 0)
    (reads : C → Option ℕ → C → Type 0) where
  -- nothing more is sent to the client, and it is closed, as its stream stands then: the clock failed, or no more comes of it
  abbrev pub IsClosed : S → C → C → Type 0
  IsClosed stream clock later_clock =
      ((ended : S) × ends stream ended × reads clock None later_clock × closes ended)
      ⊎ ((left : Finished S) × EndsResponse ends gives reads false stream clock later_clock left × closes left.stream)

  -- The response to a client has ended, and nothing is kept of it: it stays open where it has not ended what it sends.
  abbrev pub LeavesAll : {L : Type 0} → S → State L C S → State L C S → Type 0
  LeavesAll stream old new =
      (IsClosed stream old.clock new.clock × (new.leaving ≡ old.leaving))
      ⊎ ((client : Finished S) × EndsResponse ends gives reads true stream old.clock new.clock client
      × Lingers gives closes client old.leaving.lingering new.leaving.lingering
      × (new.leaving ≡ record old.leaving { lingering = new.leaving.lingering }))

  -- The response to a client has ended: the listener, the next key and those who wait are as they were.
  abbrev pub FinishesOne : {L : Type 0} → Serving S → State L C S → State L C S → Type 0
  FinishesOne serving old new =
      (new ≡ record old { clock = new.clock; leaving = new.leaving })
      × (((old.leaving.kept.unsent ≡ []) × LeavesAll serving.stream old new)
      ⊎ ((old.leaving.kept.unsent ≢ []) × LeavesSome closes reads serving.stream old new))

  -- the same where one was served; where none was, all is as it was
  abbrev pub Finishes : {L : Type 0} → Option (Serving S) → State L C S → State L C S → Type 0
  Finishes None old new = new ≡ old
  Finishes (Some serving) old new = FinishesOne serving old new

-- the client that was served is closed, as its stream stood, where one was
abbrev pub ClosesServed : {S : Type 0} → (S → Type 0) → Option (Serving S) → Type 0
ClosesServed closes None = ⊤
ClosesServed closes (Some serving) = closes serving.stream

-- so many looks, before each of which there is a client whose response has ended
pub data LooksOn {L C S : Type 0} (world : World L C S) (old : State L C S) : ℕ → State L C S → Type 0 where
  NoLook : LooksOn world old 0 old
  OneLook : {n : ℕ} {mid new : State L C S} → LooksOn world old n mid → (IsOver mid.leaving → ⊥) → Looks world mid new → LooksOn world old (n + 1) new

-- Those whose response has ended are looked at until there is none, and no longer, or a look fails; or there were 2^64 - 1.
abbrev pub Ends : {L C S : Type 0} → World L C S → State L C S → State L C S → Type 0
Ends {L} {C} {S} world old new =
    ((n : ℕ) × LooksOn world old n new × IsOver new.leaving)
    ⊎ (((n : ℕ) × (mid : State L C S) × LooksOn world old n mid × (IsOver mid.leaving → ⊥) × LookFails world mid new)
    ⊎ LooksOn world old (2 ^ 64 - 1) new)
