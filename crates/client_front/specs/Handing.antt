-- The client that is served: octets that come from it, and that it takes, in time.
use Rattle.std.specs.Prelude.{◌≡◌, ◌≢◌, ◌+◌, ◌<◌, ◌≤◌, ◌⊎◌, ℕ, Bool, true, false, List, [], ◌∷◌, take, Option, None, Some}
use Rattle.client_front.specs.Deadlines.{due}
use Rattle.client_front.specs.HeadEnd.{noted}
use Rattle.client_streams.specs.Kept.{Kept}
use Rattle.client_streams.specs.Patience.{patience, send_limit, taken_more}
use Rattle.client_streams.specs.Sending.{fitting, kept_more, nothing_kept, sent_more}
use Rattle.client_front.specs.declared.serving.Serving.{Serving}

-- The request was not late at a look of the clock; its next octets were waited for from then on, so many at most, and no longer than until
-- they were due; these came, and they are noted with the time of the next look.
pub record ReceivesInTime {C S : Type 0} (receives : S → ℕ → ℕ → Option (List ℕ) → S → Type 0) (reads : C → Option ℕ → C → Type 0) (room : ℕ) (octets : List ℕ)
    (clock later_clock : C) (old new : Serving S) : Type 0 where
  pub now : ℕ
  pub between : C
  pub is_now : reads clock (Some now) between
  pub limit : ℕ
  pub is_left : now + limit ≡ due old.progress
  pub some_left : 0 < limit
  pub received : receives old.stream room limit (Some octets) new.stream
  pub later : ℕ
  pub is_later : reads between (Some later) later_clock
  pub notes : new.progress ≡ noted octets later old.progress
  pub still : new.taking ≡ old.taking

-- the same wait, which gave this: no octets, where the client's stream failed or the time that was left ended
abbrev pub WaitsInTime : {C S : Type 0} → (S → ℕ → ℕ → Option (List ℕ) → S → Type 0) → (C → Option ℕ → C → Type 0) → ℕ → Option (List ℕ) → C → C
    → Serving S → Serving S → Type 0
WaitsInTime receives reads room octets clock later_clock old new =
    (now : ℕ) × (limit : ℕ) × reads clock (Some now) later_clock × (now + limit ≡ due old.progress) × (0 < limit) × receives old.stream room limit octets new.stream
    × (new ≡ record old { stream = new.stream })

-- Why no octets of the request are given: it was late at a look of the clock, or none came in the time that was left; or the clock
-- failed, before the wait or after it. A client that was late, or before whose wait the clock failed, is not received from; how far its
-- request has come is as it was.
abbrev pub ReceivesNothing : {C S : Type 0} → (S → ℕ → ℕ → Option (List ℕ) → S → Type 0) → (C → Option ℕ → C → Type 0) → ℕ → C → C → Serving S → Serving S
    → Type 0
ReceivesNothing {C} receives reads room clock later_clock old new =
    (((now : ℕ) × reads clock (Some now) later_clock × (due old.progress ≤ now) × (new ≡ old))
    ⊎ WaitsInTime receives reads room None clock later_clock old new)
    ⊎ ((reads clock None later_clock × (new ≡ old))
    ⊎ ((between : C) × (octets : List ℕ) × WaitsInTime receives reads room (Some octets) clock between old new × reads between None later_clock))

-- The client that is served, and what is kept of its response.
pub record Sending (S : Type 0) : Type 0 where
  pub serving : Serving S
  pub kept : Kept

-- what is kept, once the client has taken some of it, or none
abbrev pub of_kept : Option ℕ → Kept → Kept
of_kept None kept = kept
of_kept (Some count) kept = sent_more count kept

-- what is kept, once the client has taken some of what its caller gives, or none
abbrev pub of_caller : Option ℕ → Kept → Kept
of_caller count kept = kept

-- The client was not late when it was given these octets, and it was waited for no longer than it may be in all, and at once; so many were
-- taken, from their front, and they are noted with the time that it was waited for them, between two looks of the clock.
pub record SendsInTime {C S : Type 0} (sends : S → List ℕ → ℕ → Option ℕ → S → Type 0) (reads : C → Option ℕ → C → Type 0)
    (left : Option ℕ → Kept → Kept) (from : List ℕ) (count : ℕ) (clock later_clock : C) (old new : Sending S) : Type 0 where
  pub limit : ℕ
  pub is_left : limit ≡ send_limit old.serving.taking
  pub some_left : 0 < limit
  pub since : ℕ
  pub between : C
  pub is_since : reads clock (Some since) between
  pub taken : sends old.serving.stream from limit (Some count) new.serving.stream
  pub now : ℕ
  pub is_now : reads between (Some now) later_clock
  pub notes : new.serving.taking ≡ taken_more count since now old.serving.taking
  pub still : new.serving.progress ≡ old.serving.progress
  pub stands : new.kept ≡ left (Some count) old.kept

-- the client is given these octets, and waited for no longer than it may be in all, and at once, and takes so many, or none in that time
abbrev pub GivesInTime : {S : Type 0} → (S → List ℕ → ℕ → Option ℕ → S → Type 0) → (Option ℕ → Kept → Kept) → List ℕ → Option ℕ → Sending S
    → Sending S → Type 0
GivesInTime sends left from count old new =
    (limit : ℕ) × (limit ≡ send_limit old.serving.taking) × (0 < limit) × sends old.serving.stream from limit count new.serving.stream
    × (new ≡ record { serving = record old.serving { stream = new.serving.stream }; kept = left count old.kept })

-- Why the client takes none of these octets in a wait: it is late, or it took none in the time that it was waited for; or the clock failed,
-- before or after. One that is late, or before which the clock failed, is sent nothing; what it took so far is as it was.
abbrev pub WaitFails : {C S : Type 0} → (S → List ℕ → ℕ → Option ℕ → S → Type 0) → (C → Option ℕ → C → Type 0) → (Option ℕ → Kept → Kept)
    → List ℕ → C → C → Sending S → Sending S → Type 0
WaitFails {C} sends reads left from clock later_clock old new =
    (((patience old.serving.taking.octets ≤ old.serving.taking.waited) × (later_clock ≡ clock) × (new ≡ old))
    ⊎ ((since : ℕ) × reads clock (Some since) later_clock × GivesInTime sends left from None old new))
    ⊎ ((reads clock None later_clock × (new ≡ old))
    ⊎ ((since : ℕ) × (between : C) × (count : ℕ) × reads clock (Some since) between × GivesInTime sends left from (Some count) old new
    × reads between None later_clock))

-- where some may be kept, as many of the caller's octets as there is room for are put behind what is kept; else none
abbrev pub Keeps : {S : Type 0} → Bool → List ℕ → ℕ → Sending S → Sending S → Type 0
Keeps true from count old new = (count ≡ fitting old.kept from) × (new ≡ record old { kept = kept_more (take count from) old.kept })
Keeps false from count old new = (count ≡ 0) × (new ≡ old)

-- what is given to the stream first: what is kept, and where nothing is, what the caller gives
abbrev pub given_first : List ℕ → List ℕ → List ℕ
given_first from [] = from
given_first from (octet ∷ octets) = octet ∷ octets

module _ {S : Type 0} (takes : S → List ℕ → Option ℕ → S → Type 0) where
  -- Without a wait the stream takes so many octets of what is kept, or none of them.
  abbrev pub TakesKept : ℕ → Sending S → Sending S → Type 0
  TakesKept count old new =
      takes old.serving.stream old.kept.unsent (Some count) new.serving.stream
      × (new ≡ record {
        serving = record old.serving { stream = new.serving.stream; taking = taken_more count 0 0 old.serving.taking };
        kept = sent_more count old.kept;
      })

  -- Without a wait it takes so many of the caller's octets, or none of them.
  abbrev pub TakesGiven : List ℕ → ℕ → Sending S → Sending S → Type 0
  TakesGiven from count old new =
      takes old.serving.stream from (Some count) new.serving.stream
      × (new ≡ record old { serving = record old.serving { stream = new.serving.stream; taking = taken_more count 0 0 old.serving.taking } })

  -- What is kept is given first, and where nothing is, the caller's octets: so many of these are taken.
  abbrev pub GivesNow : List ℕ → ℕ → Sending S → Sending S → Type 0
  GivesNow from count old new =
      ((old.kept.unsent ≡ []) × TakesGiven from count old new)
      ⊎ ((old.kept.unsent ≢ []) × (count ≡ 0) × (taken : ℕ) × TakesKept taken old new)

  -- the stream fails as it is given that
  abbrev pub GivingFails : List ℕ → Sending S → Sending S → Type 0
  GivingFails from old new =
      takes old.serving.stream (given_first from old.kept.unsent) None new.serving.stream
      × (new ≡ record old { serving = record old.serving { stream = new.serving.stream } })

  -- So many of the caller's octets are taken or kept without a wait: those that the stream takes; where it takes none, as many as there is
  -- room for, if some may be kept.
  abbrev pub Offers : Bool → List ℕ → ℕ → Sending S → Sending S → Type 0
  Offers keeps from count old new =
      ((0 < count) × GivesNow from count old new)
      ⊎ ((mid : Sending S) × GivesNow from 0 old mid × Keeps keeps from count mid new)

module _ {C S : Type 0} (sends : S → List ℕ → ℕ → Option ℕ → S → Type 0) (reads : C → Option ℕ → C → Type 0) where
  -- the client is waited for, again and again, as long as something is kept that it has not taken
  pub data Empties (clock : C) (old : Sending S) : C → Sending S → Type 0 where
    NoWait : Empties clock old clock old
    OneWait : {between later_clock : C} {mid new : Sending S} → Empties clock old between mid → mid.kept.unsent ≢ [] → (count : ℕ)
        → SendsInTime sends reads of_kept mid.kept.unsent count between later_clock mid new → Empties clock old later_clock new

  -- one of these waits fails
  abbrev pub EmptyingFails : C → C → Sending S → Sending S → Type 0
  EmptyingFails clock later_clock old new =
      (between : C) × (mid : Sending S) × Empties clock old between mid × (mid.kept.unsent ≢ [])
      × WaitFails sends reads of_kept mid.kept.unsent between later_clock mid new

module _ {C S : Type 0} (takes : S → List ℕ → Option ℕ → S → Type 0) (sends : S → List ℕ → ℕ → Option ℕ → S → Type 0)
    (reads : C → Option ℕ → C → Type 0) where
  -- So many of these octets are accepted, from their front: they are taken or kept without a wait. Where none of them are, the client is
  -- waited for until it has taken all that is kept, and then some of them.
  abbrev pub Accepts : Bool → List ℕ → ℕ → C → C → Sending S → Sending S → Type 0
  Accepts keeps from count clock later_clock old new =
      ((0 < count) × Offers takes keeps from count old new × (later_clock ≡ clock))
      ⊎ ((tried all : Sending S) × (between : C) × Offers takes keeps from 0 old tried × Empties sends reads clock tried between all
      × (all.kept.unsent ≡ []) × SendsInTime sends reads of_caller from count between later_clock all new)

  -- Why none is accepted: the stream failed at once; or none is taken or kept without a wait, and one of the waits failed.
  abbrev pub Refuses : Bool → List ℕ → C → C → Sending S → Sending S → Type 0
  Refuses keeps from clock later_clock old new =
      (GivingFails takes from old new × (later_clock ≡ clock))
      ⊎ ((tried : Sending S) × Offers takes keeps from 0 old tried
      × (EmptyingFails sends reads clock later_clock tried new
      ⊎ ((between : C) × (all : Sending S) × Empties sends reads clock tried between all × (all.kept.unsent ≡ [])
      × WaitFails sends reads of_caller from between later_clock all new)))

  -- None is accepted, and what was kept for the client is dropped.
  abbrev pub AcceptsNothing : Bool → List ℕ → C → C → Sending S → Sending S → Type 0
  AcceptsNothing keeps from clock later_clock old new =
      (left : Sending S) × Refuses keeps from clock later_clock old left × (new ≡ record left { kept = nothing_kept })

-- a client is served, and has this
abbrev pub IfServed : {S : Type 0} → (Serving S → Type 0) → Option (Serving S) → Type 0
IfServed P None = ⊥
IfServed P (Some serving) = P serving

-- there is one before and one after, and this relates the two
abbrev pub BothSo : {A : Type 0} → (A → A → Type 0) → Option A → Option A → Type 0
BothSo P (Some old) (Some new) = P old new
BothSo P _ _ = ⊥

-- there is none, or there is one before and one after, and this relates the two
abbrev pub NoneOrBothSo : {A B : Type 0} → (A → B → Type 0) → Option A → Option B → Type 0
NoneOrBothSo P None new = new ≡ None
NoneOrBothSo P (Some old) (Some new) = P old new
NoneOrBothSo P (Some old) None = ⊥
