-- How clients come, and which one is handed on.
use Rattle.std.specs.Prelude.{◌≡◌, ◌≢◌, ◌<◌, ◌+◌, ◌-◌, ◌^◌, ◌%◌, ◌++◌, ◌⊎◌, ℕ, Bool, true, false, List, [], ◌∷◌, Option, None, Some}
use Rattle.client_front.specs.Deadlines.{begun}
use Rattle.client_front.specs.Scanning.{IsComing, unscanned}
use Rattle.client_front.specs.Waiting.{Admits, Expires, Held, IsAsked, MakesRoom, held, newcomer}
use Rattle.client_streams.specs.Leaving.{AllGoOn, Open, nobody_open, open_of}
use Rattle.client_streams.specs.Patience.{untaken}
use Rattle.client_streams.specs.Sending.{nothing_kept}
use Rattle.client_front.specs.declared.acceptor.TheConstants.{LOOK_AGAIN_MILLISECONDS, SPARED_CLIENTS}
use Rattle.client_front.specs.declared.acceptor.Acceptor.{Acceptor}
use Rattle.client_front.specs.declared.scan.Coming.{Coming}
use Rattle.client_front.specs.declared.scan.Coming.TheVariants.{Never}
use Rattle.client_front.specs.declared.serving.Serving.{Serving}
use Rattle.client_front.specs.declared.sockets.TheConstants.{WAIT_KEYS}
use Rattle.client_front.specs.declared.sockets.Next.{Next}
use Rattle.client_front.specs.declared.sockets.Next.TheVariants.{Client, Nobody, Refused}
use Rattle.client_front.specs.declared.waiting.TheConstants.{MAX_HELD_CLIENTS}

-- The listener, the clock, the next client's key, those who wait, what is kept for the client that is served, and those whose response has
-- ended.
pub record State (L C S : Type 0) : Type 0 where
  pub listener : L
  pub clock : C
  pub key : ℕ
  pub held : Held S
  pub leaving : Open S

abbrev pub state : {L C S : Type 0} → Acceptor L C S → State L C S
state acceptor = record {
  listener = acceptor.listener;
  clock = acceptor.clock;
  key = acceptor.next_key;
  held = held acceptor.waiting;
  leaving = open_of acceptor.leaving;
}

-- nobody has come
abbrev pub nobody_yet : {L C S : Type 0} → L → C → State L C S
nobody_yet listener clock = record { listener = listener; clock = clock; key = 0; held = record { idle = []; asking = [] }; leaving = nobody_open }

-- What a stream shows, what closing it comes to, what it gives and takes at once, what ending its output comes to, what a clock reads, what
-- waiting at a listener gives, and who comes to it.
pub record World (L C S : Type 0) : Type 1 where
  pub shows : S → ℕ → Option (List ℕ) → Type 0
  pub closes : S → Type 0
  pub gives : S → ℕ → Option (List ℕ) → S → Type 0
  pub takes : S → List ℕ → Option ℕ → S → Type 0
  pub ends : S → S → Type 0
  pub reads : C → Option ℕ → C → Type 0
  pub waits : L → ℕ → ℕ → Option (List ℕ) → L → Type 0
  pub comes : L → ℕ → Next S → L → Type 0

abbrev pub world : {L C S : Type 0} → (S → ℕ → Option (List ℕ) → Type 0) → (S → Type 0) → (S → ℕ → Option (List ℕ) → S → Type 0)
    → (S → List ℕ → Option ℕ → S → Type 0) → (S → S → Type 0) → (C → Option ℕ → C → Type 0) → (L → ℕ → ℕ → Option (List ℕ) → L → Type 0) → (L → ℕ → Next S → L → Type 0) → World L C S
world shows closes gives takes ends reads waits comes = record {
  shows = shows;
  closes = closes;
  gives = gives;
  takes = takes;
  ends = ends;
  reads = reads;
  waits = waits;
  comes = comes;
}

abbrev pub next_key : ℕ → ℕ
next_key key = (key + 1) % (2 ^ 64)

-- room is made, and the clients that are held are these then
abbrev pub RoomIsMade : {L C S : Type 0} → World L C S → Bool → State L C S → State L C S → Type 0
RoomIsMade {L} {C} {S} world closed old new =
    (after : Held S) × MakesRoom world.shows world.closes closed old.held after × (new ≡ record old { held = after })

pub data Spared {L C S : Type 0} (world : World L C S) (old : State L C S) : ℕ → State L C S → Type 0 where
  NoneSpared : Spared world old 0 old
  OneSpared : {n : ℕ} {mid new : State L C S} → Spared world old n mid → RoomIsMade world true mid new → Spared world old (n + 1) new

-- `SPARED_CLIENTS` clients are closed whose head isn't whole, or all where there are fewer, in order of their coming
abbrev pub Spares : {L C S : Type 0} → World L C S → State L C S → State L C S → Type 0
Spares {L} {C} {S} world old new =
    Spared world old SPARED_CLIENTS new
    ⊎ ((n : ℕ) × (mid : State L C S) × (n < SPARED_CLIENTS) × Spared world old n mid × RoomIsMade world false mid new)

-- One that has come is held; or it is closed, where there is no room for it.
abbrev pub IsHeld : {L C S : Type 0} → World L C S → ℕ → S → State L C S → State L C S → Type 0
IsHeld {L} {C} {S} world now stream old new =
    (after : Held S)
    × Admits world.shows world.closes (newcomer now old.key stream) old.held after
    × (new ≡ record old { key = next_key old.key; held = after })

-- the listener gives this, and one that has come is held
abbrev pub OneComes : {L C S : Type 0} → World L C S → ℕ → State L C S → State L C S → Type 0
OneComes {L} {C} {S} world now old new =
    (stream : S) × (listener : L) × world.comes old.listener old.key (Client stream) listener
    × IsHeld world now stream (record old { listener = listener }) new

pub data Come {L C S : Type 0} (world : World L C S) (now : ℕ) (old : State L C S) : ℕ → State L C S → Type 0 where
  NoneCame : Come world now old 0 old
  OneCame : {n : ℕ} {mid new : State L C S} → Come world now old n mid → OneComes world now mid new → Come world now old (n + 1) new

-- the listener gives nobody more; or one can't be accepted, and others are spared
abbrev pub NoneComes : {L C S : Type 0} → World L C S → State L C S → State L C S → Type 0
NoneComes {L} world old new =
    (world.comes old.listener old.key Nobody new.listener × (new ≡ record old { listener = new.listener }))
    ⊎ ((listener : L) × world.comes old.listener old.key Refused listener × Spares world (record old { listener = listener }) new)

-- those that have come are held, `MAX_HELD_CLIENTS` of them at most
abbrev pub AllCome : {L C S : Type 0} → World L C S → ℕ → State L C S → State L C S → Type 0
AllCome {L} {C} {S} world now old new =
    Come world now old MAX_HELD_CLIENTS new
    ⊎ ((n : ℕ) × (mid : State L C S) × (n < MAX_HELD_CLIENTS) × Come world now old n mid × NoneComes world mid new)

-- the clients with these keys are looked at, in this order
pub data Asked {S : Type 0} (shows : S → ℕ → Option (List ℕ) → Type 0) (closes : S → Type 0) (now : ℕ) (old : Held S) : List ℕ → Held S → Type 0 where
  NoKey : Asked shows closes now old [] old
  OneKey : {keys : List ℕ} {key : ℕ} {mid new : Held S} → Asked shows closes now old keys mid → IsAsked shows closes now key mid new
      → Asked shows closes now old (keys ++ key ∷ []) new

-- A wait of `LOOK_AGAIN_MILLISECONDS` at most, for `WAIT_KEYS` keys at most, and a look of the clock after it: those that have come are held, those that have sent
-- something are looked at, those that are late are looked at, and those whose response has ended go on.
pub record Looks {L C S : Type 0} (world : World L C S) (old new : State L C S) : Type 0 where
  pub keys : List ℕ
  pub listener : L
  pub waited : world.waits old.listener WAIT_KEYS LOOK_AGAIN_MILLISECONDS (Some keys) listener
  pub now : ℕ
  pub clock : C
  pub is_now : world.reads old.clock (Some now) clock
  pub came : State L C S
  pub come : AllCome world now (record old { listener = listener; clock = clock }) came
  pub after : Held S
  pub asked : Asked world.shows world.closes now came.held keys after
  pub expired : Expires world.shows world.closes now after new.held
  pub went_on : AllGoOn world.takes world.ends world.gives world.closes now came.leaving new.leaving
  pub after_all : new ≡ record came { held = new.held; leaving = new.leaving }

-- the wait failed, or the look of the clock after it
abbrev pub LookFails : {L C S : Type 0} → World L C S → State L C S → State L C S → Type 0
LookFails world old new =
    (world.waits old.listener WAIT_KEYS LOOK_AGAIN_MILLISECONDS None new.listener × (new ≡ record old { listener = new.listener }))
    ⊎ ((keys : List ℕ) × world.waits old.listener WAIT_KEYS LOOK_AGAIN_MILLISECONDS (Some keys) new.listener × world.reads old.clock None new.clock
    × (new ≡ record old { listener = new.listener; clock = new.clock }))

-- the client that asked first, of which a look shows this, waits no longer
abbrev pub FirstLeaves : {L C S : Type 0} → World L C S → S → Coming → State L C S → State L C S → Type 0
FirstLeaves {L} {C} {S} world stream it old new =
    (rest : List S) × (old.held.asking ≡ stream ∷ rest) × IsComing world.shows unscanned stream it
    × (new ≡ record old { held = record { idle = old.held.idle; asking = rest } })

-- the client that asked first is closed, of which no head comes any more: it failed
abbrev pub PassesBy : {L C S : Type 0} → World L C S → State L C S → State L C S → Type 0
PassesBy {L} {C} {S} world old new = (stream : S) × FirstLeaves world stream Never old new × world.closes stream

-- The client that asked first is handed on, unless none comes of it any more, and its request begins at a look of the clock, at which those
-- whose response has ended go on; nothing is kept for it.
pub record HandsOn {L C S : Type 0} (world : World L C S) (old new : State L C S) (serving : Serving S) : Type 0 where
  pub left : State L C S
  pub it : Coming
  pub first : FirstLeaves world serving.stream it old left
  pub comes : it ≢ Never
  pub now : ℕ
  pub is_now : world.reads left.clock (Some now) new.clock
  pub gone_on : Open S
  pub went_on : AllGoOn world.takes world.ends world.gives world.closes now left.leaving gone_on
  pub after : new ≡ record left { clock = new.clock; leaving = record gone_on { kept = nothing_kept } }
  pub begins : serving.progress ≡ begun now
  pub unsent : serving.taking ≡ untaken

-- One turn: the client that asked first is passed by; or nobody asks, and all are looked at.
abbrev pub TurnsOnce : {L C S : Type 0} → World L C S → State L C S → State L C S → Type 0
TurnsOnce world old new = PassesBy world old new ⊎ ((old.held.asking ≡ []) × Looks world old new)

-- A turn fails: the clock, where a client would be handed on, which is closed; or nobody asks, and the look fails.
abbrev pub TurnFails : {L C S : Type 0} → World L C S → State L C S → State L C S → Type 0
TurnFails {L} {C} {S} world old new =
    ((stream : S) × (it : Coming) × (left : State L C S) × FirstLeaves world stream it old left × (it ≢ Never)
    × world.reads left.clock None new.clock × world.closes stream × (new ≡ record left { clock = new.clock }))
    ⊎ ((old.held.asking ≡ []) × LookFails world old new)

-- so many turns
pub data Turns {L C S : Type 0} (world : World L C S) (old : State L C S) : ℕ → State L C S → Type 0 where
  NoTurn : Turns world old 0 old
  OneTurn : {n : ℕ} {mid new : State L C S} → Turns world old n mid → TurnsOnce world mid new → Turns world old (n + 1) new

-- after some turns the client that asked first is handed on
abbrev pub HandsOnFirst : {L C S : Type 0} → World L C S → State L C S → State L C S → Serving S → Type 0
HandsOnFirst {L} {C} {S} world old new serving =
    (n : ℕ) × (mid : State L C S) × Turns world old n mid × HandsOn world mid new serving

-- after some turns one fails; or there were 2^64 - 1
abbrev pub HandsOnNobody : {L C S : Type 0} → World L C S → State L C S → State L C S → Type 0
HandsOnNobody {L} {C} {S} world old new =
    ((n : ℕ) × (mid : State L C S) × Turns world old n mid × TurnFails world mid new) ⊎ Turns world old (2 ^ 64 - 1) new
