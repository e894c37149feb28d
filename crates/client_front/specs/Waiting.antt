-- Clients that came and are not handed on yet.
use Rattle.std.specs.Prelude.{⊤, ◌≡◌, ◌≢◌, ◌<◌, ◌+◌, ◌++◌, ◌⊎◌, ℕ, Bool, true, false, List, [], ◌∷◌, Option, All, length, nat_le, ◌==◌, if◌then◌else◌}
use Rattle.client_streams.specs.Patience.{capped}
use Rattle.client_front.specs.Scanning.{IsComing, unscanned}
use Rattle.client_front.specs.declared.progress.TheConstants.{HEAD_MILLISECONDS}
use Rattle.client_front.specs.declared.scan.Scan.{Scan}
use Rattle.client_front.specs.declared.scan.Coming.{Coming}
use Rattle.client_front.specs.declared.scan.Coming.TheVariants.{Nothing, Part, Whole, Never}
use Rattle.client_front.specs.declared.waiting.Idle.{Idle}
use Rattle.client_front.specs.declared.waiting.TheConstants.{IDLE_MILLISECONDS, MAX_HELD_CLIENTS}
use Rattle.client_front.specs.declared.waiting.Waiting.{Waiting}

-- those whose head isn't whole, in order of their coming, and those whose head is whole, in order of that
pub record Held (S : Type 0) : Type 0 where
  pub idle : List (Idle S)
  pub asking : List S

abbrev pub held : {S : Type 0} → Waiting S → Held S
held waiting = record { idle = waiting.idle.items; asking = waiting.asking.items }

-- `MAX_HELD_CLIENTS` are held
abbrev pub is_full : {S : Type 0} → Held S → Bool
is_full held = nat_le MAX_HELD_CLIENTS (length held.idle + length held.asking)

-- a client that comes at a time: its first octet is due `IDLE_MILLISECONDS` later
abbrev pub newcomer : {S : Type 0} → ℕ → ℕ → S → Idle S
newcomer now key stream = record { key = key; due = capped (now + IDLE_MILLISECONDS); scan = unscanned; stream = stream }

-- A client of whose head so much has come by now: its end is due `HEAD_MILLISECONDS` after its first octet was seen.
abbrev pub read_on : {S : Type 0} → ℕ → Scan → Idle S → Idle S
read_on now scan client =
    if client.scan.seen == 0 then record client { scan = scan; due = capped (now + HEAD_MILLISECONDS) } else record client { scan = scan }

-- what is due has not come
abbrev pub is_late : {S : Type 0} → ℕ → Idle S → Bool
is_late now client = nat_le client.due now

-- An idle client, those before it and those after it.
pub record Place {S : Type 0} (idle : List (Idle S)) : Type 0 where
  pub before : List (Idle S)
  pub client : Idle S
  pub after : List (Idle S)
  pub whole : idle ≡ before ++ client ∷ after

abbrev pub asks : Coming → Bool
asks Whole = true
asks _ = false

-- it ended or failed, or an octet that it has sent can begin no head
abbrev pub is_never : Coming → Bool
is_never Never = true
is_never _ = false

abbrev pub asks_if : {S : Type 0} → Bool → S → List S
asks_if true stream = stream ∷ []
asks_if false stream = []

-- a client that doesn't stay is closed, as its stream stands
abbrev pub ClosedUnless : {S : Type 0} → (S → Type 0) → Bool → S → Type 0
ClosedUnless closes true stream = ⊤
ClosedUnless closes false stream = closes stream

-- An idle client leaves its place: it asks after all that do, or it is closed.
abbrev pub Leaves : {S : Type 0} → (S → Type 0) → Bool → (old : Held S) → Place old.idle → Held S → Type 0
Leaves closes asks old place new =
    (new ≡ record { idle = place.before ++ place.after; asking = old.asking ++ asks_if asks place.client.stream })
    × ClosedUnless closes asks place.client.stream

-- what a look at the client there shows
abbrev pub Shows : {S : Type 0} → (S → ℕ → Option (List ℕ) → Type 0) → {idle : List (Idle S)} → Place idle → Coming → Type 0
Shows shows place it = IsComing shows place.client.scan place.client.stream it

-- What becomes of an idle client that was looked at: it stays where its head may still come, asks where it is whole, else it is closed.
abbrev pub Becomes : {S : Type 0} → (S → Type 0) → ℕ → (old : Held S) → Place old.idle → Coming → Held S → Type 0
Becomes closes now old place Nothing new = new ≡ old
Becomes closes now old place (Part scan) new = new ≡ record old { idle = place.before ++ read_on now scan place.client ∷ place.after }
Becomes closes now old place Whole new = Leaves closes true old place new
Becomes closes now old place Never new = Leaves closes false old place new

-- What becomes of a client that was late when it was looked at: it asks if its head is whole by now; where its first octets are seen only
-- now it stays, and the end of its head is due; else it is closed.
abbrev pub LateBecomes : {S : Type 0} → (S → Type 0) → ℕ → (old : Held S) → Place old.idle → Coming → Held S → Type 0
LateBecomes closes now old place Nothing new = Leaves closes false old place new
LateBecomes closes now old place (Part scan) new =
    ((place.client.scan.seen ≡ 0) × Becomes closes now old place (Part scan) new) ⊎ ((0 < place.client.scan.seen) × Leaves closes false old place new)
LateBecomes closes now old place Whole new = Leaves closes true old place new
LateBecomes closes now old place Never new = Leaves closes false old place new

-- the first client that is late is looked at, and this becomes of it
pub record LooksAtLate {S : Type 0} (shows : S → ℕ → Option (List ℕ) → Type 0) (closes : S → Type 0) (now : ℕ) (old new : Held S) : Type 0 where
  pub place : Place old.idle
  pub late : is_late now place.client ≡ true
  pub earlier : All (λ other. is_late now other ≡ false) place.before
  pub it : Coming
  pub shown : Shows shows place it
  pub becomes : LateBecomes closes now old place it new

pub data LooksAtLateOnes {S : Type 0} (shows : S → ℕ → Option (List ℕ) → Type 0) (closes : S → Type 0) (now : ℕ) (old : Held S) : Held S → Type 0 where
  NoneLate : LooksAtLateOnes shows closes now old old
  OneLate : {mid new : Held S} → LooksAtLateOnes shows closes now old mid → LooksAtLate shows closes now mid new → LooksAtLateOnes shows closes now old new

-- those that are late are looked at, one after another in order of their coming, until none is late
abbrev pub Expires : {S : Type 0} → (S → ℕ → Option (List ℕ) → Type 0) → (S → Type 0) → ℕ → Held S → Held S → Type 0
Expires shows closes now old new = LooksAtLateOnes shows closes now old new × All (λ client. is_late now client ≡ false) new.idle

-- The client that came first leaves: it asks if its head is whole, else it is closed.
pub record OldestLeaves {S : Type 0} (shows : S → ℕ → Option (List ℕ) → Type 0) (closes : S → Type 0) (asking : Bool) (old new : Held S) : Type 0 where
  pub place : Place old.idle
  pub oldest : place.before ≡ []
  pub it : Coming
  pub shown : Shows shows place it
  pub so : asks it ≡ asking
  pub leaves : Leaves closes asking old place new

pub data AskersLeave {S : Type 0} (shows : S → ℕ → Option (List ℕ) → Type 0) (closes : S → Type 0) (old : Held S) : Held S → Type 0 where
  NoAsker : AskersLeave shows closes old old
  OneAsker : {mid new : Held S} → AskersLeave shows closes old mid → OldestLeaves shows closes true mid new → AskersLeave shows closes old new

-- the client that came first is closed; or there is none
abbrev pub ClosesOldest : {S : Type 0} → (S → ℕ → Option (List ℕ) → Type 0) → (S → Type 0) → Bool → Held S → Held S → Type 0
ClosesOldest shows closes true old new = OldestLeaves shows closes false old new
ClosesOldest shows closes false old new = (old.idle ≡ []) × (new ≡ old)

-- The client that came first of those whose head isn't whole is closed, where there is one; those before it ask now.
abbrev pub MakesRoom : {S : Type 0} → (S → ℕ → Option (List ℕ) → Type 0) → (S → Type 0) → Bool → Held S → Held S → Type 0
MakesRoom {S} shows closes closed old new = (mid : Held S) × AskersLeave shows closes old mid × ClosesOldest shows closes closed mid new

-- whether there is room for one more client: it is made where there is none
abbrev pub FindsRoom : {S : Type 0} → (S → ℕ → Option (List ℕ) → Type 0) → (S → Type 0) → Bool → Held S → Held S → Type 0
FindsRoom shows closes found old new =
    ((is_full old ≡ false) × (found ≡ true) × (new ≡ old)) ⊎ ((is_full old ≡ true) × MakesRoom shows closes found old new)

abbrev pub held_if : {S : Type 0} → Bool → Idle S → Held S → Held S
held_if true client held = record held { idle = held.idle ++ client ∷ [] }
held_if false client held = held

-- one more client is held, or is closed itself where there is no room for it
abbrev pub Admits : {S : Type 0} → (S → ℕ → Option (List ℕ) → Type 0) → (S → Type 0) → Idle S → Held S → Held S → Type 0
Admits {S} shows closes client old new =
    (found : Bool) × (mid : Held S) × FindsRoom shows closes found old mid
    × (new ≡ held_if found client mid) × ClosedUnless closes found client.stream

-- the first client with the key
pub record FirstWith {S : Type 0} (key : ℕ) (idle : List (Idle S)) : Type 0 where
  pub place : Place idle
  pub earlier : All (λ other. other.key ≢ key) place.before
  pub has_key : place.client.key ≡ key

-- the first client with the key is looked at, and this becomes of it
pub record LooksAt {S : Type 0} (shows : S → ℕ → Option (List ℕ) → Type 0) (closes : S → Type 0) (now key : ℕ) (old new : Held S) : Type 0 where
  pub found : FirstWith key old.idle
  pub it : Coming
  pub shown : Shows shows found.place it
  pub becomes : Becomes closes now old found.place it new

-- the client with the key asks where its head is whole, where there is such a client
abbrev pub IsAsked : {S : Type 0} → (S → ℕ → Option (List ℕ) → Type 0) → (S → Type 0) → ℕ → ℕ → Held S → Held S → Type 0
IsAsked shows closes now key old new = (All (λ client. client.key ≢ key) old.idle × (new ≡ old)) ⊎ LooksAt shows closes now key old new
