-- What stands in a world with a store behind its link, and what each call leaves there.
use Rattle.std.specs.Prelude.{◌≡◌, ◌⊎◌, ℕ, ◌+◌, ◌-◌, ◌^◌, ◌<◌, List, [], ◌∷◌, ◌++◌, length, take, drop, min, codes, Bool, true, false, All}
use Rattle.std.specs.Prelude.{Option, Some, None, IsNone, IsSome, Result, Ok, Err, Vec}
use Rattle.std.specs.declared.alloc.Global.{Global}
use Rattle.gate_world.specs.Causes.{Faults}
use Rattle.gate_world.specs.declared.event.Event.{Event}
use Rattle.gate_world.specs.declared.outside.Failed.{Failed}
use Rattle.gate_world.specs.declared.outside.KeepError.{KeepError}
use Rattle.gate_world.specs.declared.outside.KeepError.TheVariants as keeping
use Rattle.honest_store.specs.Sessions.{StoreSession}
use Rattle.scripted_world.specs.declared.left.Left.{Left}
use Rattle.scripted_world.specs.declared.script.Script.{Script}
use Rattle.scripted_world.specs.Script as script
use Rattle.scripted_world.specs.Script.{Scripted, plain}
use Rattle.small_answers.specs.Answers.{unselected}
use Rattle.small_answers.specs.Changes.{first_session}
use Rattle.store_sessions.specs.Sessions.{greeting}
use Rattle.store_world.specs.Replies.{AnswersSome, Replies}

-- The world without its store: tape, secrets, clients and kept batches; the session over the store; octets that came over the link and of which no command
-- is answered yet; octets that the store told and that aren't read yet; how often the link and the keeper failed; and what the last client took,
-- as long as there is memory for it.
pub record StoreBehindLink : Type 0 where
  pub steady : Scripted
  pub session : StoreSession
  pub unread : List ℕ
  pub ready : List ℕ
  pub link_faults : ℕ
  pub keep_faults : ℕ
  pub sent : Option (List ℕ)

abbrev pub faults_of : StoreBehindLink → Faults
faults_of w = record { link = w.link_faults; keep = w.keep_faults; front = 0; say = 0 }

-- the octets, as long as the tape is told
abbrev pub while_told : Option (List Event) → Option (List ℕ) → Option (List ℕ)
while_told None octets = None
while_told (Some events) octets = octets

-- what the last client took, unless memory was wanting for it, for an event or for an answer
abbrev pub sent_of : StoreBehindLink → Option (List ℕ)
sent_of w = while_told w.steady.tape w.sent

-- the world is this one, but for its tape
abbrev pub IsButForTape : StoreBehindLink → StoreBehindLink → Type 0
IsButForTape w this = w ≡ record this { steady = record this.steady { tape = w.steady.tape } }

-- the world is this one, but for what its link leads to
abbrev pub IsButForLink : StoreBehindLink → StoreBehindLink → Type 0
IsButForLink w this = w ≡ record this { session = w.session; unread = w.unread; ready = w.ready }

-- with this left of the clients
abbrev pub with_left : StoreBehindLink → Left → StoreBehindLink
with_left w left = record w { steady = record w.steady { left = left } }

-- ---- the first world

-- password and token
abbrev pub drill : List ℕ
drill = codes "drill"

abbrev pub drill_script : List (List ℕ) → Script
drill_script clients = record plain { clients = clients; password = drill; token = drill }

-- a world before its first call
abbrev pub begun : List (List ℕ) → StoreBehindLink
begun clients =
    record { steady = script.begun (drill_script clients); session = first_session; unread = []; ready = []; link_faults = 0; keep_faults = 0; sent = Some [] }

-- ---- the owner's side

abbrev pub with_session : StoreBehindLink → StoreSession → StoreBehindLink
with_session w session = record w { session = session }

-- one client more comes, after the others
abbrev pub with_client : StoreBehindLink → List ℕ → StoreBehindLink
with_client w octets = with_left w (script.with_client w.steady.left octets)

-- ---- the link

-- a link life began: the greeting stands ready, and no folder is selected
abbrev pub dialed : StoreBehindLink → StoreBehindLink
dialed w = record (with_left w (script.dialed w.steady.left)) { session = unselected w.session; unread = []; ready = greeting }

-- the link life ended
abbrev pub hung_up : StoreBehindLink → StoreBehindLink
hung_up w = record (with_left w (script.ended w.steady.left)) { unread = []; ready = [] }

-- So many octets were put at the front of the room: what stands ready, as much as fits, and octets 0 where nothing does.
abbrev pub Reads : List ℕ → List ℕ → ℕ → Type 0
Reads [] room count = (count ≡ length room) × All (λ octet. octet ≡ 0) room
Reads (octet ∷ octets) room count =
    (count ≡ min (length (octet ∷ octets)) (length room)) × (take count room ≡ take count (octet ∷ octets))

-- octets that stood ready were read
abbrev pub read_on : ℕ → StoreBehindLink → StoreBehindLink
read_on count w = record w { ready = drop count w.ready }

-- the store read all but the rest, and told this
abbrev pub replied : List ℕ → StoreSession → List ℕ → StoreBehindLink → StoreBehindLink
replied told session rest w = record w { session = session; unread = rest; ready = w.ready ++ told }

-- memory was wanting: the link failed and its life ended, and what the client took is told no longer
abbrev pub broken : StoreSession → StoreBehindLink → StoreBehindLink
broken session w = record (hung_up w) { session = session; link_faults = min (w.link_faults + 1) (2 ^ 64 - 1); sent = None }

-- The store replies to the commands that have come with these octets. Or memory is wanting, and it answered some of them. Without a link life
-- nothing comes of the octets.
pub data Writes (octets : List ℕ) (w : StoreBehindLink) : StoreBehindLink → Result ℕ Failed → Type 0 where
  Unlinked : {after : StoreBehindLink} {count : ℕ} → IsNone w.steady.left.link → IsButForTape after w → Writes octets w after (Ok count)
  Replied : {after : StoreBehindLink} {count : ℕ} {told rest : List ℕ} {session : StoreSession} → IsSome w.steady.left.link
      → Replies w.session (w.unread ++ octets) told session rest → IsButForTape after (replied told session rest w) → Writes octets w after (Ok count)
  Broken : {after : StoreBehindLink} {session : StoreSession} {failed : Failed} → IsSome w.steady.left.link
      → AnswersSome w.session (w.unread ++ octets) session → IsButForTape after (broken session w) → Writes octets w after (Err failed)

-- ---- the keeper

-- the batches that are kept, in the order in which they were appended
abbrev pub held : StoreBehindLink → List (List ℕ)
held w = script.held w.steady.left

-- one batch more is kept, after the others
abbrev pub with_batch : List ℕ → StoreBehindLink → StoreBehindLink
with_batch batch w = with_left w (script.with_batch batch w.steady.left)

-- the keeper failed, and no batch more is kept
abbrev pub unkept : StoreBehindLink → StoreBehindLink
unkept w = record w { keep_faults = min (w.keep_faults + 1) (2 ^ 64 - 1) }

-- a load gives the batches that are held, or memory is wanting for them
abbrev pub Loads : StoreBehindLink → Result (Vec (List ℕ) Global) KeepError → Type 0
Loads w (Ok batches) = batches.items ≡ held w
Loads w (Err keeping.Failed) = ⊥
Loads w (Err keeping.Memory) = Unit {0}

-- An append keeps its batch. It fails where memory is wanting for it: the batch isn't kept, and the tape is told no longer.
abbrev pub Appends : List ℕ → StoreBehindLink → StoreBehindLink → Result (Unit {0}) Failed → Type 0
Appends batch w after (Ok _) = IsButForTape after (with_batch batch w)
Appends batch w after (Err _) = IsButForTape after (unkept w) × (after.steady.tape ≡ None)

-- ---- the clients

-- none are taken yet, where octets are told
abbrev pub emptied : Option (List ℕ) → Option (List ℕ)
emptied None = None
emptied (Some octets) = Some []

-- the next client came
abbrev pub accepted : StoreBehindLink → StoreBehindLink
accepted w = record (with_left w (script.accepted w.steady.left)) { sent = emptied w.sent }

-- an accept gives the next client, where there is one
abbrev pub Accepts : StoreBehindLink → StoreBehindLink → Bool → Type 0
Accepts w after true = (0 < length w.steady.left.script.clients) × IsButForTape after (accepted w)
Accepts w after false = (w.steady.left.script.clients ≡ []) × IsButForTape after w

-- the client gave octets
abbrev pub received_on : ℕ → StoreBehindLink → StoreBehindLink
received_on count w = with_left w (script.received_on count w.steady.left)

-- these octets follow those that are told; or memory was wanting, and none are told
abbrev pub Follow : List ℕ → Option (List ℕ) → Option (List ℕ) → Type 0
Follow octets before after = (after ≡ None) ⊎ ((told : List ℕ) × (before ≡ Some told) × (after ≡ Some (told ++ octets)))

-- the client took octets
abbrev pub Sends : List ℕ → StoreBehindLink → StoreBehindLink → Type 0
Sends octets w after = Follow octets w.sent after.sent × IsButForTape after (record w { sent = after.sent })

-- ---- chance

-- the clock was asked
abbrev pub asked_clock : StoreBehindLink → StoreBehindLink
asked_clock w = with_left w (script.asked_clock w.steady.left)

-- a word was drawn
abbrev pub drawn : StoreBehindLink → StoreBehindLink
drawn w = with_left w (script.drawn w.steady.left)
