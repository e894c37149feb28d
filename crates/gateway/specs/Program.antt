-- A run of the program over its words and the outside.
use Rattle.std.specs.Prelude.{◌≡◌, ◌⊎◌, ◌++◌, ℕ, List, [], ◌∷◌, if◌then◌else◌, Option, Some, None, Result, Ok, Err, codes}
use Rattle.gate_world.specs.Causes.{Faults, Hidden, no_faults}
use Rattle.gate_world.specs.declared.event.Event.{Event}
use Rattle.gate_world.specs.declared.event.Event.TheVariants.{Said, SayFailed}
use Rattle.gate_words.specs.Pages.{page_text}
use Rattle.gate_words.specs.Task.{IsTask}
use Rattle.gate_words.specs.declared.page.Page.{Page}
use Rattle.gate_words.specs.declared.place.Place.{Place}
use Rattle.gate_words.specs.declared.task.Task.{Task}
use Rattle.gate_words.specs.declared.task.Task.TheVariants.{Serve, Once, Store, Show, Check, Explain}
use Rattle.gate_machine.specs.Progress.{Bears, blame_link}
use Rattle.store_causes.specs.declared.cause.StoreCause.{StoreCause}
use Rattle.store_causes.specs.Causes.{loses_link}
use Rattle.honest_store.specs.Sessions.{StoreSession}
use Rattle.small_answers.specs.Changes.{first_session}
use Rattle.store_sessions.specs.Clients.{ServesSessions}
use Rattle.gate_serving.specs.declared.door.Door.TheVariants.{Bare, Http}
use Rattle.gate_serving.specs.declared.front.FrontError.{FrontError}
use Rattle.gate_serving.specs.declared.front.FrontError.TheVariants as front
use Rattle.gate_serving.specs.declared.outcomes.ClientOutcome.{ClientOutcome}
use Rattle.gate_serving.specs.declared.outcomes.ClientOutcome.TheVariants as served
use Rattle.gate_serving.specs.GateState.{GateState}
use Rattle.gate_serving.specs.Run.{Run, Ends, Opens, account_of, run_blamed}
use Rattle.gate_serving.specs.Segment.{Segment, blamed, blame_front}
use Rattle.gateway.specs.Explain.{Explains}
use Rattle.gateway.specs.Check.{IsReport, LacksReport}
use Rattle.gateway.specs.Show.{Shows}

-- ---- what is said

-- a line on the console, or that it failed
abbrev pub IsSaid : List ℕ → List Event → Type 0
IsSaid line events = (events ≡ Said line ∷ []) ⊎ (events ≡ SayFailed ∷ [])

abbrev pub words_refused : List ℕ
words_refused = codes "jmapgate: words refused\n"

abbrev pub front_failed : List ℕ
front_failed = codes "jmapgate: front failed\n"

-- the front failed, and that is said
abbrev pub EndsFailed : ℕ → List Event → Type 0
EndsFailed status said = (status ≡ 6) × IsSaid front_failed said

abbrev pub EndsDone : ℕ → List Event → Type 0
EndsDone status said = (status ≡ 0) × (said ≡ [])

-- The status after one client on standard input, and what is said: whatever of the front fails ends in status 6.
abbrev pub EndsOnce : ClientOutcome → ℕ → List Event → Type 0
EndsOnce served.Whole status said = EndsDone status said
EndsOnce served.NoMore status said = EndsDone status said
EndsOnce served.Part status said = EndsFailed status said
EndsOnce served.AcceptFault status said = EndsFailed status said

-- The same after clients over HTTP, of whom n may come: a fault ends in status 6 where no client could be accepted.
abbrev pub EndsServing : ℕ → List ClientOutcome → ℕ → List Event → Type 0
EndsServing most went status said = Ends most went status × (EndsDone status said ⊎ EndsFailed status said)

-- The same after clients of the small store: a fault ends in status 6 where no client could be accepted.
abbrev pub EndsStore : ℕ → List Event → Type 0
EndsStore status said = EndsFailed status said ⊎ ((status ≡ 6 → ⊥) × (said ≡ []))

-- the same after one that gives a message, or is told a page
abbrev pub EndsOne : Result (Unit {0}) FrontError → ℕ → List Event → Type 0
EndsOne (Ok _) status said = EndsDone status said
EndsOne (Err front.Memory) status said = (status ≡ 5) × (said ≡ [])
EndsOne (Err front.Failed) status said = EndsFailed status said

abbrev pub one_blamed : Result (Unit {0}) FrontError → Faults
one_blamed (Err front.Failed) = blame_front 1 no_faults
one_blamed _ = no_faults

-- the same of a check, where the link was lost too
abbrev pub check_blamed : Option StoreCause → Result (Unit {0}) FrontError → Faults
check_blamed cause outcome = blame_link (if loses_link cause then 1 else 0) (one_blamed outcome)

-- The status after one that is told the report on a store, by the status of that, and what is said: status 6 where the front failed, whatever was found out.
abbrev pub EndsCheck : ℕ → Result (Unit {0}) FrontError → ℕ → List Event → Type 0
EndsCheck found (Ok _) status said = (status ≡ found) × (said ≡ [])
EndsCheck found (Err e) status said = EndsOne (Err e) status said

-- ---- what tasks add

-- the task opens a gate at this place
abbrev pub IsAt : Task → Place → Type 0
IsAt (Serve place listen connections) at = place ≡ at
IsAt (Once place) at = place ≡ at
IsAt (Store listen connections) at = ⊥
IsAt Show at = ⊥
IsAt (Check store user) at = ⊥
IsAt (Explain page) at = ⊥

-- it has nothing to do with a store over the link
abbrev pub IsApart : Task → Type 0
IsApart (Store listen connections) = Unit {0}
IsApart Show = Unit {0}
IsApart (Explain page) = Unit {0}
IsApart (Serve place listen connections) = ⊥
IsApart (Once place) = ⊥
IsApart (Check store user) = ⊥

-- it checks a store
abbrev pub ChecksStore : Task → Type 0
ChecksStore (Check store user) = Unit {0}
ChecksStore _ = ⊥

-- A gate is opened and clients are served over HTTP.
pub record ServesClients (place : Place) (most : ℕ) (secrets : Hidden) (status : ℕ) (blames : Faults) (events : List Event) : Type 0 where
  pub opening : List Event
  pub serving : List Event
  pub said : List Event
  pub before : GateState
  pub after : GateState
  pub went : List ClientOutcome
  pub opens : Opens (Some before) opening
  pub run : Run Http (account_of place secrets) before serving went after
  pub ends : EndsServing most went status said
  pub blames_are : blames ≡ run_blamed run
  pub whole : events ≡ (opening ++ serving) ++ said

-- A gate is opened and one client is served on standard input.
pub record ServesOne (place : Place) (secrets : Hidden) (status : ℕ) (blames : Faults) (events : List Event) : Type 0 where
  pub opening : List Event
  pub serving : List Event
  pub said : List Event
  pub before : GateState
  pub after : GateState
  pub how : ClientOutcome
  pub opens : Opens (Some before) opening
  pub segment : Segment Bare (account_of place secrets) before serving how after
  pub ends : EndsOnce how status said
  pub blames_are : blames ≡ blamed segment
  pub whole : events ≡ (opening ++ serving) ++ said

-- A small store in memory serves clients, from its first mail on.
pub record ServesStore (most : ℕ) (status : ℕ) (blames : Faults) (events : List Event) : Type 0 where
  pub serving : List Event
  pub said : List Event
  pub failed : ℕ
  pub after : StoreSession
  pub serves : ServesSessions first_session most status failed serving after
  pub ends : EndsStore status said
  pub blames_are : blames ≡ blame_front failed no_faults
  pub whole : events ≡ serving ++ said

-- One client is shown its message.
pub record ShowsOne (status : ℕ) (blames : Faults) (events : List Event) : Type 0 where
  pub shown : List Event
  pub said : List Event
  pub outcome : Result (Unit {0}) FrontError
  pub shows : Shows outcome shown
  pub ends : EndsOne outcome status said
  pub blames_are : blames ≡ one_blamed outcome
  pub whole : events ≡ shown ++ said

-- One client is told a page.
pub record ExplainsOne (page : Page) (status : ℕ) (blames : Faults) (events : List Event) : Type 0 where
  pub explained : List Event
  pub said : List Event
  pub outcome : Result (Unit {0}) FrontError
  pub explains : Explains (page_text page) outcome explained
  pub ends : EndsOne outcome status said
  pub blames_are : blames ≡ one_blamed outcome
  pub whole : events ≡ explained ++ said

-- A store is checked, and then one client is told the report on it.
pub record ChecksOne (store user password : List ℕ) (status : ℕ) (blames : Faults) (events : List Event) : Type 0 where
  pub checking : List Event
  pub telling : List Event
  pub said : List Event
  pub text : List ℕ
  pub found : ℕ
  pub outcome : Result (Unit {0}) FrontError
  pub report : IsReport store user password text found checking
  pub explains : Explains text outcome telling
  pub ends : EndsCheck found outcome status said
  pub blames_are : blames ≡ check_blamed report.checked.cause outcome
  pub whole : events ≡ checking ++ (telling ++ said)

-- What a task adds, with its status and the faults that are blamed.
pub data Performed (task : Task) (secrets : Hidden) (status : ℕ) (blames : Faults) (events : List Event) : Type 0 where
  -- opening came to nothing
  Unopened : (place : Place) → IsAt task place → Opens None events → status ≡ 5 → blames ≡ no_faults
      → Performed task secrets status blames events
  ServedMany : (place : Place) (listen : List ℕ) (most : ℕ) → task ≡ Serve place listen most → ServesClients place most secrets status blames events
      → Performed task secrets status blames events
  ServedOnce : (place : Place) → task ≡ Once place → ServesOne place secrets status blames events → Performed task secrets status blames events
  -- there was no memory for the store
  StoreUnmade : (listen : List ℕ) (most : ℕ) → task ≡ Store listen most → status ≡ 5 → events ≡ [] → blames ≡ no_faults
      → Performed task secrets status blames events
  ServedStore : (listen : List ℕ) (most : ℕ) → task ≡ Store listen most → ServesStore most status blames events → Performed task secrets status blames events
  ShownOne : task ≡ Show → ShowsOne status blames events → Performed task secrets status blames events
  -- memory ran out before what was found out could be told
  CheckLacks : (store user : List ℕ) → task ≡ Check store user → LacksReport user secrets.password events → status ≡ 5 → blames ≡ no_faults
      → Performed task secrets status blames events
  CheckedOne : (store user : List ℕ) → task ≡ Check store user → ChecksOne store user secrets.password status blames events
      → Performed task secrets status blames events
  Explained : (page : Page) → task ≡ Explain page → ExplainsOne page status blames events → Performed task secrets status blames events

-- The run of the program over its words: they are refused, memory runs out before anything is asked of the outside, or what
-- their task adds.
pub data Runs (words : List (List ℕ)) (secrets : Hidden) (status : ℕ) (blames : Faults) (events : List Event) : Type 0 where
  Refused : ((task : Task) → IsTask words task → ⊥) → status ≡ 2 → IsSaid words_refused events → blames ≡ no_faults → Runs words secrets status blames events
  OutOfMemory : status ≡ 5 → events ≡ [] → blames ≡ no_faults → Runs words secrets status blames events
  Done : (task : Task) → IsTask words task → Performed task secrets status blames events → Runs words secrets status blames events

-- ---- what calls add

-- what showing one client its message adds
abbrev pub RunsShow : ℕ → List Event → Type 0
RunsShow status events = (shown : List Event) × (said : List Event) × (outcome : Result (Unit {0}) FrontError) × (events ≡ shown ++ said) × Shows outcome shown
    × EndsOne outcome status said

-- what telling one client a page adds
abbrev pub RunsExplain : List ℕ → ℕ → List Event → Type 0
RunsExplain text status events = (explained : List Event) × (said : List Event) × (outcome : Result (Unit {0}) FrontError) × (events ≡ explained ++ said)
    × Explains text outcome explained × EndsOne outcome status said

-- what telling one client the report on a store adds, of which this is the status
abbrev pub TellsReport : List ℕ → ℕ → ℕ → List Event → Type 0
TellsReport text found status events = (telling : List Event) × (said : List Event) × (outcome : Result (Unit {0}) FrontError) × (events ≡ telling ++ said)
    × Explains text outcome telling × EndsCheck found outcome status said

-- what a task adds, the counts bearing its blames
pub record Performs (task : Task) (secrets : Hidden) (was now : Faults) (status : ℕ) (events : List Event) : Type 0 where
  pub blames : Faults
  pub ran : Performed task secrets status blames events
  pub bears : Bears blames was now

-- the same of the whole run
pub record IsWholeRun (words : List (List ℕ)) (secrets : Hidden) (was now : Faults) (status : ℕ) (events : List Event) : Type 0 where
  pub blames : Faults
  pub runs : Runs words secrets status blames events
  pub bears : Bears blames was now

-- the same of serving a small store
abbrev pub RunsStore : ℕ → Faults → Faults → ℕ → List Event → Type 0
RunsStore most was now status events = (listen : List ℕ) (secrets : Hidden) → Performs (Store listen most) secrets was now status events
