-- What clients are owed.
use Rattle.std.specs.Prelude.{◌≡◌, false, ◌⊎◌, ◌++◌, ℕ, List, [], ◌∷◌, length}
use Rattle.std.specs.List.{flat_map}
use Rattle.gate_world.specs.Causes.{Faults, Hidden, no_faults}
use Rattle.gate_world.specs.Octets.{client_gave_in, client_took_in}
use Rattle.gate_world.specs.declared.event.Event.{Event}
use Rattle.gate_world.specs.declared.event.Event.TheVariants.{Accepted, ClientEnded}
use Rattle.gate_words.specs.Task.{IsTask}
use Rattle.gate_words.specs.declared.task.Task.{Task}
use Rattle.gate_words.specs.declared.task.Task.TheVariants.{Show}
use Rattle.gate_serving.specs.declared.door.Door.TheVariants.{Bare}
use Rattle.gate_serving.specs.Complete.{AreObeyedTold, IsSegmentObeyed, IsClientTold, IsRunTold}
use Rattle.gate_serving.specs.Run.{account_of}
use Rattle.gate_serving.specs.Segment.{blamed}
use Rattle.store_causes.specs.Causes.{loses_link}
use Rattle.gateway.specs.Program.{Performed, Unopened, ServedMany, ServedOnce, StoreUnmade, ServedStore, ShownOne, CheckLacks, CheckedOne, Explained, Runs, Refused, OutOfMemory, Done}
use Rattle.gateway.specs.Show.{message_limit, ShowsObject}

-- all octets that the client gave
abbrev pub asked_for : List Event → List ℕ
asked_for events = flat_map client_gave_in events

-- The client's input is all octets that it gave: it ended, or gave as many as a message has at most.
abbrev pub GivesWhole : List Event → Type 0
GivesWhole events = ((before : List Event) × (after : List Event) × (events ≡ before ++ ClientEnded ∷ after)) ⊎ (length (asked_for events) ≡ message_limit)

-- it took one line, which shows the Email object of what it gave
abbrev pub TellsObject : List Event → Type 0
TellsObject events = GivesWhole events × ShowsObject (asked_for events) (flat_map client_took_in events)

-- whoever comes with a message to be shown is told its Email object; or memory ran out, and nothing was sent
abbrev pub CompletesShow : List (List ℕ) → ℕ → List Event → Type 0
CompletesShow words status events = IsTask words Show → (after : List Event) → events ≡ Accepted ∷ after → TellsObject events
    ⊎ ((status ≡ 5) × (flat_map client_took_in events ≡ []))

-- ---- the program

-- What comes of each client of a task of whom nothing fails and for whom the store obeyed, whatever comes of the others.
abbrev pub IsTaskTold : {task : Task} {secrets : Hidden} {status : ℕ} {blames : Faults} {events : List Event}
    → Performed task secrets status blames events → Type 0
IsTaskTold (Unopened place a b c d) = Unit {0}
IsTaskTold (ServedMany place listen most a serves) = IsRunTold serves.run
IsTaskTold {secrets = secrets} (ServedOnce place a serves) =
    IsSegmentObeyed serves.segment → blamed serves.segment ≡ no_faults → IsClientTold Bare (account_of place secrets) serves.serving serves.how serves.after
IsTaskTold (StoreUnmade listen most a b c d) = Unit {0}
IsTaskTold (ServedStore listen most a b) = Unit {0}
IsTaskTold (ShownOne a b) = Unit {0}
IsTaskTold (CheckLacks store user a b c d) = Unit {0}
IsTaskTold (CheckedOne store user a b) = Unit {0}
IsTaskTold (Explained page a b) = Unit {0}

abbrev pub AreTold : {words : List (List ℕ)} {secrets : Hidden} {status : ℕ} {blames : Faults} {events : List Event}
    → Runs words secrets status blames events → Type 0
AreTold (Refused a b c d) = Unit {0}
AreTold (OutOfMemory a b c) = Unit {0}
AreTold (Done task a ran) = IsTaskTold ran

-- What comes of each client of a task for whom the store obeyed, where nothing is blamed: a small store's clients are served to their ends, a store is checked over a link that isn't lost,
-- or memory ran out.
abbrev pub IsTaskAnswered : {task : Task} {secrets : Hidden} {status : ℕ} {blames : Faults} {events : List Event}
    → Performed task secrets status blames events → Type 0
IsTaskAnswered (Unopened place a b c d) = Unit {0}
IsTaskAnswered (ServedMany place listen most a serves) = AreObeyedTold serves.run
IsTaskAnswered {secrets = secrets} (ServedOnce place a serves) =
    IsSegmentObeyed serves.segment → IsClientTold Bare (account_of place secrets) serves.serving serves.how serves.after
IsTaskAnswered (StoreUnmade listen most a b c d) = Unit {0}
IsTaskAnswered (ServedStore listen most a serves) = serves.failed ≡ 0
IsTaskAnswered (ShownOne a b) = Unit {0}
IsTaskAnswered (CheckLacks store user a b c d) = Unit {0}
IsTaskAnswered (CheckedOne store user a checks) = loses_link checks.report.checked.cause ≡ false
IsTaskAnswered (Explained page a b) = Unit {0}

abbrev pub AreAnswered : {words : List (List ℕ)} {secrets : Hidden} {status : ℕ} {blames : Faults} {events : List Event}
    → Runs words secrets status blames events → Type 0
AreAnswered (Refused a b c d) = Unit {0}
AreAnswered (OutOfMemory a b c) = Unit {0}
AreAnswered (Done task a ran) = IsTaskAnswered ran

-- The events are a run of the program in which each client is told for whom the store obeyed.
abbrev pub AnswersAll : List (List ℕ) → Hidden → ℕ → List Event → Type 0
AnswersAll words secrets status events = (blames : Faults) × (runs : Runs words secrets status blames events) × AreAnswered runs

-- Each such client of a run of the program over these events is told, of whom nothing fails.
abbrev pub CompletesServing : List (List ℕ) → Hidden → ℕ → List Event → Type 0
CompletesServing words secrets status events = (blames : Faults) (runs : Runs words secrets status blames events) → AreTold runs
