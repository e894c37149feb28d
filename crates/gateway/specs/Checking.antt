-- What a store takes that is checked.
use Rattle.std.specs.Prelude.{ℕ, List}
use Rattle.gate_world.specs.Causes.{Faults, Hidden}
use Rattle.gate_world.specs.declared.event.Event.{Event}
use Rattle.gate_words.specs.declared.task.Task.{Task}
use Rattle.store_causes.specs.Reads.{TakesReads}
use Rattle.gateway.specs.Program.{Performed, Unopened, ServedMany, ServedOnce, StoreUnmade, ServedStore, ShownOne, CheckLacks, CheckedOne, Explained, Runs, Refused, OutOfMemory, Done}

-- Where a store is checked, all that it takes is a front of the texts of commands that only read. Of other tasks nothing is said.
abbrev pub TaskChecksByReading : {task : Task} {secrets : Hidden} {status : ℕ} {blames : Faults} {events : List Event}
    → Performed task secrets status blames events → Type 0
TaskChecksByReading (Unopened place a b c d) = Unit {0}
TaskChecksByReading (ServedMany place listen most a serves) = Unit {0}
TaskChecksByReading (ServedOnce place a serves) = Unit {0}
TaskChecksByReading (StoreUnmade listen most a b c d) = Unit {0}
TaskChecksByReading (ServedStore listen most a b) = Unit {0}
TaskChecksByReading (ShownOne a b) = Unit {0}
TaskChecksByReading {events = events} (CheckLacks store user a b c d) = TakesReads 1 events
TaskChecksByReading {events = events} (CheckedOne store user a checks) = TakesReads 1 events
TaskChecksByReading (Explained page a b) = Unit {0}

abbrev pub ProgramChecksByReading : {words : List (List ℕ)} {secrets : Hidden} {status : ℕ} {blames : Faults} {events : List Event}
    → Runs words secrets status blames events → Type 0
ProgramChecksByReading (Refused a b c d) = Unit {0}
ProgramChecksByReading (OutOfMemory a b c) = Unit {0}
ProgramChecksByReading (Done task a ran) = TaskChecksByReading ran

-- Each run of the program over these events is so.
abbrev pub ChecksByReading : List (List ℕ) → Hidden → ℕ → List Event → Type 0
ChecksByReading words secrets status events = (blames : Faults) (runs : Runs words secrets status blames events) → ProgramChecksByReading runs
