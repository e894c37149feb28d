-- One APPEND at most for each creation or import of an Email, whatever the clients of a run ask.
use Rattle.std.specs.Prelude.{ℕ, List}
use Rattle.gate_world.specs.Causes.{Faults, Hidden}
use Rattle.gate_world.specs.declared.event.Event.{Event}
use Rattle.gate_words.specs.declared.task.Task.{Task}
use Rattle.append_laws.specs.Runs.{RunAppendsOnce, SegmentAppendsOnce}
use Rattle.gateway.specs.Program.{Performed, Unopened, ServedMany, ServedOnce, StoreUnmade, ServedStore, ShownOne, CheckLacks, CheckedOne, Explained, Runs, Refused, OutOfMemory, Done}

-- Only those that are served at a gate have calls.
abbrev pub TaskAppendsOnce : {task : Task} {secrets : Hidden} {status : ℕ} {blames : Faults} {events : List Event}
    → Performed task secrets status blames events → Type 0
TaskAppendsOnce (Unopened place a b c d) = Unit {0}
TaskAppendsOnce (ServedMany place listen most a serves) = RunAppendsOnce serves.run
TaskAppendsOnce (ServedOnce place a serves) = SegmentAppendsOnce serves.segment
TaskAppendsOnce (StoreUnmade listen most a b c d) = Unit {0}
TaskAppendsOnce (ServedStore listen most a b) = Unit {0}
TaskAppendsOnce (ShownOne a b) = Unit {0}
TaskAppendsOnce (CheckLacks store user a b c d) = Unit {0}
TaskAppendsOnce (CheckedOne store user a b) = Unit {0}
TaskAppendsOnce (Explained page a b) = Unit {0}

abbrev pub ProgramAppendsOnce : {words : List (List ℕ)} {secrets : Hidden} {status : ℕ} {blames : Faults} {events : List Event}
    → Runs words secrets status blames events → Type 0
ProgramAppendsOnce (Refused a b c d) = Unit {0}
ProgramAppendsOnce (OutOfMemory a b c) = Unit {0}
ProgramAppendsOnce (Done task a ran) = TaskAppendsOnce ran

-- Each run of the program over these events is so.
abbrev pub AppendsOnce : List (List ℕ) → Hidden → ℕ → List Event → Type 0
AppendsOnce words secrets status events = (blames : Faults) (runs : Runs words secrets status blames events) → ProgramAppendsOnce runs
