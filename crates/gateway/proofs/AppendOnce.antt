-- Each creation of an Email of a run of the program has one APPEND at most.
use Rattle.std.proofs.Common.{ℕ, List}
use Rattle.gate_world.specs.Causes.{Faults, Hidden}
use Rattle.gate_world.specs.declared.event.Event.{Event}
use Rattle.gate_words.specs.declared.task.Task.{Task}
use Rattle.gate_serving.specs.declared.door.Door.{Door}
use Rattle.gate_serving.specs.declared.door.Door.TheVariants.{Bare, Http}
use Rattle.gate_serving.specs.declared.outcomes.ClientOutcome.{ClientOutcome}
use Rattle.gate_serving.specs.GateState.{GateState}
use Rattle.gate_serving.specs.Requests.{Account}
use Rattle.gate_serving.specs.Run.{Run, account_of}
use Rattle.gate_serving.specs.Segment.{Segment}
use Rattle.append_laws.specs.Runs.{RunAppendsOnce, SegmentAppendsOnce}
use Rattle.gateway.specs.Appending.{AppendsOnce, TaskAppendsOnce}
use Rattle.gateway.specs.Program.{Performed, Unopened, ServedMany, ServedOnce, StoreUnmade, ServedStore, ShownOne, CheckLacks, CheckedOne, Explained, Refused, OutOfMemory, Done}

-- what is proved of each client, and of those of a run
abbrev pub ClientsLaw : Type 0
ClientsLaw = (door : Door) (account : Account) (before : GateState) (events : List Event) (how : ClientOutcome) (after : GateState)
    (segment : Segment door account before events how after) → SegmentAppendsOnce segment

abbrev pub RunsLaw : Type 0
RunsLaw = (door : Door) (account : Account) (before after : GateState) (events : List Event) (went : List ClientOutcome)
    (run : Run door account before events went after) → RunAppendsOnce run

task_once : ClientsLaw → RunsLaw → {task : Task} {secrets : Hidden} {status : ℕ} {blames : Faults} {events : List Event}
    (ran : Performed task secrets status blames events) → TaskAppendsOnce ran
task_once clients runs (Unopened place a b c d) = tt
task_once clients runs {secrets = secrets} (ServedMany place listen most is serves) =
    runs Http (account_of place secrets) serves.before serves.after serves.serving serves.went serves.run
task_once clients runs {secrets = secrets} (ServedOnce place is serves) =
    clients Bare (account_of place secrets) serves.before serves.serving serves.how serves.after serves.segment
task_once clients runs (StoreUnmade listen most a b c d) = tt
task_once clients runs (ServedStore listen most a b) = tt
task_once clients runs (ShownOne a b) = tt
task_once clients runs (CheckLacks store user a b c d) = tt
task_once clients runs (CheckedOne store user a b) = tt
task_once clients runs (Explained page a b) = tt

pub program_once : ClientsLaw → RunsLaw → (words : List (List ℕ)) (secrets : Hidden) (status : ℕ) (events : List Event) → AppendsOnce words secrets status events
program_once clients runs words secrets status events blames (Refused a b c d) = tt
program_once clients runs words secrets status events blames (OutOfMemory a b c) = tt
program_once clients runs words secrets status events blames (Done task is ran) = task_once clients runs ran
