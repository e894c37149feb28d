-- Who came to a run of the program of which nothing fails is told.
use Rattle.std.proofs.Common.{◌≡◌, ◌+◌, ◌∙◌, ℕ, Bool, true, false, List, Result, if◌then◌else◌, ap, arith, refl, sym}
use Rattle.gate_world.specs.Causes.{Faults, Hidden, no_faults}
use Rattle.gate_world.specs.declared.event.Event.{Event}
use Rattle.gate_words.specs.declared.task.Task.{Task}
use Rattle.gate_serving.specs.declared.door.Door.{Door}
use Rattle.gate_serving.specs.declared.door.Door.TheVariants.{Bare, Http}
use Rattle.gate_machine.specs.Progress.{Bears, blame_link}
use Rattle.store_causes.specs.Causes.{loses_link}
use Rattle.gate_serving.specs.declared.front.FrontError.{FrontError}
use Rattle.gate_serving.specs.Complete.{AreObeyedTold, CompletesRun}
use Rattle.gate_serving.specs.GateState.{GateState}
use Rattle.gate_serving.specs.Requests.{Account}
use Rattle.gate_serving.specs.Run.{Run, Stood, account_of, run_blamed}
use Rattle.gate_serving.specs.declared.outcomes.ClientOutcome.{ClientOutcome}
use Rattle.gate_serving.proofs.Told.{ToldLaw}
use Rattle.gateway.specs.Complete.{AnswersAll, AreAnswered, IsTaskAnswered, IsTaskTold, CompletesServing}
use Rattle.gateway.specs.Program.{Performed, Unopened, ServedMany, ServedOnce, StoreUnmade, ServedStore, ShownOne, CheckLacks, CheckedOne, Explained, Runs, Refused, OutOfMemory, Done, IsWholeRun, one_blamed}

abbrev pub RunsLaw : Type 0
RunsLaw = (door : Door) (account : Account) (events : List Event) → CompletesRun door account events

task_told : ToldLaw → RunsLaw → {task : Task} {secrets : Hidden} {status : ℕ} {blames : Faults} {events : List Event} (ran : Performed task secrets status blames events)
    → IsTaskTold ran
task_told law runs (Unopened place a b c d) = tt
task_told law runs {secrets = secrets} (ServedMany place listen most is serves) =
    runs Http (account_of place secrets) serves.serving serves.before serves.after serves.went serves.run
task_told law runs {secrets = secrets} (ServedOnce place is serves) =
    law Bare (account_of place secrets) serves.before serves.serving serves.how serves.after serves.segment
task_told law runs (StoreUnmade listen most a b c d) = tt
task_told law runs (ServedStore listen most a b) = tt
task_told law runs (ShownOne a b) = tt
task_told law runs (CheckLacks store user a b c d) = tt
task_told law runs (CheckedOne store user a b) = tt
task_told law runs (Explained page a b) = tt

-- what comes of each client of a run of the program for whom the store obeyed and of whom nothing is blamed
pub program_told : ToldLaw → RunsLaw → (words : List (List ℕ)) (secrets : Hidden) (status : ℕ) (events : List Event) → CompletesServing words secrets status events
program_told law runs words secrets status events blames (Refused a b c d) = tt
program_told law runs words secrets status events blames (OutOfMemory a b c) = tt
program_told law runs words secrets status events blames (Done task is ran) = task_told law runs ran

-- ---- where no count of faults rose

-- what is proved of the counts, and of a run
abbrev pub BlameLaw : Type 0
BlameLaw = (blames was now : Faults) → Bears blames was now → Stood was now → blames ≡ no_faults

abbrev pub QuietLaw : Type 0
QuietLaw = (door : Door) (account : Account) (before after : GateState) (events : List Event) (went : List ClientOutcome) (run : Run door account before events went after)
    → run_blamed run ≡ no_faults → AreObeyedTold run

-- a check of which nothing is blamed lost no link
not_lost : (lost : Bool) (outcome : Result (Unit {0}) FrontError) → (blame_link (if lost then 1 else 0) (one_blamed outcome)).link ≡ 0 → lost ≡ false
not_lost true outcome none = absurd (omega (arith, none))
not_lost false outcome none = refl

task_answered : ToldLaw → QuietLaw → {task : Task} {secrets : Hidden} {status : ℕ} {blames : Faults} {events : List Event}
    (ran : Performed task secrets status blames events) → blames ≡ no_faults → IsTaskAnswered ran
task_answered law quiet (Unopened place a b c d) none = tt
task_answered law quiet {secrets = secrets} (ServedMany place listen most is serves) none =
    quiet Http (account_of place secrets) serves.before serves.after serves.serving serves.went serves.run (sym serves.blames_are ∙ none)
task_answered law quiet {secrets = secrets} (ServedOnce place is serves) none = λ obeyed.
    law Bare (account_of place secrets) serves.before serves.serving serves.how serves.after serves.segment obeyed (sym serves.blames_are ∙ none)
task_answered law quiet (StoreUnmade listen most a b c d) none = tt
task_answered law quiet (ServedStore listen most is serves) none =
    let both : 0 + serves.failed ≡ 0 = ap (λ (f : Faults). f.front) (sym serves.blames_are ∙ none) in omega (arith, both)
task_answered law quiet (ShownOne a b) none = tt
task_answered law quiet (CheckLacks store user a b c d) none = tt
task_answered law quiet (CheckedOne store user is checks) none =
    not_lost (loses_link checks.report.checked.cause) checks.outcome (ap (λ (f : Faults). f.link) (sym checks.blames_are ∙ none))
task_answered law quiet (Explained page a b) none = tt

runs_answered : ToldLaw → QuietLaw → {words : List (List ℕ)} {secrets : Hidden} {status : ℕ} {blames : Faults} {events : List Event}
    (runs : Runs words secrets status blames events) → blames ≡ no_faults → AreAnswered runs
runs_answered law quiet (Refused a b c d) none = tt
runs_answered law quiet (OutOfMemory a b c) none = tt
runs_answered law quiet (Done task is ran) none = task_answered law quiet ran none

-- each client for whom the store obeyed is told
pub program_answers : BlameLaw → ToldLaw → QuietLaw → (words : List (List ℕ)) (secrets : Hidden) (was now : Faults) (status : ℕ) (events : List Event)
    → IsWholeRun words secrets was now status events → Stood was now → AnswersAll words secrets status events
program_answers blame law quiet words secrets was now status events whole stood =
    (whole.blames, whole.runs, runs_answered law quiet whole.runs (blame whole.blames was now whole.bears stood))
