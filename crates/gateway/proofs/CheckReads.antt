-- A run of the program that checks a store only reads.
use Rattle.std.proofs.Common.{◌≡◌, ◌++◌, ℕ, List, [], ◌∷◌, Result, Ok, Err, All, inl, inr, refl, ◌∙◌, ap}
use Rattle.std.specs.List.{flat_map}
use Rattle.std.proofs.lemmas.List.{append-nil}
use Rattle.std.proofs.lemmas.List.Concat.{flat_map-append}
use Rattle.std.proofs.lemmas.List.Elements.{All-head, All-tail}
use Rattle.std.specs.declared.alloc.AllocError.{AllocError}
use Rattle.gate_world.specs.Causes.{Faults, Hidden}
use Rattle.gate_world.specs.Octets.{IsClientTook, store_took_in}
use Rattle.gate_world.specs.Sending.{Sends}
use Rattle.gate_world.specs.declared.event.Event.{Event}
use Rattle.gate_world.specs.declared.event.Event.TheVariants.{ClientDone, ClientTook, FrontFailed}
use Rattle.gate_world.specs.declared.outside.Failed.{Failed}
use Rattle.gate_words.specs.declared.task.Task.{Task}
use Rattle.gate_serving.specs.declared.front.FrontError.{FrontError}
use Rattle.gate_serving.specs.declared.front.FrontError.TheVariants as front
use Rattle.store_causes.specs.declared.check.Checked.{Checked}
use Rattle.store_causes.specs.Checks.{Checks}
use Rattle.store_causes.specs.Reads.{TakesReads}
use Rattle.gateway.specs.Checking.{ChecksByReading, TaskChecksByReading}
use Rattle.gateway.specs.Explain.{Explains, NoneComes, NotAccepted, Told}
use Rattle.gateway.specs.Program.{ChecksOne, EndsCheck, IsSaid, Performed, Unopened, ServedMany, ServedOnce, StoreUnmade, ServedStore, ShownOne, CheckLacks, CheckedOne, Explained, Refused, OutOfMemory, Done, front_failed}

-- what is proved of a check
abbrev pub ChecksLaw : Type 0
ChecksLaw = (user password : List ℕ) (result : Result Checked AllocError) (events : List Event) → Checks user password result events → TakesReads 1 events

-- ---- what tells the report

-- the store takes nothing of these events
abbrev TakesNone : List Event → Type 0
TakesNone events = flat_map store_took_in events ≡ []

client_takes : (event : Event) → IsClientTook event → store_took_in event ≡ []
client_takes (ClientTook octets) is = refl
client_takes _ is = absurd is

clients_take : (events : List Event) → All IsClientTook events → TakesNone events
clients_take [] all = refl
clients_take (event ∷ events) all =
    (λ i. client_takes event (All-head IsClientTook event events all) i ++ clients_take events (All-tail IsClientTook event events all) i)

then_none : (first : List Event) (last : Event) → TakesNone first → store_took_in last ≡ [] → TakesNone (first ++ last ∷ [])
then_none first last none is = flat_map-append store_took_in first (last ∷ []) ∙ (λ i. none i ++ (is i ++ []))

sending_takes : (text : List ℕ) (sent : Result (Unit {0}) Failed) (events : List Event) → Sends text sent events → TakesNone events
sending_takes text (Ok u) events hears = clients_take events hears.kind
sending_takes text (Err f) events (heard, took, rest, whole, hears, is, more) =
    ap (λ (l : List Event). flat_map store_took_in l) whole ∙ then_none heard FrontFailed (clients_take heard hears.kind) refl

telling_takes : {text : List ℕ} {outcome : Result (Unit {0}) FrontError} {events : List Event} → Explains text outcome events → TakesNone events
telling_takes (NoneComes is so) = ap (λ (l : List Event). flat_map store_took_in l) is
telling_takes (NotAccepted is so) = ap (λ (l : List Event). flat_map store_took_in l) is
telling_takes {text} (Told heard sent is sends so) =
    ap (λ (l : List Event). flat_map store_took_in l) is ∙ then_none heard ClientDone (sending_takes text sent heard sends) refl

saying_takes : (line : List ℕ) (events : List Event) → IsSaid line events → TakesNone events
saying_takes line events (inl is) = ap (λ (l : List Event). flat_map store_took_in l) is
saying_takes line events (inr is) = ap (λ (l : List Event). flat_map store_took_in l) is

ending_takes : (found : ℕ) (outcome : Result (Unit {0}) FrontError) (status : ℕ) (said : List Event) → EndsCheck found outcome status said → TakesNone said
ending_takes found (Ok u) status said so = ap (λ (l : List Event). flat_map store_took_in l) so.1
ending_takes found (Err front.Memory) status said so = ap (λ (l : List Event). flat_map store_took_in l) so.1
ending_takes found (Err front.Failed) status said so = saying_takes front_failed said so.1

reads_before : {n : ℕ} (first rest events : List Event) → TakesReads n first → TakesNone rest → events ≡ first ++ rest → TakesReads n events
reads_before first rest events reads none whole = record {
  commands = reads.commands;
  only = reads.only;
  unsent = reads.unsent;
  taken = ap (λ (l : List ℕ). l ++ reads.unsent)
      (ap (λ (l : List Event). flat_map store_took_in l) whole ∙ flat_map-append store_took_in first rest
      ∙ ap (λ (l : List ℕ). flat_map store_took_in first ++ l) none ∙ append-nil (flat_map store_took_in first)) ∙ reads.taken;
}

check_reads : ChecksLaw → {store user password : List ℕ} {status : ℕ} {blames : Faults} {events : List Event} → ChecksOne store user password status blames events
    → TakesReads 1 events
check_reads law {user = user} {password} {status} {events = events} checks =
    reads_before checks.checking (checks.telling ++ checks.said) events (law user password (Ok checks.report.checked) checks.checking checks.report.checks)
    (flat_map-append store_took_in checks.telling checks.said
    ∙ (λ i. telling_takes checks.explains i ++ ending_takes checks.found checks.outcome status checks.said checks.ends i)) checks.whole

-- ---- a run

task_reads : ChecksLaw → {task : Task} {secrets : Hidden} {status : ℕ} {blames : Faults} {events : List Event}
    (ran : Performed task secrets status blames events) → TaskChecksByReading ran
task_reads law (Unopened place a b c d) = tt
task_reads law (ServedMany place listen most a serves) = tt
task_reads law (ServedOnce place a serves) = tt
task_reads law (StoreUnmade listen most a b c d) = tt
task_reads law (ServedStore listen most a b) = tt
task_reads law (ShownOne a b) = tt
task_reads law {secrets = secrets} {events = events} (CheckLacks store user a lacks c d) = law user secrets.password lacks.0 events lacks.1
task_reads law (CheckedOne store user a checks) = check_reads law checks
task_reads law (Explained page a b) = tt

pub program_reads : ChecksLaw → (words : List (List ℕ)) (secrets : Hidden) (status : ℕ) (events : List Event) → ChecksByReading words secrets status events
program_reads law words secrets status events blames (Refused a b c d) = tt
program_reads law words secrets status events blames (OutOfMemory a b c) = tt
program_reads law words secrets status events blames (Done task is ran) = task_reads law ran
