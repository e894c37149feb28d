-- Clients one after another.
use Rattle.std.specs.Prelude.{◌≡◌, ◌⊎◌, ◌<◌, ◌+◌, ◌-◌, ◌^◌, ◌++◌, ℕ, List, [], ◌∷◌, length, All, Option, Some, None}
use Rattle.gate_world.specs.Causes.{Faults, Hidden, no_faults}
use Rattle.gate_world.specs.declared.event.Event.{Event}
use Rattle.gate_world.specs.declared.event.Event.TheVariants.{Word}
use Rattle.gate_words.specs.declared.place.Place.{Place}
use Rattle.gate_machine.specs.Progress.{Bears}
use Rattle.gate_serving.specs.declared.door.Door.{Door}
use Rattle.gate_serving.specs.declared.outcomes.ClientOutcome.{ClientOutcome}
use Rattle.gate_serving.specs.declared.outcomes.ClientOutcome.TheVariants as served
use Rattle.gate_serving.specs.GateState.{GateState, new_state}
use Rattle.gate_serving.specs.Requests.{Account}
use Rattle.gate_serving.specs.Segment.{Segment, blamed}

-- ---- counts

abbrev pub sum_of_faults : Faults → Faults → Faults
sum_of_faults f g = record { link = f.link + g.link; keep = f.keep + g.keep; front = f.front + g.front; say = f.say + g.say }

-- no count rose, and none stands at its end
pub record Stood (was now : Faults) : Type 0 where
  pub same : now ≡ was
  pub link : was.link < 2 ^ 64 - 1
  pub keep : was.keep < 2 ^ 64 - 1
  pub front : was.front < 2 ^ 64 - 1
  pub say : was.say < 2 ^ 64 - 1

-- ---- runs

-- one segment more: what the gate holds before and after it, what it adds, and how the client was served
pub record NextSegment (door : Door) (account : Account) : Type 0 where
  pub before : GateState
  pub events : List Event
  pub how : ClientOutcome
  pub after : GateState
  pub segment : Segment door account before events how after

-- Segments one after another, and how each client was served.
pub data Run (door : Door) (account : Account) (before : GateState) : List Event → List ClientOutcome → GateState → Type 0 where
  Begun : Run door account before [] [] before
  Then : {events : List Event} {went : List ClientOutcome} (next : NextSegment door account) → Run door account before events went next.before
      → Run door account before (events ++ next.events) (went ++ next.how ∷ []) next.after

abbrev pub run_blamed : {door : Door} {account : Account} {before after : GateState} {events : List Event} {went : List ClientOutcome}
    → Run door account before events went after → Faults
run_blamed Begun = no_faults
run_blamed (Then next run) = sum_of_faults (run_blamed run) (blamed next.segment)

-- a client came, and the program goes on
abbrev pub IsClient : ClientOutcome → Type 0
IsClient served.Whole = Unit {0}
IsClient served.Part = Unit {0}
IsClient _ = ⊥

-- How a run of at most n clients ends: after the last of them, after the last that came, or where accepting failed.
pub data Ends (most : ℕ) (went : List ClientOutcome) (status : ℕ) : Type 0 where
  AllServed : All IsClient went → length went ≡ most → status ≡ 0 → Ends most went status
  NoneLeft : (clients : List ClientOutcome) → went ≡ clients ++ served.NoMore ∷ [] → All IsClient clients → length clients < most → status ≡ 0 → Ends most went status
  NotAccepted : (clients : List ClientOutcome) → went ≡ clients ++ served.AcceptFault ∷ [] → All IsClient clients → length clients < most → status ≡ 6
      → Ends most went status

-- ---- what calls add

-- One segment; the counts bear its blames.
pub record AddsSegment (door : Door) (account : Account) (before after : GateState) (was now : Faults) (how : ClientOutcome) (events : List Event) : Type 0 where
  pub segment : Segment door account before events how after
  pub bears : Bears (blamed segment) was now

-- A run that goes on after n clients.
pub record RunsTo (door : Door) (account : Account) (before after : GateState) (clients : ℕ) (was now : Faults) (events : List Event) : Type 0 where
  pub went : List ClientOutcome
  pub run : Run door account before events went after
  pub came : All IsClient went
  pub counted : length went ≡ clients
  pub bears : Bears (run_blamed run) was now

-- A whole run.
pub record IsServingRun (door : Door) (account : Account) (before after : GateState) (most : ℕ) (was now : Faults) (status : ℕ)
    (events : List Event) : Type 0 where
  pub went : List ClientOutcome
  pub run : Run door account before events went after
  pub ends : Ends most went status
  pub bears : Bears (run_blamed run) was now

-- who is served at this place
abbrev pub account_of : Place → Hidden → Account
account_of place secrets = record { user = place.user; password = secrets.password; token = secrets.token; base = place.base }

-- What opening a gate adds, and what the gate holds: an epoch is drawn; or there is no memory for it, before that or then.
abbrev pub Opens : Option GateState → List Event → Type 0
Opens (Some s) events = (epoch : ℕ) × (events ≡ Word epoch ∷ []) × (s ≡ new_state epoch)
Opens None events = (events ≡ []) ⊎ ((epoch : ℕ) × (events ≡ Word epoch ∷ []))
