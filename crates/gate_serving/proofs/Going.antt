-- Histories go on from client to client, unless another epoch is drawn.
use Rattle.std.proofs.Common.{◌++◌, ◌∷◌, List, [], ℕ, Option, Result, refl, sym, ap, subst, inl, inr}
use Rattle.gate_world.specs.declared.event.Event.{Event}
use Rattle.gate_world.specs.declared.event.Event.TheVariants.{Accepted, ClientDone}
use Rattle.email_bodies.specs.Asking.{BodyAsk}
use Rattle.jmap_arguments.specs.declared.method_error.MethodError.{MethodError}
use Rattle.set_calls.specs.Calls.{SetCall}
use Rattle.set_jobs.specs.declared.done.Done.{Done}
use Rattle.set_order.specs.Ordered.{Item}
use Rattle.gate_changes.specs.Changing.{ChangesMail, LacksChange}
use Rattle.gate_machine.specs.Beginning.{PreparesMail}
use Rattle.gate_machine.specs.Fetching.{CallsAsk}
use Rattle.gate_machine.specs.Going.{MachineGoesOn}
use Rattle.gate_machine.specs.Machine.{MachineState}
use Rattle.gate_machine.specs.Progress.{Progress}
use Rattle.gate_machine.proofs.Going.{goes_after, goes_before, goes_both, goes_by_events, goes_nowhere, goes_still}
use Rattle.gate_serving.specs.declared.door.Door.{Door}
use Rattle.gate_serving.specs.declared.outcomes.ClientOutcome.{ClientOutcome}
use Rattle.gate_serving.specs.GateState.{GateState}
use Rattle.gate_serving.specs.Histories.{WasHeld, IsRunKept}
use Rattle.gate_serving.specs.Requests.{Account, Asking}
use Rattle.gate_serving.specs.Run.{Run, Begun, Then}
use Rattle.gate_serving.specs.Segment.{Replies, Answered, LacksReading, LacksAnswering, Segment, NoneComes, NotAccepted, Left, Unasked, Replied}
use Rattle.gate_serving.specs.Answers.{Answer}
use Rattle.gate_serving.specs.Doing.{Does}
use Rattle.gate_serving.specs.RequestWork.{RequestWork, NoMail, WithMail}
use Rattle.gate_serving.proofs.Doing.{does_through}

-- what is proved of a request's way to the mail
abbrev pub Law : Type 0
Law = (user password : List ℕ) (before : MachineState) (events : List Event) (after : Progress) → PreparesMail user password before events after
    → MachineGoesOn before events after.machine

-- and of what its calls ask
abbrev pub CallsLaw : Type 0
CallsLaw = (before : Progress) (asks : List BodyAsk) (events : List Event) (after : Progress) → CallsAsk before asks events after
    → MachineGoesOn before.machine events after.machine

-- of calls that change mail
pub record ChangesLaw : Type 0 where
  pub changes : (call : SetCall) (items : List Item) (before : Progress) (result : Result (List (Item × Done)) MethodError) (events : List Event) (after : Progress)
      → ChangesMail call items before result events after → MachineGoesOn before.machine events after.machine
  pub lacks : (call : SetCall) (items : List Item) (before : Progress) (events : List Event) (after : Progress) → LacksChange call items before events after
      → MachineGoesOn before.machine events after.machine

-- what is done for what is asked
does_on : CallsLaw → ChangesLaw → (account : Account) (uploads : List (List ℕ)) (asking : Asking) (p : Progress) (events : List Event) (q : Progress) (came : Option Answer)
    → Does account uploads asking p events q came → MachineGoesOn p.machine events q.machine
does_on calls changing =
    does_through (λ p events q. MachineGoesOn p.machine events q.machine) (λ p. goes_still p.machine p.machine [] refl) calls changing.changes changing.lacks
    (λ p q r es fs one two. goes_both p.machine q.machine r.machine es fs one two)

works_on : Law → CallsLaw → ChangesLaw → {account : Account} {uploads : List (List ℕ)} {before : MachineState} {asking : Asking} {events : List Event} {came : Option Answer}
    {after : Progress} → RequestWork account uploads before asking events came after → MachineGoesOn before events after.machine
works_on law calls changing {before = before} {events = events} {after = after} (NoMail apart does none is) =
    goes_still before after.machine events (ap (λ (p : Progress). p.machine) is)
works_on law calls changing {account} {uploads} {before} {asking} {events} {came} (WithMail needs work) =
    let prepared : MachineGoesOn before work.beginning work.begun.machine =
    law account.user account.password before work.beginning work.begun work.prepares in
    let answered : MachineGoesOn work.begun.machine work.doing work.answered.machine =
    does_on calls changing account uploads asking work.begun work.doing work.answered came work.does in
    subst (λ (p : Progress). MachineGoesOn before events p.machine) (sym work.after_is)
    (goes_by_events before work.answered.machine (work.beginning ++ (work.doing ++ work.ending)) events work.whole
    (goes_both before work.begun.machine work.answered.machine work.beginning (work.doing ++ work.ending) prepared
    (goes_after work.begun.machine work.answered.machine work.doing work.ending answered)))

replies_on : Law → CallsLaw → ChangesLaw → {door : Door} {account : Account} {before after : GateState} {events : List Event} {text : List ℕ} → Replies door account before events text after
    → MachineGoesOn before.machine events after.machine
replies_on law calls changing {before = before} {events = events} (Answered a) =
    subst (λ (m : MachineState). MachineGoesOn before.machine events m) (sym a.machine_is)
    (goes_by_events before.machine a.done.machine (a.asked ++ a.worked) events a.whole
    (goes_before before.machine a.done.machine a.asked a.worked (works_on law calls changing a.work)))
replies_on law calls changing {before = before} {after = after} {events = events} (LacksReading reads text_is is) =
    goes_nowhere before.machine after.machine events (ap (λ (s : GateState). s.machine.known) is)
replies_on law calls changing {before = before} {after = after} {events = events} (LacksAnswering a) =
    goes_nowhere before.machine after.machine events (ap (λ (m : MachineState). m.known) a.machine_is)

-- what comes after a client was accepted, and before it is done
goes_within : (a b : MachineState) (replied heard : List Event) → MachineGoesOn a replied b
    → MachineGoesOn a (Accepted ∷ ((replied ++ heard) ++ ClientDone ∷ [])) b
goes_within a b replied heard goes =
    goes_before a b (Accepted ∷ []) ((replied ++ heard) ++ ClientDone ∷ [])
    (goes_after a b (replied ++ heard) (ClientDone ∷ []) (goes_after a b replied heard goes))

-- one client, or that there is none
segment_on : Law → CallsLaw → ChangesLaw → {door : Door} {account : Account} {before after : GateState} {events : List Event} {how : ClientOutcome} → Segment door account before events how after
    → MachineGoesOn before.machine events after.machine
segment_on law calls changing {before = before} {after = after} {events = events} (NoneComes is how_is same) =
    goes_still before.machine after.machine events (ap (λ (s : GateState). s.machine) same)
segment_on law calls changing {before = before} {after = after} {events = events} (NotAccepted is how_is same) =
    goes_still before.machine after.machine events (ap (λ (s : GateState). s.machine) same)
segment_on law calls changing {before = before} {after = after} {events = events} (Left asked is reads how_is same) =
    goes_still before.machine after.machine events (ap (λ (s : GateState). s.machine) same)
segment_on law calls changing {before = before} {after = after} {events = events} (Unasked asked is reads how_is same) =
    goes_still before.machine after.machine events (ap (λ (s : GateState). s.machine) same)
segment_on law calls changing {before = before} {after = after} {events = events} (Replied a) =
    goes_by_events before.machine after.machine (Accepted ∷ ((a.replied ++ a.heard) ++ ClientDone ∷ [])) events a.whole
    (goes_within before.machine after.machine a.replied a.heard (replies_on law calls changing a.replies))

-- from a moment of a run to its end
held_on : Law → CallsLaw → ChangesLaw → {door : Door} {account : Account} {before after : GateState} {events : List Event} {went : List ClientOutcome} (run : Run door account before events went after)
    (s : GateState) (since : List Event) → WasHeld run s since → MachineGoesOn s.machine since after.machine
held_on law calls changing {before = before} Begun s since held =
    goes_still s.machine before.machine since (ap (λ (t : GateState). t.machine) (sym held.0))
held_on law calls changing (Then next run) s since held = elim held [
  | inl now ↦ goes_still s.machine next.after.machine since (ap (λ (t : GateState). t.machine) (sym now.0))
  | inr was ↦ goes_by_events s.machine next.after.machine (was.0 ++ next.events) since was.2
      (goes_both s.machine next.before.machine next.after.machine was.0 next.events (held_on law calls changing run s was.0 was.1) (segment_on law calls changing next.segment))
]

-- from each moment of a run to each later one
pub run_kept : Law → CallsLaw → ChangesLaw → {door : Door} {account : Account} {before after : GateState} {events : List Event} {went : List ClientOutcome}
    (run : Run door account before events went after)
    → IsRunKept run
run_kept law calls changing Begun = tt
run_kept law calls changing (Then next run) = (
  run_kept law calls changing run,
  λ s since held. goes_both s.machine next.before.machine next.after.machine since next.events (held_on law calls changing run s since held) (segment_on law calls changing next.segment),
)
