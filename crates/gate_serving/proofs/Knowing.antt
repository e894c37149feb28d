-- What is known comes of exchanges, from client to client.
use Rattle.std.proofs.Common.{◌≡◌, ℕ, List, Option, Some, None, Result, refl, ap}
use Rattle.gate_world.specs.declared.event.Event.{Event}
use Rattle.gate_calls.specs.Mailings.{history_of, mail_at, mailing_by}
use Rattle.gate_calls.specs.Places.{HasPlaces}
use Rattle.email_bodies.specs.Asking.{BodyAsk}
use Rattle.jmap_arguments.specs.declared.method_error.MethodError.{MethodError}
use Rattle.set_calls.specs.Calls.{SetCall}
use Rattle.set_jobs.specs.declared.done.Done.{Done}
use Rattle.set_order.specs.Ordered.{Item}
use Rattle.gate_changes.specs.Changing.{ChangesMail, LacksChange}
use Rattle.gate_machine.specs.Beginning.{PreparesMail}
use Rattle.gate_machine.specs.Fetching.{CallsAsk}
use Rattle.gate_machine.specs.History.{KnownMail}
use Rattle.gate_machine.specs.Machine.{MachineState}
use Rattle.gate_machine.specs.Progress.{Progress}
use Rattle.gate_machine.specs.Sources.{IsOfExchanges, KnowsExchanges}
use Rattle.gate_machine.specs.declared.mail_status.MailStatus.{MailStatus}
use Rattle.gate_machine.specs.declared.mail_status.MailStatus.TheVariants as standing
use Rattle.gate_machine.proofs.Sources.{knows_nothing, knows_same}
use Rattle.gate_serving.specs.declared.door.Door.{Door}
use Rattle.gate_serving.specs.declared.outcomes.ClientOutcome.{ClientOutcome}
use Rattle.gate_serving.specs.GateState.{GateState}
use Rattle.gate_serving.specs.Requests.{Account, Asking}
use Rattle.gate_serving.specs.Run.{Run, Begun, Then}
use Rattle.gate_serving.specs.Segment.{Replies, Answered, LacksReading, LacksAnswering, Segment, NoneComes, NotAccepted, Left, Unasked, Replied}
use Rattle.gate_serving.specs.Answers.{Answer}
use Rattle.gate_serving.specs.Doing.{Does}
use Rattle.gate_serving.specs.RequestWork.{RequestWork, NoMail, WithMail, begun_in}
use Rattle.gate_serving.proofs.Doing.{does_through}

-- what is proved of a request's way to the mail
abbrev pub NextLaw : Type 0
NextLaw = (user password : List ℕ) (before : MachineState) (events : List Event) (after : Progress) → PreparesMail user password before events after
    → KnowsExchanges before
    → KnowsExchanges after.machine

-- and of what its calls ask
abbrev pub CallsLaw : Type 0
CallsLaw = (before : Progress) (asks : List BodyAsk) (events : List Event) (after : Progress) → CallsAsk before asks events after → KnowsExchanges before.machine
    → KnowsExchanges after.machine

-- of calls that change mail
pub record ChangesLaw : Type 0 where
  pub changes : (call : SetCall) (items : List Item) (before : Progress) (result : Result (List (Item × Done)) MethodError) (events : List Event) (after : Progress)
      → ChangesMail call items before result events after → KnowsExchanges before.machine → KnowsExchanges after.machine
  pub lacks : (call : SetCall) (items : List Item) (before : Progress) (events : List Event) (after : Progress) → LacksChange call items before events after
      → KnowsExchanges before.machine → KnowsExchanges after.machine

-- ---- the work

-- what is done for what is asked
does_know : CallsLaw → ChangesLaw → (account : Account) (uploads : List (List ℕ)) (asking : Asking) (p : Progress) (events : List Event) (q : Progress) (came : Option Answer)
    → Does account uploads asking p events q came → KnowsExchanges p.machine → KnowsExchanges q.machine
does_know calls changing =
    does_through (λ p events q. KnowsExchanges p.machine → KnowsExchanges q.machine) (λ p knows. knows) calls changing.changes changing.lacks
    (λ p q r es fs one two knows. two (one knows))

work_knows : NextLaw → CallsLaw → ChangesLaw → {account : Account} {uploads : List (List ℕ)} {before : MachineState} {asking : Asking} {events : List Event} {came : Option Answer}
    {after : Progress} → RequestWork account uploads before asking events came after → KnowsExchanges before → KnowsExchanges after.machine
work_knows law calls changing {before = before} {after = after} (NoMail apart does none is) knows = knows_same before after.machine (ap (λ (p : Progress). p.machine) is) knows
work_knows law calls changing {account} {uploads} {before} {asking} {came = came} {after = after} (WithMail needs work) knows =
    knows_same work.answered.machine after.machine (ap (λ (p : Progress). p.machine) work.after_is)
    (does_know calls changing account uploads asking work.begun work.doing work.answered came work.does
    (law account.user account.password before work.beginning work.begun work.prepares knows))

places_known : (o : Option KnownMail) → ((k : KnownMail) → o ≡ Some k → IsOfExchanges k) → HasPlaces (history_of o)
places_known None knows = tt
places_known (Some k) knows = let of : IsOfExchanges k = knows k refl in of.room

places_by : (how : MailStatus) (m : MachineState) → KnowsExchanges m → HasPlaces (mailing_by how m.known)
places_by standing.Stands m knows = places_known m.known knows
places_by (standing.Unserved why) m knows = tt
places_by standing.OutOfMemory m knows = tt

-- the mail from which on a request is answered has places left
pub work_places : NextLaw → {account : Account} {uploads : List (List ℕ)} {before : MachineState} {asking : Asking} {events : List Event} {came : Option Answer}
    {after : Progress} (work : RequestWork account uploads before asking events came after) → KnowsExchanges before → HasPlaces (mail_at (begun_in work))
work_places law {before = before} (NoMail apart does none is) knows = places_by standing.Stands before knows
work_places law {account} {before = before} (WithMail needs work) knows =
    places_by work.begun.standing work.begun.machine (law account.user account.password before work.beginning work.begun work.prepares knows)

-- ---- clients

replies_know : NextLaw → CallsLaw → ChangesLaw → {door : Door} {account : Account} {before after : GateState} {events : List Event} {text : List ℕ}
    → Replies door account before events text after → KnowsExchanges before.machine → KnowsExchanges after.machine
replies_know law calls changing {after = after} (Answered a) knows = knows_same a.done.machine after.machine a.machine_is (work_knows law calls changing a.work knows)
replies_know law calls changing {after = after} (LacksReading reads text_is is) knows = knows_nothing after.machine (ap (λ (s : GateState). s.machine.known) is)
replies_know law calls changing {after = after} (LacksAnswering a) knows = knows_nothing after.machine (ap (λ (m : MachineState). m.known) a.machine_is)

segment_knows : NextLaw → CallsLaw → ChangesLaw → {door : Door} {account : Account} {before after : GateState} {events : List Event} {how : ClientOutcome}
    → Segment door account before events how after → KnowsExchanges before.machine → KnowsExchanges after.machine
segment_knows law calls changing {before = before} {after = after} (NoneComes is how_is same) knows =
    knows_same before.machine after.machine (ap (λ (s : GateState). s.machine) same) knows
segment_knows law calls changing {before = before} {after = after} (NotAccepted is how_is same) knows =
    knows_same before.machine after.machine (ap (λ (s : GateState). s.machine) same) knows
segment_knows law calls changing {before = before} {after = after} (Left asked is reads how_is same) knows =
    knows_same before.machine after.machine (ap (λ (s : GateState). s.machine) same) knows
segment_knows law calls changing {before = before} {after = after} (Unasked asked is reads how_is same) knows =
    knows_same before.machine after.machine (ap (λ (s : GateState). s.machine) same) knows
segment_knows law calls changing (Replied a) knows = replies_know law calls changing a.replies knows

pub run_knows : NextLaw → CallsLaw → ChangesLaw → {door : Door} {account : Account} {before after : GateState} {events : List Event} {went : List ClientOutcome}
    → Run door account before events went after → KnowsExchanges before.machine → KnowsExchanges after.machine
run_knows law calls changing Begun knows = knows
run_knows law calls changing (Then next run) knows = segment_knows law calls changing next.segment (run_knows law calls changing run knows)
