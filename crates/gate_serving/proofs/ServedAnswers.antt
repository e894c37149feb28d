-- The history that is served after an answer has gone on from the one over which the answer begins.
use Rattle.std.proofs.Common.{◌≡◌, ℕ, List, Option, Some, None, Result, Ok, refl, sym, ◌∙◌, ap, subst}
use Rattle.gate_world.specs.declared.event.Event.{Event}
use Rattle.email_bodies.specs.Asking.{BodyAsk}
use Rattle.email_bodies.specs.declared.source.MessagePlace.{MessagePlace}
use Rattle.jmap_arguments.specs.declared.method_error.MethodError.{MethodError}
use Rattle.mail_state.specs.History.{MailHistory}
use Rattle.gate_machine.specs.Fetching.{AsksBody, IsKept, IsTold, HasEnded, AsksBodies, NoBodies, MoreBodies, LacksBody, CallsAsk, AllAsked, RunsShort}
use Rattle.gate_machine.specs.Fetching as fetching
use Rattle.gate_machine.specs.Going.{HasGoneOn, Still}
use Rattle.gate_machine.specs.History.{KnownMail}
use Rattle.gate_machine.specs.Machine.{MachineState}
use Rattle.gate_machine.specs.Progress.{Progress}
use Rattle.gate_machine.specs.ServedFolders.{Serves}
use Rattle.gate_machine.specs.declared.mail_status.MailStatus.{MailStatus}
use Rattle.gate_machine.specs.declared.mail_status.MailStatus.TheVariants as standing
use Rattle.gate_machine.proofs.Asking.{bodies_stay}
use Rattle.set_calls.specs.Calls.{SetCall}
use Rattle.set_jobs.specs.declared.done.Done.{Done}
use Rattle.set_order.specs.Ordered.{Item}
use Rattle.gate_changes.specs.Changing.{ChangesMail, LacksChange}
use Rattle.gate_changes.proofs.Epochs.{StaysInEpoch, stays_both, stays_known, stays_nowhere, stays_same}
use Rattle.gate_calls.specs.Calling.{Asked}
use Rattle.gate_calls.specs.Mailings.{history_of, mail_at, mailing_by}
use Rattle.gate_calls.proofs.Threading.{joined}
use Rattle.gate_serving.specs.declared.door.Door.{Door}
use Rattle.gate_serving.specs.GateState.{GateState}
use Rattle.gate_serving.specs.Requests.{Account, Asking, Calls, Problem, Session, Upload, Download, Refused, ReadsAlone}
use Rattle.gate_serving.specs.Segment.{AnswersAsking}
use Rattle.gate_serving.specs.Answers.{Answer}
use Rattle.gate_serving.specs.Doing.{Answers, Does, Comes}
use Rattle.gate_serving.specs.RequestWork.{RequestWork, NoMail, WithMail, begun_in}
use Rattle.gate_serving.proofs.Doing.{does_through}

-- what is proved of calls that change mail: they draw no epoch
pub record StayLaws : Type 0 where
  pub changes : (call : SetCall) (items : List Item) (before : Progress) (result : Result (List (Item × Done)) MethodError) (events : List Event) (after : Progress)
      → ChangesMail call items before result events after → StaysInEpoch before.machine after.machine
  pub lacks : (call : SetCall) (items : List Item) (before : Progress) (events : List Event) (after : Progress) → LacksChange call items before events after
      → after.machine.known ≡ None

one_known : (j k : KnownMail) → Some j ≡ Some k → j ≡ k
one_known j k is = cc

-- ---- bodies draw none

body_stays : {message : MessagePlace} {p q : Progress} {body : Option (List ℕ)} {events : List Event} → AsksBody message p body events q
    → StaysInEpoch p.machine q.machine
body_stays {p = p} {q = q} (IsKept octets kept body_is none is) =
    stays_known p.machine q.machine kept.known _ kept.ready (ap (λ (x : Progress). x.machine.known) is) Still
body_stays {p = p} {q = q} (IsTold octets asks body_is is) =
    stays_known p.machine q.machine asks.kept.known _ asks.kept.ready (ap (λ (x : Progress). x.machine.known) is) Still
body_stays {p = p} {q = q} (fetching.Ends e asks other body_is is) =
    stays_known p.machine q.machine asks.kept.known _ asks.kept.ready (ap (λ (x : Progress). x.machine.known) is) Still
body_stays {p = p} {q = q} (HasEnded kept ended body_is none is) = stays_same p.machine q.machine (ap (λ (x : Progress). x.machine) is)

all_stay : {p q : Progress} {asks : List BodyAsk} {events : List Event} → AsksBodies p asks events q → StaysInEpoch p.machine q.machine
all_stay {p} NoBodies = stays_same p.machine p.machine refl
all_stay {p} (MoreBodies {mid = mid} next bodies) = stays_both p.machine mid.machine next.after.machine (all_stay bodies) (body_stays next.asks)

lacking_stays : {message : MessagePlace} {p q : Progress} {events : List Event} → LacksBody message p events q → q.machine.known ≡ None
lacking_stays (fetching.Unasked none is) = ap (λ (x : Progress). x.machine.known) is
lacking_stays (fetching.Asked asks is) = ap (λ (x : Progress). x.machine.known) is
lacking_stays (fetching.NotKept octets asks is) = ap (λ (x : Progress). x.machine.known) is

calls_stay : (p : Progress) (tried : List BodyAsk) (events : List Event) (q : Progress) → CallsAsk p tried events q → StaysInEpoch p.machine q.machine
calls_stay p tried events q (AllAsked bodies) = all_stay bodies
calls_stay p tried events q (RunsShort short) = stays_nowhere p.machine q.machine (lacking_stays short.lacks)

-- ---- what is done for a request draws none

does_stay : StayLaws → (account : Account) (uploads : List (List ℕ)) (asking : Asking) (p : Progress) (events : List Event) (q : Progress) (came : Option Answer)
    → Does account uploads asking p events q came → StaysInEpoch p.machine q.machine
does_stay law =
    does_through (λ p events q. StaysInEpoch p.machine q.machine) (λ p. stays_same p.machine p.machine refl) calls_stay law.changes
    (λ call items p events q lacks. stays_nowhere p.machine q.machine (law.lacks call items p events q lacks))
    (λ p q r es fs one two. stays_both p.machine q.machine r.machine one two)

-- from what is known before it
pub does_goes_on : StayLaws → (account : Account) (uploads : List (List ℕ)) (asking : Asking) (p : Progress) (events : List Event) (q : Progress) (came : Option Answer)
    → Does account uploads asking p events q came → (j k : KnownMail) → p.machine.known ≡ Some j → q.machine.known ≡ Some k → HasGoneOn j.history k.history
does_goes_on law account uploads asking p events q came does j k was now =
    let gone = does_stay law account uploads asking p events q came does k now in
    subst (λ (x : KnownMail). HasGoneOn x.history k.history) (one_known gone.0 j (sym gone.1 ∙ was)) gone.2

-- ---- the mail over which a request is answered

same_history : (k : KnownMail) (h : MailHistory) → history_of (Some k) ≡ Ok h → k.history ≡ h
same_history k h is = cc

-- it is what the machine serves then
mailing_serves : (m : MachineState) (known : Option KnownMail) (s : MailStatus) (h : MailHistory) → m.known ≡ known → mailing_by s known ≡ Ok h → Serves m h
mailing_serves m None standing.Stands h there is = absurd (cc is)
mailing_serves m (Some k) standing.Stands h there is = (k, there, same_history k h is)
mailing_serves m known (standing.Unserved why) h there is = absurd (cc is)
mailing_serves m known standing.OutOfMemory h there is = absurd (cc is)

served_at : (p : Progress) (h : MailHistory) → mail_at p ≡ Ok h → Serves p.machine h
served_at p h is = mailing_serves p.machine p.machine.known p.standing h refl is

gone_from : (h : MailHistory) (j k : KnownMail) → j.history ≡ h → HasGoneOn j.history k.history → HasGoneOn h k.history
gone_from h j k is gone = subst (λ (x : MailHistory). HasGoneOn x k.history) is gone

work_goes_on : StayLaws → {account : Account} {uploads : List (List ℕ)} {before : MachineState} {asking : Asking} {events : List Event} {came : Option Answer}
    {after : Progress} (h : MailHistory) (k : KnownMail) (work : RequestWork account uploads before asking events came after) → mail_at (begun_in work) ≡ Ok h
    → after.machine.known ≡ Some k → HasGoneOn h k.history
work_goes_on law {before = before} {after = after} h k (NoMail needless does none is) mail_is now =
    let begun = mailing_serves before before.known standing.Stands h refl mail_is in
    let same : begun.0 ≡ k = one_known begun.0 k (sym begun.1 ∙ sym (ap (λ (p : Progress). p.machine.known) is) ∙ now) in
    gone_from h begun.0 k begun.2 (subst (λ (x : KnownMail). HasGoneOn begun.0.history x.history) same Still)
work_goes_on law {account} {uploads} {asking = asking} {came = came} {after = after} h k (WithMail needs work) mail_is now =
    let begun = served_at work.begun h mail_is in
    gone_from h begun.0 k begun.2
    (does_goes_on law account uploads asking work.begun work.doing work.answered came work.does begun.0 k begun.1
    (sym (ap (λ (p : Progress). p.machine.known) work.after_is) ∙ now))

pub answers_go_on : StayLaws → (door : Door) (account : Account) (before : GateState) (events : List Event) (text : List ℕ) (after : GateState)
    (a : AnswersAsking door account before events text after) (h : MailHistory) (k : KnownMail) → mail_at (begun_in a.work) ≡ Ok h → after.machine.known ≡ Some k
    → HasGoneOn h k.history
answers_go_on law door account before events text after a h k is now =
    work_goes_on law h k a.work is (sym (ap (λ (m : MachineState). m.known) a.machine_is) ∙ now)

-- ---- calls that read leave it

bodies_serve : {p q : Progress} {asks : List BodyAsk} {events : List Event} (h : MailHistory) → AsksBodies p asks events q → Serves p.machine h → Serves q.machine h
bodies_serve h asked (k, ready, same) = let stays = bodies_stay k ready asked in (stays.known, stays.ready, stays.history ∙ same)

machine_serves : {p q : Progress} (h : MailHistory) → q ≡ p → Serves p.machine h → Serves q.machine h
machine_serves h is serves = subst (λ (p : Progress). Serves p.machine h) (sym is) serves

reads_serve : (account : Account) (uploads : List (List ℕ)) (asking : Asking) (p : Progress) (asks : List Asked) (events : List Event) (answer : Answer) (q : Progress)
    (h : MailHistory) → ReadsAlone asking → Answers account uploads asking p asks events answer q → Serves p.machine h → Serves q.machine h
reads_serve account uploads (Calls request) p asks events answer q h reads does serves =
    machine_serves h does.after_is (bodies_serve h (joined reads does.does).asked serves)
reads_serve account uploads (Problem e) p asks events answer q h reads does serves = machine_serves h does.after_is serves
reads_serve account uploads Session p asks events answer q h reads does serves = machine_serves h does.after_is serves
reads_serve account uploads (Upload media octets) p asks events answer q h reads does serves = machine_serves h does.after_is serves
reads_serve account uploads (Download blob media) p asks events answer q h reads does serves = bodies_serve h does.asked serves
reads_serve account uploads (Refused refusal) p asks events answer q h reads does serves = machine_serves h does.after_is serves

does_serve : (account : Account) (uploads : List (List ℕ)) (asking : Asking) (p : Progress) (events : List Event) (q : Progress) (answer : Answer) (h : MailHistory)
    → ReadsAlone asking → Does account uploads asking p events q (Some answer) → Serves p.machine h → Serves q.machine h
does_serve account uploads asking p events q answer h reads (Comes asks same does) serves = reads_serve account uploads asking p asks events answer q h reads does serves

work_serves : {account : Account} {uploads : List (List ℕ)} {before : MachineState} {asking : Asking} {events : List Event} {answer : Answer}
    {after : Progress} (h : MailHistory) (work : RequestWork account uploads before asking events (Some answer) after) → ReadsAlone asking
    → mail_at (begun_in work) ≡ Ok h → Serves after.machine h
work_serves {before = before} h (NoMail needless does none is) reads mail_is =
    subst (λ (m : MachineState). Serves m h) (sym (ap (λ (p : Progress). p.machine) is)) (mailing_serves before before.known standing.Stands h refl mail_is)
work_serves {account} {uploads} {asking = asking} {answer = answer} h (WithMail needs work) reads mail_is =
    subst (λ (p : Progress). Serves p.machine h) (sym work.after_is)
    (does_serve account uploads asking work.begun work.doing work.answered answer h reads work.does (served_at work.begun h mail_is))

pub answers_serve : (door : Door) (account : Account) (before : GateState) (events : List Event) (text : List ℕ) (after : GateState)
    (a : AnswersAsking door account before events text after) (h : MailHistory) → ReadsAlone a.asking → mail_at (begun_in a.work) ≡ Ok h → Serves after.machine h
answers_serve door account before events text after a h reads is =
    subst (λ (m : MachineState). Serves m h) (sym a.machine_is) (work_serves h a.work reads is)
