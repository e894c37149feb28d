-- What is blamed, and what a request without need of the mail adds.
use Rattle.std.proofs.Common.{arith, ◌≡◌, ◌-◌, ◌^◌, ◌<◌, ◌∷◌, ◌||◌, ℕ, Bool, true, false, List, [], map, Option, Some, Result, Ok, Err, ◌⊎◌, inl, inr, refl, sym, ◌∙◌, ap, subst}
use Rattle.std.proofs.lemmas.List.Elements.{All-cons, All-nil}
use Rattle.gate_world.specs.Causes.{Faults, RoseBy, no_faults}
use Rattle.gate_world.specs.declared.event.Event.{Event}
use Rattle.email_bodies.specs.Asking.{BodyAsk}
use Rattle.jmap_arguments.specs.declared.method_error.MethodError.{MethodError}
use Rattle.jmap_arguments.specs.declared.method_error.MethodError.TheVariants.{ServerUnavailable}
use Rattle.jmap_arguments.specs.declared.using.Using.{Using}
use Rattle.result_references.specs.Call.{CallData}
use Rattle.mail_state.specs.History.{MailHistory}
use Rattle.gate_machine.specs.History.{KnownMail}
use Rattle.gate_machine.specs.Progress.{Bears, Progress, idle, is_up}
use Rattle.gate_machine.specs.Machine.{MachineState}
use Rattle.gate_machine.specs.Beginning.{PreparesMail}
use Rattle.gate_machine.specs.Obeying.{IsObeyedBeginning, IsServed}
use Rattle.gate_machine.specs.declared.mail_status.MailStatus.TheVariants.{OutOfMemory, Stands}
use Rattle.set_calls.specs.Calls.{SetCall}
use Rattle.set_jobs.specs.declared.done.Done.{Done}
use Rattle.set_order.specs.Ordered.{Item}
use Rattle.gate_changes.specs.Changing.{ChangesMail, LacksChange}
use Rattle.gate_calls.specs.Calling.{Asked, Body, over_at}
use Rattle.gate_calls.specs.Calls.{needs_mail}
use Rattle.gate_calls.specs.Mailings.{MailAndUploads, mail_at, mailing_by}
use Rattle.gate_calls.specs.MethodNames.{ChangesNoMail, needs_mail_by}
use Rattle.gate_calls.specs.declared.method.Method.TheVariants.{CoreEcho, Set}
use Rattle.gate_calls.proofs.Needless.{asks_echo, none_asked, over_any}
use Rattle.gate_calls.proofs.Threading.{AllRead, joined}
use Rattle.gate_serving.specs.Answers.{Answer}
use Rattle.gate_serving.specs.Complete.{IsAnsweredFrom, IsDoneObeyed, IsWorkObeyed}
use Rattle.gate_serving.specs.Doing.{Answers, Does, Comes, calls_begun}
use Rattle.gate_serving.specs.Requests.{Account, Asking, Calls, Problem, Session, Upload, Download, Refused, asks_for_mail}
use Rattle.gate_serving.specs.Run.{Stood}
use Rattle.gate_serving.specs.RequestWork.{RequestWork, NoMail, WithMail, WorksOverMail}
use Rattle.gate_serving.proofs.Doing.{does_through, still_out}
use Rattle.gate_serving.proofs.Obeyed.{AllCome, IsUp, ObeyedLaws, bodies_come, calls_come, none_come, unblamed_calls, unblamed_change, up_same}

none_of : (b was now : ℕ) → RoseBy b was now → now ≡ was → was < 2 ^ 64 - 1 → b ≡ 0
none_of b was now rose is less = omega (arith, is)

-- where no count rose and none stands at its end, nothing is blamed
pub unblamed : (blames was now : Faults) → Bears blames was now → Stood was now → blames ≡ no_faults
unblamed blames was now bears stood =
    λ i. record {
      link = none_of blames.link was.link now.link bears.link (ap (λ (f : Faults). f.link) stood.same) stood.link i;
      keep = none_of blames.keep was.keep now.keep bears.keep (ap (λ (f : Faults). f.keep) stood.same) stood.keep i;
      front = none_of blames.front was.front now.front bears.front (ap (λ (f : Faults). f.front) stood.same) stood.front i;
      say = none_of blames.say was.say now.say bears.say (ap (λ (f : Faults). f.say) stood.same) stood.say i;
    }

-- what doesn't need the mail adds no event, and leaves the machine as it was
pub no_life : (account : Account) (uploads : List (List ℕ)) (before : MachineState) (asking : Asking) (events : List Event) (came : Option Answer) (after : Progress)
    → RequestWork account uploads before asking events came after
    → asks_for_mail asking ≡ false → (events ≡ []) × (after.machine ≡ before)
no_life account uploads before asking events came after (NoMail apart does none is) apart_is = (none, ap (λ (p : Progress). p.machine) is)
no_life account uploads before asking events came after (WithMail needs work) apart_is = absurd (cc (needs, apart_is))

-- ---- a store that obeys

abbrev pub Law : Type 0
Law = (user password : List ℕ) (before : MachineState) (events : List Event) (after : Progress) (begins : PreparesMail user password before events after) → IsObeyedBeginning begins
    → after.blamed ≡ no_faults
    → IsServed after ⊎ (after.standing ≡ OutOfMemory)

-- once a round stands the link is up
abbrev pub UpLaw : Type 0
UpLaw = (user password : List ℕ) (before : MachineState) (events : List Event) (after : Progress) → PreparesMail user password before events after → after.standing ≡ Stands
    → is_up after.left ≡ true

-- ---- what needs no mail

-- a call that needs no mail reads
one_reads : (uses : Using) (name : List ℕ) → needs_mail_by name ≡ false → ChangesNoMail uses name
one_reads uses name needless m asked = let never : Set m ≡ CoreEcho = asks_echo uses name (Set m) needless asked in absurd (cc)

left_false : (a b : Bool) → (a || b) ≡ false → a ≡ false
left_false true b is = absurd (let never : true ≡ false = is in cc)
left_false false b is = refl

right_false : (a b : Bool) → (a || b) ≡ false → b ≡ false
right_false true b is = absurd (let never : true ≡ false = is in cc)
right_false false b is = is

needless_read : (uses : Using) (calls : List CallData) → needs_mail calls ≡ false → AllRead uses calls
needless_read uses [] needless = All-nil (λ (call : CallData). ChangesNoMail uses call.name)
needless_read uses (call ∷ calls) needless =
    All-cons (λ (c : CallData). ChangesNoMail uses c.name) call calls
    (one_reads uses call.name (left_false (needs_mail_by call.name) (needs_mail calls) needless))
    (needless_read uses calls (right_false (needs_mail_by call.name) (needs_mail calls) needless))

-- for what needs no mail nothing is asked
no_asks : (account : Account) (uploads : List (List ℕ)) (asking : Asking) (p : Progress) (asks : List Asked) (events : List Event) (answer : Answer) (q : Progress)
    → asks_for_mail asking ≡ false → Answers account uploads asking p asks events answer q → asks ≡ []
no_asks account uploads (Calls request) p asks events answer q needless does =
    let all = joined (needless_read request.uses request.calls needless) does.does in
    let untold : MailAndUploads = record { mail = Err ServerUnavailable; uploads = uploads } in
    all.asks_are
    ∙ ap (λ (l : List BodyAsk). map Body l) (none_asked (over_any request.uses (over_at uploads (calls_begun request p)) untold needless all.answers))
no_asks account uploads (Problem e) p asks events answer q needless does = does.no_asks
no_asks account uploads Session p asks events answer q needless does = does.no_asks
no_asks account uploads (Upload media octets) p asks events answer q needless does = does.no_asks
no_asks account uploads (Download blob media) p asks events answer q needless does = absurd (let never : true ≡ false = needless in cc)
no_asks account uploads (Refused refusal) p asks events answer q needless does = does.no_asks

-- ---- what is done over a store that obeys

-- what asks nothing
nothing_came : {p q : Progress} (asks : List Asked) → asks ≡ [] → q ≡ p → (here : IsUp p) → AllCome here.known.history asks q
nothing_came {q = q} asks none is here = subst (λ (l : List Asked). AllCome here.known.history l q) (sym none) (none_come is here)

came_to : {h : MailHistory} {asks : List Asked} {p q : Progress} → q ≡ p → AllCome h asks p → AllCome h asks q
came_to is all = record { come = all.come; here = up_same is all.here; moved_on = all.moved_on }

answers_come : ObeyedLaws → (account : Account) (uploads : List (List ℕ)) (asking : Asking) (p : Progress) (asks : List Asked) (events : List Event) (answer : Answer) (q : Progress)
    (does : Answers account uploads asking p asks events answer q) → IsDoneObeyed asking (Comes asks answer does) → (here : IsUp p) → q.blamed ≡ no_faults
    → AllCome here.known.history asks q
answers_come laws account uploads (Calls request) p asks events answer q does obeyed here free =
    came_to does.after_is (calls_come laws does.does obeyed here (ap (λ (x : Progress). x.blamed) (sym does.after_is) ∙ free))
answers_come laws account uploads (Problem e) p asks events answer q does obeyed here free = nothing_came asks does.no_asks does.after_is here
answers_come laws account uploads Session p asks events answer q does obeyed here free = nothing_came asks does.no_asks does.after_is here
answers_come laws account uploads (Upload media octets) p asks events answer q does obeyed here free = nothing_came asks does.no_asks does.after_is here
answers_come laws account uploads (Download blob media) p asks events answer q does obeyed here free = bodies_come laws does.asked obeyed does.asks_are here free
answers_come laws account uploads (Refused refusal) p asks events answer q does obeyed here free = nothing_came asks does.no_asks does.after_is here

-- a fault is blamed still, and memory that ran out is out still
does_unblamed : ObeyedLaws → (account : Account) (uploads : List (List ℕ)) (asking : Asking) (p : Progress) (events : List Event) (q : Progress) (came : Option Answer)
    → Does account uploads asking p events q came → q.blamed ≡ no_faults → p.blamed ≡ no_faults
does_unblamed laws =
    does_through (λ p events q. q.blamed ≡ no_faults → p.blamed ≡ no_faults) (λ p free. free) (λ p tried events q asked. unblamed_calls asked)
    (λ call items p result events q does. unblamed_change p q (laws.blames call items p result events q does))
    (λ call items p events q lacks. unblamed_change p q (laws.lacks call items p events q lacks)) (λ p q r es fs one two free. one (two free))

-- what is proved of where calls that change mail begin
pub record BeginLaws : Type 0 where
  pub begun : (call : SetCall) (items : List Item) (before : Progress) (result : Result (List (Item × Done)) MethodError) (events : List Event) (after : Progress)
      → ChangesMail call items before result events after → before.standing ≡ Stands
  pub lacks : (call : SetCall) (items : List Item) (before : Progress) (events : List Event) (after : Progress) → LacksChange call items before events after
      → before.standing ≡ Stands

not_out : {X : Type 0} (p : Progress) → p.standing ≡ Stands → p.standing ≡ OutOfMemory → X
not_out p stands out = absurd (let never : Stands ≡ OutOfMemory = sym stands ∙ out in cc)

does_out : BeginLaws → (account : Account) (uploads : List (List ℕ)) (asking : Asking) (p : Progress) (events : List Event) (q : Progress) (came : Option Answer)
    → Does account uploads asking p events q came → p.standing ≡ OutOfMemory → q.standing ≡ OutOfMemory
does_out begins =
    does_through (λ p events q. p.standing ≡ OutOfMemory → q.standing ≡ OutOfMemory) (λ p out. out) (λ p tried events q asked out. still_out out asked)
    (λ call items p result events q does out. not_out p (begins.begun call items p result events q does) out)
    (λ call items p events q lacks out. not_out p (begins.lacks call items p events q lacks) out) (λ p q r es fs one two out. two (one out))

-- ---- what is answered

known_mailing : (p : Progress) (k : KnownMail) → p.standing ≡ Stands → p.machine.known ≡ Some k → mail_at p ≡ Ok k.history
known_mailing p k stands known = (λ i. mailing_by (stands i) (known i))

-- what was begun is served, and what is done for the request is obeyed
from_mail : ObeyedLaws → {account : Account} {uploads : List (List ℕ)} {before : MachineState} {asking : Asking} {events : List Event} {answer : Answer} {after : Progress}
    (work : WorksOverMail account uploads before asking events (Some answer) after) → IsUp work.begun → IsDoneObeyed asking work.does
    → work.answered.blamed ≡ no_faults → IsAnsweredFrom account uploads asking answer events after
from_mail laws {account} {uploads} {before} {asking} {events} {answer} {after} work here obeyed free =
    came_from work.does obeyed
  where
    came_from : (does : Does account uploads asking work.begun work.doing work.answered (Some answer)) → IsDoneObeyed asking does
        → IsAnsweredFrom account uploads asking answer events after
    came_from (Comes asks same does) well =
        let all = answers_come laws account uploads asking work.begun asks work.doing answer work.answered does well here free in
        let machine_is : after.machine ≡ work.answered.machine = ap (λ (p : Progress). p.machine) work.after_is in
        record {
          begun = work.begun;
          answered = work.answered;
          asks = asks;
          beginning = work.beginning;
          doing = work.doing;
          ending = work.ending;
          whole = work.whole;
          answers = does;
          machine_is = machine_is;
          from = inr (record {
            before = before;
            history = here.known.history;
            known = all.here.known;
            prepares = work.prepares;
            served = known_mailing work.begun here.known here.stands here.ready;
            come = all.come;
            ready = ap (λ (m : MachineState). m.known) machine_is ∙ all.here.ready;
            moved_on = all.moved_on;
          });
        }

served_from : ObeyedLaws → BeginLaws → {account : Account} {uploads : List (List ℕ)} {before : MachineState} {asking : Asking} {events : List Event} {answer : Answer}
    {after : Progress} (work : WorksOverMail account uploads before asking events (Some answer) after) → IsDoneObeyed asking work.does
    → work.answered.blamed ≡ no_faults → (work.begun.standing ≡ Stands → is_up work.begun.left ≡ true)
    → IsServed work.begun ⊎ (work.begun.standing ≡ OutOfMemory) → IsAnsweredFrom account uploads asking answer events after ⊎ (after.standing ≡ OutOfMemory)
served_from laws begins work obeyed free up (inl (k, stands, known)) =
    inl (from_mail laws work (record { known = k; ready = known; stands = stands; up = up stands }) obeyed free)
served_from laws begins {account} {uploads} {asking = asking} {answer = answer} work obeyed free up (inr out) =
    inr (ap (λ (p : Progress). p.standing) work.after_is ∙ does_out begins account uploads asking work.begun work.doing work.answered (Some answer) work.does out)

-- what is proved of the work on a request
abbrev pub AnsweredLaw : Type 0
AnsweredLaw = (account : Account) (uploads : List (List ℕ)) (before : MachineState) (asking : Asking) (events : List Event) (answer : Answer) (after : Progress)
    (work : RequestWork account uploads before asking events (Some answer) after) → IsWorkObeyed work → after.blamed ≡ no_faults
    → IsAnsweredFrom account uploads asking answer events after ⊎ (after.standing ≡ OutOfMemory)

-- where the store obeyed and nothing is blamed, what is asked is answered from the mail, and all that it asks comes; or memory ran out
pub answered_from : Law → UpLaw → ObeyedLaws → BeginLaws → (account : Account) (uploads : List (List ℕ)) (before : MachineState) (asking : Asking) (events : List Event)
    (answer : Answer) (after : Progress) (work : RequestWork account uploads before asking events (Some answer) after) → IsWorkObeyed work → after.blamed ≡ no_faults
    → IsAnsweredFrom account uploads asking answer events after ⊎ (after.standing ≡ OutOfMemory)
answered_from law links laws begins account uploads before asking events answer after (NoMail apart (Comes asks same does) none_added is) obeyed none =
    inl (record {
      begun = idle before;
      answered = idle before;
      asks = asks;
      beginning = [];
      doing = [];
      ending = [];
      whole = none_added;
      answers = does;
      machine_is = ap (λ (p : Progress). p.machine) is;
      from = inl (apart, no_asks account uploads asking (idle before) asks [] answer (idle before) apart does);
    })
answered_from law links laws begins account uploads before asking events answer after (WithMail a work) obeyed none =
    let free : work.answered.blamed ≡ no_faults = ap (λ (p : Progress). p.blamed) (sym work.after_is) ∙ none in
    served_from laws begins work obeyed.1 free (links account.user account.password before work.beginning work.begun work.prepares)
    (law account.user account.password before work.beginning work.begun work.prepares obeyed.0
    (does_unblamed laws account uploads asking work.begun work.doing work.answered (Some answer) work.does free))
