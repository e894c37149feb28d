-- One client is answered, part by part.
use Rattle.std.proofs.Common.{arith, ◌≡◌, ◌≢◌, ◌⊎◌, ◌++◌, ◌∷◌, ◌≤◌, ◌+◌, ℕ, Bool, true, false, List, [], Option, Some, None, Result, Ok, Err}
use Rattle.std.proofs.Common.{refl, sym, ◌∙◌, ap, subst, inl, inr}
use Rattle.std.specs.Prelude.{IfOk, IsSome, OnErr, OnOk}
use Rattle.std.specs.declared.alloc.AllocError.{AllocError}
use Rattle.std.proofs.lemmas.List.{append-nil}
use Rattle.gate_world.specs.Causes.{Faults, Hidden, RoseBy, Rose, FrontAlone, NoFault, Later, no_faults}
use Rattle.gate_world.specs.Sending.{Sends}
use Rattle.gate_world.specs.declared.event.Event.{Event}
use Rattle.gate_world.specs.declared.event.Event.TheVariants.{Accepted, NoMore, ClientDone, FrontFailed}
use Rattle.gate_world.specs.declared.outside.Failed.{Failed}
use Rattle.http_requests.specs.declared.asking.AskError.TheVariants as unread
use Rattle.gate_world.specs.Tape.{Adds}
use Rattle.imap_exchange.specs.Answering.{HangsUp}
use Rattle.imap_client.specs.LinkLife.{ClientState}
use Rattle.jmap_arguments.specs.declared.method_error.MethodError.{MethodError}
use Rattle.gate_machine.specs.Progress.{Progress, Bears, CameTo, idle, is_up}
use Rattle.gate_machine.specs.Beginning.{BeginsTo, PreparesMail}
use Rattle.gate_machine.specs.Holding.{HoldsMachine, unready}
use Rattle.gate_machine.specs.Machine.{MachineState, forgotten}
use Rattle.gate_machine.specs.declared.machine.Machine.{Machine}
use Rattle.gate_machine.specs.declared.mail_status.MailStatus.{MailStatus}
use Rattle.gate_machine.specs.declared.mail_status.MailStatus.TheVariants.{Stands, Unserved, OutOfMemory}
use Rattle.gate_machine.specs.declared.mail_status.MailFailure.{MailFailure}
use Rattle.gate_machine.proofs.Stages.{holds_none, stays_borne, up_is}
use Rattle.gate_calls.specs.Mailings.{Mailing, error_of, mail_at, mailing_by}
use Rattle.gate_serving.specs.declared.door.Door.{Door}
use Rattle.gate_serving.specs.declared.gate.Gate.{Gate}
use Rattle.gate_serving.specs.declared.response.Response.{Response}
use Rattle.gate_serving.specs.declared.outcomes.ClientOutcome.{ClientOutcome}
use Rattle.gate_serving.specs.declared.outcomes.ClientOutcome.TheVariants as served
use Rattle.gate_serving.specs.Answers.{Answer, KeepsUpload, MayKeepUpload, TakesMemory, no_memory_text, spelled}
use Rattle.gate_serving.specs.Doing.{Does, RunsOut}
use Rattle.gate_serving.specs.GateState.{GateState, unready_state}
use Rattle.gate_serving.specs.Requests.{Account, Asking, Calls, Problem, Session, Upload, Download, Refused, ReadsAsking, asks_for_mail}
use Rattle.gate_serving.specs.Segment.{Replies, Answered, LacksReading, LacksAnswering, Segment, NoneComes, NotAccepted, Left, Unasked, Replied, reply_blamed, blamed, went, unsent}
use Rattle.gate_serving.specs.Segment.{blame_front}
use Rattle.gate_serving.specs.Run.{AddsSegment}
use Rattle.gate_serving.specs.RequestWork.{RequestWork, NoMail, WithMail}
use Rattle.gate_serving.specs.reading.Replying.{Finishes, IsMade, AnswersTo, MakesAtOnce, machine_left, RepliesToAsking, IsUnread, RepliesBy, SendsReply, Serves}
use Rattle.gate_serving.specs.Gates.{GateHolds, RestStays, account_by}
use Rattle.gate_serving.specs.reading.Texts.{text_sent}
use Rattle.gate_serving.proofs.Begun.{has_life}
use Rattle.gate_serving.proofs.Doing.{lacks_nothing}
use Rattle.gate_serving.proofs.Gates.{same_account}

-- ---- counts

later_rose : (b was mid now : ℕ) → RoseBy b was mid → mid ≤ now → RoseBy b was now
later_rose b was mid now rose later = omega arith

earlier_rose : (b was mid now : ℕ) → was ≤ mid → RoseBy b mid now → RoseBy b was now
earlier_rose b was mid now later rose = omega arith

rose_none : (was now : ℕ) → was ≤ now → RoseBy 0 was now
rose_none was now later = omega arith

-- counts that haven't fallen bear that nothing is blamed
pub bears_none : (was now : Faults) → Later was now → Bears no_faults was now
bears_none was now later =
    record {
      link = rose_none was.link now.link later.link;
      keep = rose_none was.keep now.keep later.keep;
      front = rose_none was.front now.front later.front;
      say = rose_none was.say now.say later.say;
    }

-- counts that bear a blame bear it later, where they haven't fallen since
pub bears_later : (b was mid now : Faults) → Bears b was mid → Later mid now → Bears b was now
bears_later b was mid now bears later =
    record {
      link = later_rose b.link was.link mid.link now.link bears.link later.link;
      keep = later_rose b.keep was.keep mid.keep now.keep bears.keep later.keep;
      front = later_rose b.front was.front mid.front now.front bears.front later.front;
      say = later_rose b.say was.say mid.say now.say bears.say later.say;
    }

-- counts that bear a blame bear it from an earlier moment on, where they hadn't fallen before
pub bears_earlier : (b was mid now : Faults) → Later was mid → Bears b mid now → Bears b was now
bears_earlier b was mid now later bears =
    record {
      link = earlier_rose b.link was.link mid.link now.link later.link bears.link;
      keep = earlier_rose b.keep was.keep mid.keep now.keep later.keep bears.keep;
      front = earlier_rose b.front was.front mid.front now.front later.front bears.front;
      say = earlier_rose b.say was.say mid.say now.say later.say bears.say;
    }

-- where nothing failed, no count has fallen
pub later_same : (was now : Faults) → NoFault was now → Later was now
later_same was now same =
    record {
      link = omega (arith, ap (λ (f : Faults). f.link) same);
      keep = omega (arith, ap (λ (f : Faults). f.keep) same);
      front = omega (arith, ap (λ (f : Faults). f.front) same);
      say = omega (arith, ap (λ (f : Faults). f.say) same);
    }

-- where the front alone may have failed, no count has fallen
pub later_front : (was now : Faults) → FrontAlone was now → Later was now
later_front was now alone = record { link = omega (arith, alone.link); keep = omega (arith, alone.keep); front = alone.front; say = omega (arith, alone.say) }

-- ---- the work

-- what needs the mail takes memory
pub takes_for_mail : (asking : Asking) (asks : Bool) → asks_for_mail asking ≡ asks → asks ≡ true → TakesMemory asking
takes_for_mail (Calls request) asks asks_is needs = tt
takes_for_mail (Problem e) asks asks_is needs = tt
takes_for_mail Session asks asks_is needs = tt
takes_for_mail (Upload media octets) asks asks_is needs = tt
takes_for_mail (Download blob media) asks asks_is needs = tt
takes_for_mail (Refused refusal) asks asks_is needs = let both : false ≡ true = asks_is ∙ needs in absurd cc

keeps_for_mail : (asking : Asking) (uploads : List (List ℕ)) → asks_for_mail asking ≡ true → KeepsUpload asking uploads uploads
keeps_for_mail (Calls request) uploads needs = refl
keeps_for_mail (Problem e) uploads needs = refl
keeps_for_mail Session uploads needs = refl
keeps_for_mail (Upload media octets) uploads needs = let both : false ≡ true = needs in absurd cc
keeps_for_mail (Download blob media) uploads needs = refl
keeps_for_mail (Refused refusal) uploads needs = refl

-- what a gate holds once this was answered, or there was no memory for it
abbrev came_to : Progress → Result Response AllocError → Gate → GateState
came_to done result gate = record { machine = machine_left result done.machine; uploads = gate.uploads }

-- the work on what needs the mail, where it came to this
worked : {account : Account} {asking : Asking} {machine : MachineState} {begun answered : Progress} {xs ys doing : List Event} {came : Option Answer}
    (ending : List Event) (uploads : List (List ℕ)) → asks_for_mail asking ≡ true → PreparesMail account.user account.password machine xs begun
    → Does account uploads asking begun doing answered came → HangsUp (is_up answered.left) ending → ys ≡ doing ++ ending
    → RequestWork account uploads machine asking (xs ++ ys) came (record answered { left = None })
worked {begun = begun} {answered = answered} {xs = xs} {doing = doing} ending uploads needs prepares does hangs whole =
    WithMail needs (record {
      begun = begun;
      answered = answered;
      beginning = xs;
      doing = doing;
      ending = ending;
      prepares = prepares;
      does = does;
      hangs_up = hangs;
      whole = ap (λ (l : List Event). xs ++ l) whole;
      after_is = refl;
    })

made_over : {door : Door} {account : Account} {asking : Asking} {begun : Progress} {kept : Machine} {was now : Faults} {xs ys : List Event} (before after : GateState)
    (gone : List (List ℕ)) (result : Result Response AllocError) → asks_for_mail asking ≡ true → gone ≡ before.uploads → after.uploads ≡ before.uploads
    → PreparesMail account.user account.password before.machine xs begun → (finishes : Finishes door account gone asking begun kept was now result ys)
    → IsMade door account asking before after (xs ++ ys) (record finishes.answered { left = None }) result
made_over {account = account} {asking = asking} {begun = begun} before after gone (Ok r) needs same stays prepares finishes =
    let made = finishes.made in (
      made.0,
      worked finishes.ending after.uploads needs prepares
          (subst (λ (u : List (List ℕ)). Does account u asking begun finishes.doing finishes.answered (Some made.0)) (same ∙ sym stays) made.1)
          finishes.hangs_up finishes.whole,
      made.2,
      made.3,
      subst (λ (u : List (List ℕ)). KeepsUpload asking before.uploads u) (sym stays) (keeps_for_mail asking before.uploads needs),
    )
made_over {account = account} {asking = asking} {begun = begun} before after gone (Err e) needs same stays prepares finishes = (
  takes_for_mail asking true needs refl,
  worked finishes.ending before.uploads needs prepares
      (subst (λ (u : List (List ℕ)). Does account u asking begun finishes.doing finishes.answered None) same finishes.made) finishes.hangs_up finishes.whole,
)

-- the way to the mail, and then the answer over it
pub answers_over : {machine : Machine} {client : ClientState} {how : MailStatus} {was then now : Faults} {xs ys : List Event} (gate before : Gate) (secrets : Hidden)
    (asking : Asking) (result : Result Response AllocError) (s : GateState) (begun : BeginsTo before.account.user secrets.password s.machine machine client how was then xs)
    → Finishes before.door (account_by before secrets) before.uploads asking begun.after gate.machine was now result ys → GateHolds s before
    → asks_for_mail asking ≡ true → gate.uploads ≡ before.uploads
    → (t : GateState) × GateHolds t gate × AnswersTo before.door (account_by before secrets) asking s t was now result (xs ++ ys)
answers_over gate before secrets asking result s begun finishes holds needs same =
    let after : GateState = came_to finishes.answered result gate in (
      after,
      record { machine = finishes.held; uploads = refl },
      record {
        done = record finishes.answered { left = None };
        machine_is = refl;
        bears = finishes.bears;
        may = inl (same ∙ holds.uploads);
        made = made_over s after before.uploads result needs holds.uploads (same ∙ holds.uploads) begun.begins finishes;
      },
    )

-- memory ran out on the way: the link life is over, and the machine isn't ready
pub finishes_nothing : {door : Door} {account : Account} {uploads : List (List ℕ)} {asking : Asking} {machine : Machine} {client : ClientState} {how : MailStatus}
    {p : Progress} {was then now : Faults} {ys : List Event} (kept : Machine) (e : AllocError) → CameTo machine client how was then p → kept.known ≡ None
    → HangsUp client.alive ys → NoFault then now → Finishes door account uploads asking p kept was now (Err e) ys
finishes_nothing {uploads = uploads} {asking = asking} {client = client} {p = p} {was = was} {then = then} {now = now} {ys = ys} kept e came none hangs same =
    record {
      answered = p;
      doing = [];
      ending = ys;
      hangs_up = subst (λ (b : Bool). HangsUp b ys) (up_is p.left client came.in_life) hangs;
      whole = refl;
      held = holds_none (forgotten p.machine) kept none;
      bears = stays_borne p.blamed was then now came.bears same;
      made = RunsOut (lacks_nothing uploads asking p);
    }

-- the way to the mail, and then what finishes the answer, whoever's the user's text and the secrets were called
pub answers_on : {machine : Machine} {client : ClientState} {how : MailStatus} {was then now : Faults} {xs ys : List Event} {user : List ℕ} {h : Hidden} (gate before : Gate)
    (secrets : Hidden) (asking : Asking) (result : Result Response AllocError) (s : GateState) → user ≡ before.account.user → h ≡ secrets → asks_for_mail asking ≡ true
    → gate.uploads ≡ before.uploads → BeginsTo user secrets.password s.machine machine client how was then xs
    → ((p : Progress) → CameTo machine client how was then p → (how ≡ Stands → IsSome p.left)
    → Finishes before.door (account_by before h) before.uploads asking p gate.machine was now result ys)
    → GateHolds s before → (t : GateState) × GateHolds t gate × AnswersTo before.door (account_by before secrets) asking s t was now result (xs ++ ys)
answers_on {machine} {client} {how} {was} {then} {now} {xs} {ys} gate before secrets asking result s user_is h_is needs same begins finishes holds =
    let begun : BeginsTo before.account.user secrets.password s.machine machine client how was then xs =
    subst (λ (u : List ℕ). BeginsTo u secrets.password s.machine machine client how was then xs) user_is begins in
    answers_over gate before secrets asking result s begun
    (subst (λ (x : Hidden). Finishes before.door (account_by before x) before.uploads asking begun.after gate.machine was now result ys) h_is
    (finishes begun.after begun.came (λ stands. has_life begun.begins (begun.came.standing_is ∙ stands)))) holds needs same

-- the same where the answer is known to be none
pub finishes_lacking : {door : Door} {account : Account} {uploads : List (List ℕ)} {asking : Asking} {machine : Machine} {client : ClientState} {how : MailStatus}
    {p : Progress} {was then now : Faults} {ys : List Event} {e : AllocError} (kept : Machine) (result : Result Response AllocError) → result ≡ Err e
    → CameTo machine client how was then p → OnErr result (kept.known ≡ None) → HangsUp client.alive ys → NoFault then now
    → Finishes door account uploads asking p kept was now result ys
finishes_lacking kept (Ok r) is came none hangs same = absurd (let never : Ok r ≡ Err _ = is in cc)
finishes_lacking kept (Err f) is came none hangs same = finishes_nothing kept f came none hangs same

-- ---- where the mail can't be told

mail_untold : {machine : Machine} {client : ClientState} {how : MailFailure} {p : Progress} {was then : Faults} (error : MethodError)
    → CameTo machine client (Unserved how) was then p → error ≡ error_of how → mail_at p ≡ Err error
mail_untold {p = p} error came is =
    ap (λ (s : MailStatus). mailing_by s p.machine.known) came.standing_is ∙ ap (λ (x : MethodError). let y : Mailing = Err x in y) (sym is)

-- the response without mail, once the link life is over
pub finished_untold : {door : Door} {uploads : List (List ℕ)} {asking : Asking} {machine kept : Machine} {client : ClientState} {how : MailFailure} {p : Progress}
    {was then now : Faults} {ys : List Event} (account : Hidden → Account) (secrets : Hidden) (error : MethodError) (result made : Result Response AllocError)
    → CameTo machine client (Unserved how) was then p → error ≡ error_of how → HangsUp client.alive ys → NoFault then now → result ≡ made
    → IfOk made (λ r. (h : Hidden) (q : Progress) → mail_at q ≡ Err error → (answer : Answer) × Does (account h) uploads asking q [] q (Some answer)
    × (text_sent r ≡ spelled door answer))
    → HoldsMachine (machine_left result p.machine) kept → Finishes door (account secrets) uploads asking p kept was now result ys
finished_untold {uploads = uploads} {asking = asking} {client = client} {p = p} {was = was} {then = then} {now = now} {ys = ys} account secrets error
    (Err e) made came is hangs same result_is does held =
    record {
      answered = p;
      doing = [];
      ending = ys;
      hangs_up = subst (λ (b : Bool). HangsUp b ys) (up_is p.left client came.in_life) hangs;
      whole = refl;
      held = held;
      bears = stays_borne p.blamed was then now came.bears same;
      made = RunsOut (lacks_nothing uploads asking p);
    }
finished_untold {door} {uploads} {asking} {client = client} {how = how} {p = p} {was = was} {then = then} {now = now} {ys = ys} account secrets error
    (Ok r) made came is hangs same result_is does held =
    let so = (subst (λ (x : Result Response AllocError). IfOk x (λ (response : Response). (h : Hidden) (q : Progress) → mail_at q ≡ Err error
    → (answer : Answer) × Does (account h) uploads asking q [] q (Some answer) × (text_sent response ≡ spelled door answer))) (sym result_is) does)
    secrets p (mail_untold error came is) in
    record {
      answered = p;
      doing = [];
      ending = ys;
      hangs_up = subst (λ (b : Bool). HangsUp b ys) (up_is p.left client came.in_life) hangs;
      whole = refl;
      held = held;
      bears = stays_borne p.blamed was then now came.bears same;
      made = (so.0, so.1, so.2, (λ out. let both : Unserved how ≡ OutOfMemory = sym came.standing_is ∙ out in cc));
    }

-- the machine that is left holds what it held, or isn't ready
pub kept_left : {m : MachineState} (taken kept : Machine) (result : Result Response AllocError) → HoldsMachine m taken → OnOk result (kept ≡ taken)
    → OnErr result (kept.known ≡ None) → HoldsMachine (machine_left result m) kept
kept_left {m} taken kept (Ok r) held kept_is none = subst (λ (x : Machine). HoldsMachine m x) (sym kept_is) held
kept_left {m} taken kept (Err e) held kept_is none = holds_none (forgotten m) kept none

-- ---- where no mail is needed

-- the response, or none, of what needs no mail
pub answers_at_once : (gate before : Gate) (secrets : Hidden) (asking : Asking) (result : Result Response AllocError) (f : Faults) (s : GateState) → GateHolds s before
    → asks_for_mail asking ≡ false → RestStays before gate → HoldsMachine (machine_left result s.machine) gate.machine
    → MayKeepUpload asking before.uploads gate.uploads
    → IfOk result (MakesAtOnce asking before gate)
    → OnErr result (TakesMemory asking)
    → (t : GateState) × GateHolds t gate × AnswersTo before.door (account_by before secrets) asking s t f f result []
answers_at_once gate before secrets asking (Err e) f s holds needless rest held may made takes = (
  record { machine = forgotten s.machine; uploads = gate.uploads },
  record { machine = held; uploads = refl },
  record {
    done = idle s.machine;
    machine_is = refl;
    bears = bears_none f f (later_same f f refl);
    may = subst (λ (u : List (List ℕ)). MayKeepUpload asking u gate.uploads) holds.uploads may;
    made = (takes, NoMail needless (RunsOut (lacks_nothing s.uploads asking (idle s.machine))) refl refl);
  },
)
answers_at_once gate before secrets asking (Ok r) f s holds needless rest held may made takes =
    let so = made.1 secrets s.machine needless in
    let does : Does (account_by before secrets) gate.uploads asking (idle s.machine) [] (idle s.machine) (Some so.0) =
    subst (λ (a : Account). Does a gate.uploads asking (idle s.machine) [] (idle s.machine) (Some so.0)) (same_account {h = secrets} rest refl) so.1 in (
      record { machine = s.machine; uploads = gate.uploads },
      record { machine = held; uploads = refl },
      record {
        done = idle s.machine;
        machine_is = refl;
        bears = bears_none f f (later_same f f refl);
        may = subst (λ (u : List (List ℕ)). MayKeepUpload asking u gate.uploads) holds.uploads may;
        made = (
          so.0,
          NoMail needless does refl refl,
          so.2 ∙ ap (λ (d : Door). spelled d so.0) rest.door,
          (λ out. cc),
          subst (λ (u : List (List ℕ)). KeepsUpload asking u gate.uploads) holds.uploads made.0,
        );
      },
    )

-- what the gate keeps then
pub at_once : (gate mid before : Gate) (secrets : Hidden) (asking : Asking) (result made : Result Response AllocError) (f : Faults) → asks_for_mail asking ≡ false
    → RestStays before mid → mid.machine ≡ before.machine → result ≡ made → OnOk result (gate ≡ mid) → OnErr result (gate ≡ record mid { machine = unready mid.machine })
    → MayKeepUpload asking before.uploads mid.uploads
    → IfOk made (MakesAtOnce asking before mid)
    → OnErr made (TakesMemory asking)
    → (s : GateState) → GateHolds s before → (t : GateState) × GateHolds t gate × AnswersTo before.door (account_by before secrets) asking s t f f result []
at_once gate mid before secrets asking (Ok r) made f needless rest same is gate_is gone may made_so takes s holds =
    let mid_is : mid ≡ gate = sym gate_is in
    answers_at_once gate before secrets asking (Ok r) f s holds needless
    (subst (λ (g : Gate). RestStays before g) mid_is rest)
    (subst (λ (g : Gate). HoldsMachine s.machine g.machine) mid_is (subst (λ (m : Machine). HoldsMachine s.machine m) (sym same) holds.machine))
    (subst (λ (g : Gate). MayKeepUpload asking before.uploads g.uploads) mid_is may)
    (subst (λ (g : Gate). MakesAtOnce asking before g r) mid_is (subst (λ (x : Result Response AllocError). IfOk x (MakesAtOnce asking before mid)) (sym is) made_so))
    tt
at_once gate mid before secrets asking (Err e) made f needless rest same is gate_is gone may made_so takes s holds =
    let mid_is : record mid { machine = unready mid.machine } ≡ gate = sym gone in
    answers_at_once gate before secrets asking (Err e) f s holds needless
    (subst (λ (g : Gate). RestStays before g) mid_is (record { door = rest.door; account = rest.account }))
    (subst (λ (g : Gate). HoldsMachine (forgotten s.machine) g.machine) mid_is (holds_none s.machine (unready mid.machine) refl))
    (subst (λ (g : Gate). MayKeepUpload asking before.uploads g.uploads) mid_is may)
    tt
    (subst (λ (x : Result Response AllocError). OnErr x (TakesMemory asking)) (sym is) takes)

-- ---- the answer

-- what needs no mail is answered so, by a gate that keeps what is uploaded
pub made_for : (before gate : Gate) (asking asked : Asking) (answer : Answer) (result : Result Response AllocError) → asked ≡ asking
    → KeepsUpload asking before.uploads gate.uploads
    → ((s : Hidden) (m : MachineState) → Does (account_by gate s) gate.uploads asking (idle m) [] (idle m) (Some answer))
    → IfOk result (λ r. text_sent r ≡ spelled gate.door answer) → IfOk result (MakesAtOnce asked before gate)
made_for before gate asking asked answer (Ok r) is keeps does text_is =
    let made : MakesAtOnce asking before gate r = (keeps, (λ s m needless. (answer, does s m, text_is))) in
    subst (λ (a : Asking). MakesAtOnce a before gate r) (sym is) made
made_for before gate asking asked answer (Err e) is keeps does text_is = tt

-- ---- the reply to what is asked

-- a response that was made is the reply
pub replied : {door : Door} {account : Account} {asking : Asking} {before after : GateState} {was now : Faults} {events : List Event} (response : Response)
    → AnswersTo door account asking before after was now (Ok response) events → RepliesToAsking door account asking before after was now (text_sent response) events
replied {asking = asking} {events = events} response a =
    record {
      of = λ read reads. (
        Answered record {
          asked = read;
          worked = events;
          asking = asking;
          answer = a.made.0;
          done = a.done;
          whole = refl;
          reads = reads;
          work = a.made.1;
          stands = a.made.3;
          machine_is = a.machine_is;
          keeps = a.made.4;
          text_is = a.made.2;
        },
        a.bears,
      );
    }

-- there was no memory for a response: the reply says so, and the machine isn't ready
pub replied_lacking : {door : Door} {account : Account} {asking : Asking} {before mid : GateState} {was now : Faults} {events : List Event} (e : AllocError) (text : List ℕ)
    → text ≡ no_memory_text door → AnswersTo door account asking before mid was now (Err e) events
    → RepliesToAsking door account asking before (unready_state mid) was now text events
replied_lacking {asking = asking} {events = events} e text text_is a =
    record {
      of = λ read reads. (
        LacksAnswering record {
          asked = read;
          worked = events;
          asking = asking;
          done = a.done;
          whole = refl;
          reads = reads;
          takes = a.made.0;
          work = a.made.1;
          text_is = text_is;
          machine_is = ap (λ (m : MachineState). forgotten m) a.machine_is;
          may_keep = a.may;
        },
        a.bears,
      );
    }

-- ---- reading

-- what was read of the client, and then the reply to what it asks
pub read_asked : {door : Door} {account : Account} {asking : Asking} {before after : GateState} {mid now : Faults} {ys : List Event} (xs : List Event) (was : Faults)
    (response : Response)
    → Later was mid → ReadsAsking door account.token (Ok asking) xs → RepliesToAsking door account asking before after mid now (text_sent response) ys
    → RepliesBy door account before after was now (Some response) (xs ++ ys)
read_asked {mid = mid} {now = now} xs was response later reads replies =
    let r = replies.of xs reads in (r.0, bears_earlier (reply_blamed r.0) was mid now later r.1)

-- memory ran out while the request was read: the reply says so, and the machine isn't ready
pub read_lacking : {door : Door} {account : Account} {events : List Event} (before : GateState) (was now : Faults) (response : Response) → Later was now
    → ReadsAsking door account.token (Err unread.Memory) events → text_sent response ≡ no_memory_text door
    → RepliesBy door account before (unready_state before) was now (Some response) events
read_lacking before was now response later reads text_is = (LacksReading reads text_is refl, bears_none was now later)

-- ---- sending

unsent_rose : (sent : Result (Unit {0}) Failed) (how : ClientOutcome) (mid now : ℕ) → mid ≤ now → how ≡ went sent → (how ≢ served.Whole → Rose mid now) → RoseBy (unsent sent) mid now
unsent_rose (Ok u) how mid now later is cause = omega arith
unsent_rose (Err e) how mid now later is cause = cause (λ whole. cc)

more_rose : (b k was mid now : ℕ) → RoseBy b was mid → RoseBy k mid now → RoseBy (b + k) was now
more_rose b k was mid now one two = omega arith

-- the front's faults are borne besides
bears_front : (n : ℕ) (b was mid now : Faults) → Bears b was mid → FrontAlone mid now → RoseBy n mid.front now.front → Bears (blame_front n b) was now
bears_front n b was mid now bears alone rose =
    record {
      link = later_rose b.link was.link mid.link now.link bears.link (omega (arith, alone.link));
      keep = later_rose b.keep was.keep mid.keep now.keep bears.keep (omega (arith, alone.keep));
      front = more_rose b.front n was.front mid.front now.front bears.front rose;
      say = later_rose b.say was.say mid.say now.say bears.say (omega (arith, alone.say));
    }

-- a client was sent its reply, and is done with
sent_client : {door : Door} {account : Account} {before after : GateState} {was mid now : Faults} {xs : List Event} (ys : List Event) (text : List ℕ)
    (sent : Result (Unit {0}) Failed) (how : ClientOutcome)
    → (replies : Replies door account before xs text after) → Bears (reply_blamed replies) was mid → FrontAlone mid now → (how ≢ served.Whole → Rose mid.front now.front)
    → Sends text sent ys → how ≡ went sent
    → Serves door account before after was now how ((xs ++ ys) ++ ClientDone ∷ [])
sent_client {was = was} {mid = mid} {now = now} {xs = xs} ys text sent how replies bears alone cause sends is =
    record {
      of = λ all all_is. (
        Replied record { replied = xs; heard = ys; text = text; sent = sent; whole = all_is; replies = replies; sends = sends; how_is = is },
        bears_front (unsent sent) (reply_blamed replies) was mid now bears alone (unsent_rose sent how mid.front now.front alone.front is cause),
      );
    }

-- the front failed before the request's end
pub bears_failed : (was mid : Faults) → Later was mid → Rose was.front mid.front → Bears (blame_front 1 no_faults) was mid
bears_failed was mid later rose =
    record { link = rose_none was.link mid.link later.link; keep = rose_none was.keep mid.keep later.keep; front = rose; say = rose_none was.say mid.say later.say }

not_none : (response : Response) (how : ClientOutcome) (mid now : ℕ) → (how ≢ served.Whole → (Some response ≡ None) ⊎ Rose mid now) → how ≢ served.Whole → Rose mid now
not_none response how mid now cause part = elim (cause part) [ inl none ↦ absurd (cc none) | inr rose ↦ rose ]

-- all events of a client that isn't sent anything
unsent_events : (all xs ys : List Event) → all ≡ Accepted ∷ ((xs ++ ys) ++ ClientDone ∷ []) → ys ≡ [] → all ≡ Accepted ∷ (xs ++ ClientDone ∷ [])
unsent_events all xs ys is none = is ∙ (λ i. Accepted ∷ ((ap (λ (l : List Event). xs ++ l) none ∙ append-nil xs) i ++ ClientDone ∷ []))

unread_client : (door : Door) (account : Account) (before after : GateState) (was mid now : Faults) (xs ys all : List Event) (how : ClientOutcome) → Later was mid → FrontAlone mid now
    → IsUnread door account.token was mid xs → after ≡ before → how ≡ served.Part → all ≡ Accepted ∷ (xs ++ ClientDone ∷ [])
    → (segment : Segment door account before all how after) × Bears (blamed segment) was now
unread_client door account before after was mid now xs ys all how later alone (inl ended) same is all_is = (
  Left xs all_is ended is same,
  bears_later no_faults was mid now (bears_none was mid later) (later_front mid now alone),
)
unread_client door account before after was mid now xs ys all how later alone (inr (failed, rose)) same is all_is = (
  Unasked xs all_is failed is same,
  bears_later (blame_front 1 no_faults) was mid now (bears_failed was mid later rose) (later_front mid now alone),
)

-- a client that came is answered
pub serves_reply : (door : Door) (account : Account) (before after : GateState) (was mid now : Faults) (xs ys : List Event) (r : Option Response) (how : ClientOutcome)
    → Later was mid → FrontAlone mid now → (how ≢ served.Whole → (r ≡ None) ⊎ Rose mid.front now.front)
    → RepliesBy door account before after was mid r xs → SendsReply r how ys → Serves door account before after was now how ((xs ++ ys) ++ ClientDone ∷ [])
serves_reply door account before after was mid now xs ys (Some response) how later alone cause replies sends =
    sent_client ys (text_sent response) sends.0 how replies.0 replies.1 alone (not_none response how mid.front now.front cause) sends.1 sends.2
serves_reply door account before after was mid now xs ys None how later alone cause replies sends =
    record { of = λ all all_is. unread_client door account before after was mid now xs ys all how later alone replies.0 replies.1 sends.0 (unsent_events all xs ys all_is sends.1) }

-- one client, or none
pub steps_fault : {door : Door} {account : Account} {events : List Event} (s : GateState) (was now : Faults) → events ≡ FrontFailed ∷ [] → FrontAlone was now
    → Rose was.front now.front
    → AddsSegment door account s s was now served.AcceptFault events
steps_fault s was now is alone rose =
    record { segment = NotAccepted is refl refl; bears = bears_front 1 no_faults was was now (bears_none was was (later_same was was refl)) alone rose }

-- no client comes
pub steps_none : {door : Door} {account : Account} {events : List Event} (s : GateState) (was now : Faults) → events ≡ NoMore ∷ [] → FrontAlone was now
    → AddsSegment door account s s was now served.NoMore events
steps_none s was now is alone = record { segment = NoneComes is refl refl; bears = bears_none was now (later_front was now alone) }

-- a client comes, and then what serving it adds
pub steps_client : {door : Door} {account : Account} {before after : GateState} {mid now : Faults} {xs ys : List Event} (was : Faults) (how : ClientOutcome) → xs ≡ Accepted ∷ []
    → FrontAlone was mid
    → Serves door account before after mid now how ys → AddsSegment door account before after was now how (xs ++ ys)
steps_client {mid = mid} {now = now} {xs = xs} {ys = ys} was how is alone serves =
    let here = serves.of (xs ++ ys) (λ i. is i ++ ys) in
    record { segment = here.0; bears = bears_earlier (blamed here.0) was mid now (later_front was mid alone) here.1 }

-- the count was lower before
pub rose_earlier : (was mid now : ℕ) → was ≤ mid → Rose mid now → Rose was now
rose_earlier was mid now later rose = omega arith

-- a client that came isn't one that couldn't be accepted
pub not_refused : (how : ClientOutcome) → (how ≡ served.Whole) ⊎ (how ≡ served.Part) → how ≡ served.AcceptFault → ⊥
not_refused how (inl whole) fault = let both : served.Whole ≡ served.AcceptFault = sym whole ∙ fault in cc
not_refused how (inr part) fault = let both : served.Part ≡ served.AcceptFault = sym part ∙ fault in cc

part_not_whole : (how : ClientOutcome) → how ≡ served.Part → how ≡ served.Whole → ⊥
part_not_whole how part whole = let both : served.Part ≡ served.Whole = sym part ∙ whole in cc

-- the front failed where a client that came at the bare door isn't served whole
pub part_rose : (r : Option Response) (how : ClientOutcome) (was mid now : Faults) → Later was mid → FrontAlone mid now → (r ≡ None → Rose was.front mid.front)
    → (how ≢ served.Whole → (r ≡ None) ⊎ Rose mid.front now.front) → how ≡ served.Part → Rose was.front now.front
part_rose r how was mid now later alone failed cause part = elim (cause (part_not_whole how part)) [
  | inl none ↦ later_rose 1 was.front mid.front now.front (failed none) alone.front
  | inr rose ↦ rose_earlier was.front mid.front now.front later.front rose
]

-- ---- parts of results

pub on_ok : {T E A B : Type 0} (f : A → B) (x y : A) (result : Result T E) → OnOk result (x ≡ y) → OnOk result (f x ≡ f y)
on_ok f x y (Ok t) is = ap f is
on_ok f x y (Err e) is = is

pub on_err : {T E A B : Type 0} (f : A → B) (x y : A) (result : Result T E) → OnErr result (x ≡ y) → OnErr result (f x ≡ f y)
on_err f x y (Ok t) is = is
on_err f x y (Err e) is = ap f is

-- what holds either way holds
pub whichever : {T E P : Type 0} (result : Result T E) → OnOk result P → OnErr result P → P
whichever (Ok t) so other = so
whichever (Err e) other so = so

-- the outside's events are the same from another name of the same moment
pub adds_at : {a b c : Option (List Event)} (R : List Event → Type 0) → c ≡ b → Adds a b R → Adds a c R
adds_at {a} R is adds = subst (λ (t : Option (List Event)). Adds a t R) (sym is) adds
