-- Calls that the mail of a request answers, as the calls of a request in the work on it.
use Rattle.std.proofs.Common.{arith, ◌≡◌, ◌∙◌, ◌++◌, ℕ, List, [], ◌∷◌, Result, Ok, Err, refl, sym, ap, subst}
use Rattle.gate_world.specs.Causes.{Faults}
use Rattle.gate_world.specs.Tape.{Adds}
use Rattle.gate_world.specs.declared.event.Event.{Event}
use Rattle.gate_world.proofs.Joins.{join, none, widen}
use Rattle.serde_json.specs.Data.{Data}
use Rattle.email_bodies.proofs.Due.{due_more, none_due}
use Rattle.email_get.specs.Asked.{FailsAfter}
use Rattle.jmap_arguments.specs.declared.method_error.MethodError.{MethodError}
use Rattle.jmap_arguments.specs.declared.using.Using.{Using}
use Rattle.jmap_core.specs.CreatedIds.{Ids}
use Rattle.mail_state.specs.History.{MailHistory}
use Rattle.result_references.specs.Call.{CallData}
use Rattle.result_references.specs.References.{resolved_arguments}
use Rattle.set_arguments.specs.declared.set_method.SetMethod.{SetMethod}
use Rattle.gate_machine.specs.Fetching.{NoBodies, AllAsked}
use Rattle.gate_machine.specs.Progress.{Bears, Progress, StandsInLife}
use Rattle.gate_machine.proofs.Asking.{alone_none}
use Rattle.gate_changes.specs.Answering as answering
use Rattle.gate_changes.specs.Answering.{DoesChange, LacksAnswer}
use Rattle.gate_calls.specs.Calling.{Asked, CallsState, DoesCall, Reads, Changes, AreAllAsked, LacksCall, ReadsInVain, ChangesInVain, DoesCalls, LacksNext, AfterLast, InCall}
use Rattle.gate_calls.specs.Calling.{LacksCalls, over_at}
use Rattle.gate_calls.specs.Calling as calling
use Rattle.gate_calls.specs.Calls.{AnswersCall, NoMethod, Unresolved, Resolved, AnswersCalls}
use Rattle.gate_calls.specs.Calls as over_one
use Rattle.gate_calls.specs.Mailings.{MailAndUploads}
use Rattle.gate_calls.specs.ItemChecks.{item_checks}
use Rattle.gate_calls.specs.MethodNames.{method_asked}
use Rattle.gate_calls.specs.Methods.{RepliesTo}
use Rattle.gate_calls.specs.RequestMail.{DoesMethod, ReadsMail, ChangesMail, IsAt, LacksMethod, LacksReading, LacksChanging, LeavesOutside, RequestAnswers, RequestLacks}
use Rattle.gate_calls.specs.RequestMail.{RequestMoment}
use Rattle.gate_calls.specs.Sources as source
use Rattle.gate_calls.specs.Sources.{CallGives, CallLacks, CallsGive, CallsLack, NextLacks}
use Rattle.gate_calls.specs.declared.method.Method.{Method}
use Rattle.gate_calls.proofs.Due.{due_call}

-- ---- one call

-- a method by the name and over the arguments of a call
does_call : {uses : Using} {uploads : List (List ℕ)} {earlier : List CallData} {call : CallData} {m : Method} {d : Data} {s t : CallsState} {asks : List Asked}
    {result : Result Data MethodError} {events : List Event} → method_asked uses call.name ≡ Ok m → resolved_arguments earlier call.arguments ≡ Ok d
    → DoesMethod uploads m d s asks result events t → DoesCall uses uploads earlier call s asks result events t
does_call {m = m} {d = d} named given (ReadsMail bodies replies asked is created) = Reads bodies (Resolved m d named given replies) asked is created
does_call {d = d} named given (ChangesMail set h is told does asks_are) =
    Changes set d h (named ∙ ap (λ (m : Method). let r : Result Method MethodError = Ok m in r) is) given told does asks_are

lacks_call : {uses : Using} {uploads : List (List ℕ)} {earlier : List CallData} {call : CallData} {m : Method} {d : Data} {s : CallsState} {events : List Event} {q : Progress}
    → method_asked uses call.name ≡ Ok m → resolved_arguments earlier call.arguments ≡ Ok d → LacksMethod uploads m d s events q → LacksCall uses uploads earlier call s events q
lacks_call {uses} {uploads} {earlier} {call} {m} {d} {s} named given (LacksReading tried asked due) =
    ReadsInVain tried asked
    (due_more (FailsAfter (RepliesTo m (over_at uploads s) d)) (AreAllAsked uses (over_at uploads s) earlier call) tried
    (λ asks fails. (Err fails.0, Resolved m d named given fails.1)) due)
lacks_call {d = d} named given (LacksChanging set h is told lacks) =
    ChangesInVain set d h (named ∙ ap (λ (m : Method). let r : Result Method MethodError = Ok m in r) is) given told lacks

-- memory ran out after a change was answered
lacks_change : {uploads : List (List ℕ)} {m : SetMethod} {d : Data} {h : MailHistory} {s t : CallsState} {result : Result Data MethodError} {events : List Event}
    → DoesChange (item_checks uploads) m d (Ok h) s result events t → LacksAnswer (item_checks uploads) m d (Ok h) s events t.progress
lacks_change (answering.Refused e is result_is none same) = answering.Unread none (ap (λ (x : CallsState). x.progress) same)
lacks_change (answering.Untold a e is mail_is result_is none same) = answering.Unread none (ap (λ (x : CallsState). x.progress) same)
lacks_change (answering.Asked a g is mail_is (answering.Mismatch current result_is none same)) = answering.Unread none (ap (λ (x : CallsState). x.progress) same)
lacks_change (answering.Asked a g is mail_is (answering.Changes items came current items_are changes answers)) =
    answering.LacksIn a g is mail_is (answering.Unanswered items came current items_are changes)

-- or after a call
lacks_response : {uses : Using} {uploads : List (List ℕ)} {earlier : List CallData} {call : CallData} {s t : CallsState} {asks : List Asked}
    {result : Result Data MethodError} {events : List Event} → DoesCall uses uploads earlier call s asks result events t
    → LacksCall uses uploads earlier call s events t.progress
lacks_response {uses} {uploads} {earlier} {call} {s} (Reads bodies answers asked is created) =
    ReadsInVain bodies (AllAsked asked)
    (due_more (FailsAfter (AnswersCall uses (over_at uploads s) earlier call)) (AreAllAsked uses (over_at uploads s) earlier call) bodies
    (λ more fails. (Err fails.0, fails.1)) (due_call answers))
lacks_response (Changes m d h named given told does asks_are) = ChangesInVain m d h named given told (lacks_change does)

-- or before one
pub lacks_at_once : {uses : Using} {uploads : List (List ℕ)} {earlier : List CallData} (s : CallsState) (later : List CallData)
    → LacksNext uses uploads earlier s [] s.progress later
lacks_at_once s [] = AfterLast refl refl
lacks_at_once {uses} {uploads} {earlier} s (call ∷ later) =
    InCall (ReadsInVain [] (AllAsked NoBodies) (none_due (AreAllAsked uses (over_at uploads s) earlier call)))

-- ---- from one moment to another

pub leaves_none : (s : RequestMoment) → LeavesOutside s s
leaves_none s = record { alone = alone_none s.faults; hidden = refl }

leaves_both : {a b c : RequestMoment} → LeavesOutside a b → LeavesOutside b c → LeavesOutside a c
leaves_both {a} {b} {c} one two =
    record {
      alone = record {
        link = let p = one.alone.link in let q = two.alone.link in omega (arith, p, q);
        keep = two.alone.keep ∙ one.alone.keep;
        front = two.alone.front ∙ one.alone.front;
        say = two.alone.say ∙ one.alone.say;
      };
      hidden = two.hidden ∙ one.hidden;
    }

abbrev at : Progress → Ids → CallsState
at p created = record { progress = p; created = created }

module _ {T : Type 0} (moment : T → RequestMoment) (uses : Using) (uploads : List (List ℕ)) where
  abbrev pub Answers : T → Method → Data → Result Data MethodError → T → Type 0
  Answers before m d r after = RequestAnswers uploads (moment before) m d r (moment after)

  abbrev pub Lacks : T → Method → Data → T → Type 0
  Lacks before m d after = RequestLacks uploads (moment before) m d (moment after)

  -- the work goes on
  pub record LeadsTo (a b : T) (So : List Event → CallsState → CallsState → Type 0) : Type 0 where
    pub run : Adds (moment a).tape (moment b).tape (λ es. (p : Progress) (was : Faults) → IsAt (moment a) was p
        → (q : Progress) × So es (at p (moment a).created) (at q (moment b).created) × IsAt (moment b) was q)
    pub leaves : LeavesOutside (moment a) (moment b)

  leads_none : {So : List Event → CallsState → CallsState → Type 0} (a : T) → ((s : CallsState) → So [] s s) → LeadsTo a a So
  leads_none a so =
      record { run = none (moment a).tape _ (λ p was here. (p, so (at p (moment a).created), here)); leaves = leaves_none (moment a) }

  leads_join : {P Q R : List Event → CallsState → CallsState → Type 0} {a b c : T} → LeadsTo a b P → LeadsTo b c Q
      → ((es fs : List Event) (s mid t : CallsState) → P es s mid → Q fs mid t → R (es ++ fs) s t) → LeadsTo a c R
  leads_join {a = a} {b} {c} one two both =
      record {
        run = join _ one.run two.run (λ es fs first then p was here.
            let f = first p was here in
            let t = then f.0 was f.2 in
            (t.0, both es fs (at p (moment a).created) (at f.0 (moment b).created) (at t.0 (moment c).created) f.1 t.1, t.2));
        leaves = leaves_both one.leaves two.leaves;
      }

  one_call : {earlier : List CallData} {call : CallData} {a : T} {result : Result Data MethodError} {b : T} → CallGives Answers uses earlier call a result b
      → LeadsTo a b (λ es s t. (asks : List Asked) × DoesCall uses uploads earlier call s asks result es t)
  one_call {a = a} (source.NoMethod e is) = leads_none a (λ s. ([], Reads [] (NoMethod e is) NoBodies refl refl))
  one_call {a = a} (source.Unresolved m e is js) = leads_none a (λ s. ([], Reads [] (Unresolved m e is js) NoBodies refl refl))
  one_call (source.Resolved m d is js answers) =
      record {
        run = widen _ answers.run (λ es run p was here. let q = run p was here in (q.1, (q.0, does_call is js q.2), q.3));
        leaves = answers.leaves;
      }

  pub calls_lead : {a : T} {calls responses : List CallData} {b : T} → CallsGive Answers uses a calls responses b
      → LeadsTo a b (λ es s t. (asks : List Asked) × DoesCalls uses uploads s calls asks responses es t)
  calls_lead {a = a} source.NoCalls = leads_none a (λ s. ([], calling.NoCalls))
  calls_lead (source.MoreCalls call result rest one) =
      leads_join (calls_lead rest) (one_call one) (λ es fs s mid t before now. (
        before.0 ++ now.0,
        calling.MoreCalls (record { call = call; asks = now.0; result = result; events = fs; after = t; does = now.1 }) before.1,
      ))

  -- ---- out of memory

  pub record RunsShort (a b : T) (So : List Event → CallsState → Progress → Type 0) : Type 0 where
    pub run : Adds (moment a).tape (moment b).tape (λ es. (p : Progress) (was : Faults) → IsAt (moment a) was p
        → (q : Progress) × So es (at p (moment a).created) q × StandsInLife q.left (moment b).client × Bears q.blamed was (moment b).faults)
    pub leaves : LeavesOutside (moment a) (moment b)

  short_after : {P : List Event → CallsState → CallsState → Type 0} {Q : List Event → CallsState → Progress → Type 0} {a b : T} → LeadsTo a b P
      → ((es : List Event) (s t : CallsState) → P es s t → Q es s t.progress) → RunsShort a b Q
  short_after {a = a} {b} leads so =
      record {
        run = widen _ leads.run (λ es run p was here.
            let q = run p was here in (q.0, so es (at p (moment a).created) (at q.0 (moment b).created) q.1, q.2.came.in_life, q.2.came.bears));
        leaves = leads.leaves;
      }

  short_join : {P : List Event → CallsState → CallsState → Type 0} {Q R : List Event → CallsState → Progress → Type 0} {a b c : T} → LeadsTo a b P → RunsShort b c Q
      → ((es fs : List Event) (s mid : CallsState) (q : Progress) → P es s mid → Q fs mid q → R (es ++ fs) s q) → RunsShort a c R
  short_join {a = a} {b} one two both =
      record {
        run = join _ one.run two.run (λ es fs first then p was here.
            let f = first p was here in
            let t = then f.0 was f.2 in
            (t.0, both es fs (at p (moment a).created) (at f.0 (moment b).created) t.0 f.1 t.1, t.2, t.3));
        leaves = leaves_both one.leaves two.leaves;
      }

  short_at_once : {earlier : List CallData} (a b : T) (later : List CallData) → b ≡ a → RunsShort a b (λ es s q. LacksNext uses uploads earlier s es q later)
  short_at_once {earlier} a b later is =
      subst (λ (t : T). RunsShort a t (λ es s q. LacksNext uses uploads earlier s es q later)) (sym is)
      (short_after (leads_none {So = λ es s t. LacksNext uses uploads earlier s es t.progress later} a (λ s. lacks_at_once s later)) (λ es s t lacks. lacks))

  next_short : {earlier later : List CallData} {a b : T} → NextLacks Answers Lacks uses earlier a b later
      → RunsShort a b (λ es s q. LacksNext uses uploads earlier s es q later)
  next_short {a = a} {b} (source.BeforeNext later is) = short_at_once a b later is
  next_short {a = a} {b} (source.InNext call later (source.Unasked is)) = short_at_once a b (call ∷ later) is
  next_short (source.InNext call later (source.Meanwhile m d is js lacks)) =
      record {
        run = widen _ lacks.run (λ es run p was here. let q = run p was here in (q.0, InCall (lacks_call is js q.1), q.2, q.3));
        leaves = lacks.leaves;
      }
  next_short (source.InNext call later (source.Unanswered result gives)) = short_after (one_call gives) (λ es s t does. InCall (lacks_response does.1))

  pub calls_lack : {calls : List CallData} {a b : T} → CallsLack Answers Lacks uses a calls b → RunsShort a b (λ es s q. LacksCalls uses uploads s calls es q)
  calls_lack lacks =
      short_join (calls_lead lacks.gives) (next_short lacks.lacks) (λ es fs s mid q before now.
      record {
        firsts = lacks.firsts;
        later = lacks.later;
        asks = before.0;
        responses = lacks.responses;
        answering = es;
        lacking = fs;
        mid = mid;
        calls_are = lacks.calls_are;
        does = before.1;
        lacks = now;
        whole = refl;
      })

-- ---- no mail

module _ {T : Type 0} (error : T → MethodError) (uses : Using) (uploads : List (List ℕ)) where
  -- the error, unless a call needs no mail; nothing changes
  abbrev pub AnswersUntold : T → Method → Data → Result Data MethodError → T → Type 0
  AnswersUntold before m d r after = (after ≡ before) × RepliesTo m (record { mail = Err (error before); uploads = uploads }) d [] r

  abbrev pub LacksUntold : T → Method → Data → T → Type 0
  LacksUntold before m d after = after ≡ before

  abbrev pub Over : T → MailAndUploads
  Over s = record { mail = Err (error s); uploads = uploads }

  untold_call : {earlier : List CallData} {call : CallData} {result : Result Data MethodError} {a b : T} → CallGives AnswersUntold uses earlier call a result b
      → (b ≡ a) × AnswersCall uses (Over a) earlier call [] result
  untold_call (source.NoMethod e is) = (refl, NoMethod e is)
  untold_call (source.Unresolved m e is js) = (refl, Unresolved m e is js)
  untold_call (source.Resolved m d is js answers) = (answers.0, Resolved m d is js answers.1)

  pub untold_calls : {a : T} {calls responses : List CallData} {b : T} → CallsGive AnswersUntold uses a calls responses b
      → (b ≡ a) × AnswersCalls uses (Over a) calls [] responses
  untold_calls source.NoCalls = (refl, over_one.NoCalls)
  untold_calls {a = a} (source.MoreCalls {responses = responses} call result rest one) =
      let before = untold_calls rest in
      let now = untold_call one in
      let answers : AnswersCall uses (Over a) responses call [] result =
      subst (λ (t : T). AnswersCall uses (Over t) responses call [] result) before.0 now.1 in
      (now.0 ∙ before.0, over_one.MoreCalls (record { call = call; asks = []; result = result; answers = answers }) before.1)

  call_stays : {earlier : List CallData} {call : CallData} {a b : T} → CallLacks AnswersUntold LacksUntold uses earlier call a b → b ≡ a
  call_stays (source.Unasked is) = is
  call_stays (source.Meanwhile m d is js same) = same
  call_stays (source.Unanswered result gives) = (untold_call gives).0

  next_stays : {earlier later : List CallData} {a b : T} → NextLacks AnswersUntold LacksUntold uses earlier a b later → b ≡ a
  next_stays (source.BeforeNext later is) = is
  next_stays (source.InNext call later lacks) = call_stays lacks

  pub untold_lacks : {calls : List CallData} {a b : T} → CallsLack AnswersUntold LacksUntold uses a calls b → b ≡ a
  untold_lacks lacks = next_stays lacks.lacks ∙ (untold_calls lacks.gives).0
