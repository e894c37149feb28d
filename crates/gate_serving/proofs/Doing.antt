-- What is done for what is asked, and by the bodies that are asked for it.
use Rattle.std.proofs.Common.{◌≡◌, ◌≢◌, ◌∙◌, ◌++◌, ℕ, false, List, [], Option, Some, None, Result, Err, refl, sym, ap, subst}
use Rattle.gate_world.specs.declared.event.Event.{Event}
use Rattle.serde_json.specs.Data.{Data}
use Rattle.serde_json.specs.Written.{compact_text}
use Rattle.email_bodies.specs.Asking.{BodyAsk}
use Rattle.email_bodies.specs.declared.source.MessagePlace.{MessagePlace}
use Rattle.email_bodies.proofs.Due.{none_due}
use Rattle.jmap_arguments.specs.declared.method_error.MethodError.{MethodError}
use Rattle.jmap_arguments.specs.declared.using.Using.{Using}
use Rattle.gate_machine.specs.Fetching.{AsksBody, IsKept, Ends, HasEnded, AsksBodies, NoBodies, MoreBodies, CallsAsk, AllAsked, RunsShort, LacksBody}
use Rattle.gate_machine.specs.Fetching as fetching
use Rattle.gate_machine.specs.Progress.{Progress}
use Rattle.set_calls.specs.Calls.{SetCall}
use Rattle.set_jobs.specs.declared.done.Done.{Done}
use Rattle.set_order.specs.Ordered.{Item}
use Rattle.set_arguments.specs.declared.set_method.SetMethod.{SetMethod}
use Rattle.gate_changes.specs.Answering as answering
use Rattle.gate_changes.specs.Answering.{DoesChange}
use Rattle.gate_changes.specs.Changing as changing
use Rattle.gate_changes.specs.Changing.{ChangesMail, LacksChange, broken_off}
use Rattle.gate_machine.specs.declared.mail_status.MailFailure.TheVariants.{Broken}
use Rattle.gate_machine.specs.declared.mail_status.MailStatus.TheVariants.{OutOfMemory, Stands, Unserved}
use Rattle.gate_calls.specs.Calling.{Asked, CallsState, DoesCall, Reads, Changes, DoesCalls, NoCalls, MoreCalls}
use Rattle.gate_calls.specs.ItemChecks.{item_checks}
use Rattle.gate_calls.specs.Calls.{AnswersCalls, needs_mail}
use Rattle.gate_calls.specs.Mailings.{Mailing, mail_at}
use Rattle.gate_calls.proofs.Needless.{over_any}
use Rattle.gate_calls.proofs.Working.{lacks_at_once}
use Rattle.gate_calls.proofs.Threading.{apart}
use Rattle.gate_calls.proofs.Through.{calls_through, lacks_through, none_through}
use Rattle.result_references.specs.Call.{CallData}
use Rattle.jmap_core.specs.CreatedIds.{Ids}
use Rattle.jmap_core.specs.Request.{RequestData}
use Rattle.gate_serving.specs.Answers.{Answer, DownloadAsks, IsDownload, calls_text, json_answer, problem_answer, untold_problem}
use Rattle.gate_serving.specs.Doing.{Answers, Does, Comes, RunsOut, DoesNothing, Lacks, calls_begun, ids_given, ids_told}
use Rattle.gate_serving.specs.Requests.{Account, Asking, Calls, Problem, Session, Upload, Download, Refused}

-- ---- bodies

pub lacking_out : {message : MessagePlace} {p q : Progress} {events : List Event} → LacksBody message p events q → q.standing ≡ OutOfMemory
lacking_out (fetching.Unasked none is) = ap (λ (x : Progress). x.standing) is
lacking_out (fetching.Asked asks is) = ap (λ (x : Progress). x.standing) is
lacking_out (fetching.NotKept octets asks is) = ap (λ (x : Progress). x.standing) is

still_body : {message : MessagePlace} {p q : Progress} {body : Option (List ℕ)} {events : List Event} → AsksBody message p body events q → q.standing ≡ p.standing
still_body (IsKept octets kept body_is none is) = ap (λ (x : Progress). x.standing) is
still_body (fetching.IsTold octets asks body_is is) = ap (λ (x : Progress). x.standing) is
still_body (Ends e asks other body_is is) = ap (λ (x : Progress). x.standing) is
still_body (HasEnded kept ended body_is none is) = ap (λ (x : Progress). x.standing) is

still : {p q : Progress} {asks : List BodyAsk} {events : List Event} → AsksBodies p asks events q → q.standing ≡ p.standing
still NoBodies = refl
still (MoreBodies next bodies) = still_body next.asks ∙ still bodies

-- memory that ran out is out still
pub still_out : {p q : Progress} {asks : List BodyAsk} {events : List Event} → p.standing ≡ OutOfMemory → CallsAsk p asks events q → q.standing ≡ OutOfMemory
still_out out (AllAsked bodies) = still bodies ∙ out
still_out out (RunsShort short) = lacking_out short.lacks

-- ---- memory that is there

broken_not_out : (p q : Progress) → q ≡ broken_off p → q.standing ≢ OutOfMemory
broken_not_out p q is out = let both : Unserved Broken ≡ OutOfMemory = sym (ap (λ (x : Progress). x.standing) is) ∙ out in cc

change_not_out : {call : SetCall} {items : List Item} {p q : Progress} {result : Result (List (Item × Done)) MethodError} {events : List Event}
    → ChangesMail call items p result events q → q.standing ≢ OutOfMemory
change_not_out (changing.Committed came mid does goes settles stands is) out = let both : Stands ≡ OutOfMemory = sym stands ∙ out in cc
change_not_out {q = q} (changing.SpentBy came mid spent doing ending does goes settles spent_is hangs whole after_is is) out = broken_not_out spent q after_is out
change_not_out {q = q} (changing.FailedInPart mid doing ending does hangs whole after_is is) out = broken_not_out mid q after_is out

set_not_out : {uploads : List (List ℕ)} {m : SetMethod} {d : Data} {mail : Mailing} {s t : CallsState} {result : Result Data MethodError} {events : List Event}
    → DoesChange (item_checks uploads) m d mail s result events t → s.progress.standing ≢ OutOfMemory → t.progress.standing ≢ OutOfMemory
set_not_out (answering.Refused e is result_is none same) stood out = stood (ap (λ (x : CallsState). x.progress.standing) (sym same) ∙ out)
set_not_out (answering.Untold a e is mail_is result_is none same) stood out = stood (ap (λ (x : CallsState). x.progress.standing) (sym same) ∙ out)
set_not_out (answering.Asked a h is mail_is (answering.Mismatch current result_is none same)) stood out =
    stood (ap (λ (x : CallsState). x.progress.standing) (sym same) ∙ out)
set_not_out (answering.Asked a h is mail_is (answering.Changes items came current items_are does answers)) stood out = change_not_out does out

call_not_out : {uses : Using} {uploads : List (List ℕ)} {earlier : List CallData} {call : CallData} {s t : CallsState} {asks : List Asked} {result : Result Data MethodError}
    {events : List Event} → DoesCall uses uploads earlier call s asks result events t → s.progress.standing ≢ OutOfMemory → t.progress.standing ≢ OutOfMemory
call_not_out (Reads bodies answers asked is created) stood out = stood (sym (still asked) ∙ out)
call_not_out (Changes m d h named given told does asks_are) stood out = set_not_out does stood out

-- calls that come to their responses leave memory
pub calls_not_out : {uses : Using} {uploads : List (List ℕ)} {s t : CallsState} {calls responses : List CallData} {asks : List Asked} {events : List Event}
    → DoesCalls uses uploads s calls asks responses events t → s.progress.standing ≢ OutOfMemory → t.progress.standing ≢ OutOfMemory
calls_not_out NoCalls stood out = stood out
calls_not_out (MoreCalls next rest) stood out = call_not_out next.does (calls_not_out rest stood) out

-- ---- what is done

-- calls that create nothing tell the ids that were given
pub same_ids : (given : Option Ids) → ids_told given (ids_given given) ≡ given
same_ids None = refl
same_ids (Some ids) = refl

-- calls that were done
pub does_calls : (account : Account) (uploads : List (List ℕ)) (request : RequestData) (responses : List CallData) (asks : List Asked) (p : Progress) (t : CallsState)
    (events : List Event) → DoesCalls request.uses uploads (calls_begun request p) request.calls asks responses events t
    → Does account uploads (Calls request) p events t.progress
    (Some (json_answer 200 (calls_text account.user account.base responses (ids_told request.created t.created))))
does_calls account uploads request responses asks p t events does =
    Comes asks (json_answer 200 (calls_text account.user account.base responses (ids_told request.created t.created)))
    (record { responses = responses; done = t; does = does; after_is = refl; answer_is = refl })

-- calls for which no body is asked
calls_at_once : (account : Account) (uploads : List (List ℕ)) (request : RequestData) (responses : List CallData) (p : Progress)
    → AnswersCalls request.uses (record { mail = mail_at p; uploads = uploads }) request.calls [] responses
    → Does account uploads (Calls request) p [] p (Some (json_answer 200 (calls_text account.user account.base responses request.created)))
calls_at_once account uploads request responses p answers =
    subst (λ (ids : Option Ids). Does account uploads (Calls request) p [] p (Some (json_answer 200 (calls_text account.user account.base responses ids))))
    (same_ids request.created)
    (does_calls account uploads request responses [] p (calls_begun request p) [] (apart (calls_begun request p) answers p NoBodies))

-- where the mail can't be told
pub calls_untold : (account : Account) (uploads : List (List ℕ)) (request : RequestData) (responses : List CallData) (e : MethodError) (p : Progress) → mail_at p ≡ Err e
    → AnswersCalls request.uses (record { mail = Err e; uploads = uploads }) request.calls [] responses
    → Does account uploads (Calls request) p [] p (Some (json_answer 200 (calls_text account.user account.base responses request.created)))
calls_untold account uploads request responses e p is answers =
    calls_at_once account uploads request responses p
    (subst (λ (mail : Mailing). AnswersCalls request.uses (record { mail = mail; uploads = uploads }) request.calls [] responses) (sym is) answers)

-- where none of them needs the mail they are answered over whatever is served
pub calls_needless : (account : Account) (uploads : List (List ℕ)) (request : RequestData) (responses : List CallData) (e : MethodError) (p : Progress)
    → needs_mail request.calls ≡ false → AnswersCalls request.uses (record { mail = Err e; uploads = uploads }) request.calls [] responses
    → Does account uploads (Calls request) p [] p (Some (json_answer 200 (calls_text account.user account.base responses request.created)))
calls_needless account uploads request responses e p needless answers =
    calls_at_once account uploads request responses p
    (over_any request.uses (record { mail = Err e; uploads = uploads }) (record { mail = mail_at p; uploads = uploads }) needless answers)

-- a blob, where the mail can't be told
pub download_untold : (account : Account) (uploads : List (List ℕ)) (blob : List ℕ) (media : Option (List ℕ)) (e : MethodError) (p : Progress) → mail_at p ≡ Err e
    → Does account uploads (Download blob media) p [] p (Some (problem_answer 404 (compact_text untold_problem)))
download_untold account uploads blob media e p is =
    let answer : Answer = problem_answer 404 (compact_text untold_problem) in
    Comes [] answer
    (record {
      bodies = [];
      asks_are = refl;
      finds = subst (λ (mail : Mailing). IsDownload mail uploads blob media [] answer) (sym is) (refl, refl);
      asked = NoBodies;
    })

-- what asks nothing
pub asks_nothing : {due : Answer} {p : Progress} → DoesNothing due p [] [] due p
asks_nothing = record { answer_is = refl; no_asks = refl; no_events = refl; after_is = refl }

-- memory runs out before anything is asked
pub lacks_nothing : (uploads : List (List ℕ)) (asking : Asking) (p : Progress) → Lacks uploads asking p [] p
lacks_nothing uploads (Calls request) p =
    record {
      firsts = [];
      later = request.calls;
      asks = [];
      responses = [];
      answering = [];
      lacking = [];
      mid = calls_begun request p;
      calls_are = refl;
      does = NoCalls;
      lacks = lacks_at_once (calls_begun request p) request.calls;
      whole = refl;
    }
lacks_nothing uploads (Problem e) p = (refl, refl)
lacks_nothing uploads Session p = (refl, refl)
lacks_nothing uploads (Upload media octets) p = (refl, refl)
lacks_nothing uploads (Download blob media) p = record { tried = []; asked = AllAsked NoBodies; due = none_due (DownloadAsks (mail_at p) uploads blob) }
lacks_nothing uploads (Refused refusal) p = (refl, refl)

-- ---- part by part

-- what holds of nothing, of what one call that reads asks, of one that changes mail, and of one part after another, holds of what is done, whatever it
-- comes to
module _ (R : Progress → List Event → Progress → Type 0) (nothing : (p : Progress) → R p [] p)
    (asks : (p : Progress) (tried : List BodyAsk) (events : List Event) (q : Progress) → CallsAsk p tried events q → R p events q)
    (changes : (call : SetCall) (items : List Item) (p : Progress) (result : Result (List (Item × Done)) MethodError) (events : List Event) (q : Progress)
    → ChangesMail call items p result events q → R p events q)
    (lacks_change : (call : SetCall) (items : List Item) (p : Progress) (events : List Event) (q : Progress) → LacksChange call items p events q → R p events q)
    (both : (p q r : Progress) (es fs : List Event) → R p es q → R q fs r → R p (es ++ fs) r) where
  no_through : {due : Answer} (p : Progress) (asked : List Asked) (events : List Event) (answer : Answer) (q : Progress) → DoesNothing due p asked events answer q
      → R p events q
  no_through p asked events answer q does = none_through R nothing asks changes lacks_change both p q events does.no_events does.after_is

  answers_through : (account : Account) (uploads : List (List ℕ)) (asking : Asking) (p : Progress) (asked : List Asked) (events : List Event) (answer : Answer) (q : Progress)
      → Answers account uploads asking p asked events answer q → R p events q
  answers_through account uploads (Calls request) p asked events answer q does =
      subst (λ (x : Progress). R p events x) (sym does.after_is) (calls_through R nothing asks changes lacks_change both does.does)
  answers_through account uploads (Problem e) p asked events answer q does = no_through p asked events answer q does
  answers_through account uploads Session p asked events answer q does = no_through p asked events answer q does
  answers_through account uploads (Upload media octets) p asked events answer q does = no_through p asked events answer q does
  answers_through account uploads (Download blob media) p asked events answer q does = asks p does.bodies events q (AllAsked does.asked)
  answers_through account uploads (Refused refusal) p asked events answer q does = no_through p asked events answer q does

  lacking_through : (uploads : List (List ℕ)) (asking : Asking) (p : Progress) (events : List Event) (q : Progress) → Lacks uploads asking p events q → R p events q
  lacking_through uploads (Calls request) p events q lacks = lacks_through R nothing asks changes lacks_change both lacks
  lacking_through uploads (Problem e) p events q lacks = none_through R nothing asks changes lacks_change both p q events lacks.0 lacks.1
  lacking_through uploads Session p events q lacks = none_through R nothing asks changes lacks_change both p q events lacks.0 lacks.1
  lacking_through uploads (Upload media octets) p events q lacks = none_through R nothing asks changes lacks_change both p q events lacks.0 lacks.1
  lacking_through uploads (Download blob media) p events q lacks = asks p lacks.tried events q lacks.asked
  lacking_through uploads (Refused refusal) p events q lacks = none_through R nothing asks changes lacks_change both p q events lacks.0 lacks.1

  pub does_through : (account : Account) (uploads : List (List ℕ)) (asking : Asking) (p : Progress) (events : List Event) (q : Progress) (came : Option Answer)
      → Does account uploads asking p events q came → R p events q
  does_through account uploads asking p events q came (Comes asked answer does) = answers_through account uploads asking p asked events answer q does
  does_through account uploads asking p events q came (RunsOut lacks) = lacking_through uploads asking p events q lacks
