-- The APPENDs of a link life: each is one of an item.
use Rattle.std.proofs.Common.{arith, ◌≡◌, ◌∙◌, ◌+◌, ◌++◌, ◌⊎◌, ℕ, Bool, true, false, List, [], ◌∷◌, Option, Some, None, Result, refl, sym, ap, inl, inr}
use Rattle.gate_world.specs.declared.event.Event.{Event}
use Rattle.serde_json.specs.Data.{Data}
use Rattle.email_bodies.specs.Asking.{BodyAsk}
use Rattle.email_bodies.specs.declared.source.MessagePlace.{MessagePlace}
use Rattle.imap_types.specs.declared.command.Command.{Command}
use Rattle.imap_types.specs.declared.command.Command.TheVariants as command
use Rattle.imap_exchange.specs.declared.link_end.LinkEnd.{LinkEnd}
use Rattle.told_folder.specs.declared.exchange.Exchange.{Exchange}
use Rattle.told_changes.specs.Told.{is_changing}
use Rattle.imap_client.specs.Connecting.{Connects, Unready, Undialed, Lived, Lives, Unwelcome, Welcome}
use Rattle.imap_client.specs.LinkLife.{LinkLife, ClientState}
use Rattle.imap_client.specs.Plans.{Planned, Ran, Begun, Then, IsEnd, Finished, Failed, Broken, LifeHadEnded, Wanting, Follows}
use Rattle.imap_client.specs.declared.plan.Due.{Due}
use Rattle.jmap_arguments.specs.declared.method_error.MethodError.{MethodError}
use Rattle.jmap_arguments.specs.declared.using.Using.{Using}
use Rattle.mail_state.specs.History.{MailHistory}
use Rattle.result_references.specs.Call.{CallData}
use Rattle.set_arguments.specs.Arguments.{SetAsked}
use Rattle.set_arguments.specs.declared.set_method.SetMethod.{SetMethod}
use Rattle.set_jobs.specs.declared.done.Done.{Done}
use Rattle.set_jobs.specs.declared.done.SetError.{SetError}
use Rattle.set_jobs.specs.declared.job.Job.{Job}
use Rattle.set_order.specs.Ordered.{Item}
use Rattle.set_items.specs.Commands.{append_count, appends_in}
use Rattle.set_items.specs.declared.item.ItemEnd.{ItemEnd}
use Rattle.set_calls.specs.Calls.{SetCall, CallState, TakesItem, Refused, Stepped, DoesItems, NoItems, MoreItems}
use Rattle.set_calls.specs.Calls as calls
use Rattle.set_calls.specs.Calls.{RunsItems, AllDone, Stopped}
use Rattle.gate_machine.specs.Beginning.{Dials, PreparesMail, Readies, Ready, Restart, LacksRoom, RunsRound, Settles, Skips}
use Rattle.gate_machine.specs.Fetching.{AsksBody, IsKept, IsTold, HasEnded, AsksBodies, NoBodies, MoreBodies, AsksStore, LacksBody, Unasked, Asked, NotKept, CallsAsk, AllAsked, RunsShort}
use Rattle.gate_machine.specs.Fetching as fetching
use Rattle.gate_machine.specs.Machine.{MachineState}
use Rattle.gate_machine.specs.Progress.{Progress}
use Rattle.gate_changes.specs.Answering as answering
use Rattle.gate_changes.specs.Answering.{ChangeState, ChangesAsked, DoesChange, ItemChecks, LacksAsked, LacksAnswer}
use Rattle.gate_changes.specs.Changing as changing
use Rattle.gate_changes.specs.Changing.{ChangesMail, DoesCourse, LacksChange, hung}
use Rattle.gate_changes.specs.Importing as importing
use Rattle.gate_changes.specs.Importing.{DoesImports, NoImports, OutBefore, ImportDone, ImportEnds, PreparesImport, RefusedAtOnce, Sought, TakesImport, BodyLost, Taken, NoRoom}
use Rattle.gate_changes.specs.Items.{DoesItemsOver, ItemsCame}
use Rattle.gate_calls.specs.Calling as calling
use Rattle.gate_calls.specs.Calling.{CallsState, DoesCall, Reads, Changes, DoesCalls, NoCalls, MoreCalls, ReadsInVain, ChangesInVain, LacksNext, AfterLast, InCall}
use Rattle.gate_calls.specs.Mailings.{Mailing}
use Rattle.gate_serving.specs.Answers.{Answer}
use Rattle.gate_serving.specs.Doing.{Does, Comes, RunsOut}
use Rattle.gate_serving.specs.Requests as asking
use Rattle.gate_serving.specs.Requests.{Account, Asking}
use Rattle.gate_serving.specs.RequestWork.{WorksOverMail}
use Rattle.call_laws.proofs.Lives.{settled_left}
use Rattle.append_laws.specs.Lives.{LifeAppendsForItems, asked_appends, call_appends, calls_append, change_appends, course_appends, done_appends, import_appends, imports_append}
use Rattle.append_laws.specs.Lives.{item_appends, items_appends, lacks_appends, lacks_asked_appends, lacks_set_appends, next_appends, request_appends, set_appends}
use Rattle.append_laws.specs.Reading.{ChangesNothing}
use Rattle.append_laws.proofs.Reading.{connecting_reads, fetches_read, rounds_read}
use Rattle.append_laws.proofs.Sent.{appends_more}

-- ---- exchanges of a plan

none_appended : (c : Command) → is_changing c ≡ false → append_count c ≡ 0
none_appended (command.Append name flags date message) is = absurd (let never : true ≡ false = is in cc)
none_appended (command.Store uid add flags) is = refl
none_appended (command.Move uid name) is = refl
none_appended (command.Expunge uid) is = refl
none_appended (command.Create name) is = refl
none_appended (command.Delete name) is = refl
none_appended (command.Rename from to) is = refl
none_appended (command.Subscribe name on) is = refl
none_appended command.Capability is = refl
none_appended (command.Login user password) is = refl
none_appended command.Enable is = refl
none_appended (command.List special_use) is = refl
none_appended (command.Select name known) is = refl
none_appended command.Unselect is = refl
none_appended command.FetchFlags is = refl
none_appended (command.FetchSlice from to modseqs) is = refl
none_appended (command.FetchNew from modseqs) is = refl
none_appended (command.FetchBody uid) is = refl

-- one that changes nothing appends nothing
reads_ran : {plan : Planned} {life after : LinkLife} {xs : List Exchange} {events : List Event} → ChangesNothing plan → Ran plan life xs after events → appends_in xs ≡ 0
reads_ran reads Begun = refl
reads_ran reads (Then {heard = heard} next rest) =
    let before : appends_in heard ≡ 0 = reads_ran reads rest in
    let more = appends_more heard next.exchange in
    let none : append_count next.exchange.command ≡ 0 =
    ap append_count next.completes.command_is ∙ none_appended next.command (reads heard next.command next.asked) in
    omega (arith, before, more, none)

-- the life has the exchanges that it had, and these
ran_adds : {plan : Planned} {life after : LinkLife} {xs : List Exchange} {events : List Event} → Ran plan life xs after events
    → appends_in after.exchanges ≡ appends_in life.exchanges + appends_in xs
ran_adds {life = life} Begun = omega arith
ran_adds {life = life} (Then {heard = heard} next rest) =
    let before : appends_in next.before.exchanges ≡ appends_in life.exchanges + appends_in heard = ran_adds rest in
    let told : appends_in next.after.exchanges ≡ appends_in (next.before.exchanges ++ next.exchange ∷ []) =
    ap (λ (l : LinkLife). appends_in l.exchanges) next.completes.after_is in
    let here = appends_more next.before.exchanges next.exchange in
    let there = appends_more heard next.exchange in
    omega (arith, before, told, here, there)

end_keeps : {now : Due} {life left : LinkLife} {result : Result (Unit {0}) LinkEnd} {events : List Event} → IsEnd now life left result events
    → left.exchanges ≡ life.exchanges
end_keeps (Finished is done none same) = ap (λ (l : LinkLife). l.exchanges) same
end_keeps (Failed why is failed hangs left_is) = ap (λ (l : LinkLife). l.exchanges) left_is
end_keeps (Broken command e is failed breaks) = ap (λ (l : LinkLife). l.exchanges) breaks.after_is
end_keeps (LifeHadEnded command is over failed none same) = ap (λ (l : LinkLife). l.exchanges) same
end_keeps (Wanting failed hangs left_is) = ap (λ (l : LinkLife). l.exchanges) left_is

follows_adds : {plan : Planned} {life left : LinkLife} {xs : List Exchange} {client : ClientState} {result : Result (Unit {0}) LinkEnd} {events : List Event}
    → Follows plan life left xs client result events → appends_in left.exchanges ≡ appends_in life.exchanges + appends_in xs
follows_adds follows = ap appends_in (end_keeps follows.ends) ∙ ran_adds follows.ran

follows_none : {plan : Planned} {life left : LinkLife} {xs : List Exchange} {client : ClientState} {result : Result (Unit {0}) LinkEnd} {events : List Event}
    → ChangesNothing plan → Follows plan life left xs client result events → appends_in left.exchanges ≡ appends_in life.exchanges
follows_none {life = life} {left = left} {xs = xs} reads follows =
    let adds : appends_in left.exchanges ≡ appends_in life.exchanges + appends_in xs = follows_adds follows in
    let none : appends_in xs ≡ 0 = reads_ran reads follows.ran in
    omega (arith, adds, none)

-- ---- what a life has

-- none where there is no life
held : Option LinkLife → ℕ
held None = 0
held (Some life) = appends_in life.exchanges

-- of what is left at some moment
abbrev held_at : Progress → ℕ
held_at p = held p.left

held_same : (o p : Option LinkLife) → p ≡ o → held p ≡ held o
held_same o p is = ap held is

held_hung : (o : Option LinkLife) → held (hung o) ≡ held o
unfolding held
held_hung None = refl
held_hung (Some life) = refl

held_life : (o : Option LinkLife) (life : LinkLife) → o ≡ Some life → held o ≡ appends_in life.exchanges
unfolding held
held_life o life is = ap held is

held_none : (o : Option LinkLife) → o ≡ None → held o ≡ 0
unfolding held
held_none o is = ap held is

-- nothing is done between
same_held : (p q : Progress) → q ≡ p → held_at q ≡ held_at p
same_held p q is = ap held_at is

-- ---- the items of a call

item_adds : {c : SetCall} {item : Item} {before after : CallState} {done : Done} {events : List Event} (takes : TakesItem c item before done events after)
    → appends_in after.life.exchanges ≡ appends_in before.life.exchanges + item_appends takes
item_adds {before = before} {after = after} (Refused drawn e is done_is events_are same) =
    let here : appends_in after.life.exchanges ≡ appends_in before.life.exchanges = ap (λ (s : CallState). appends_in s.life.exchanges) same in omega (arith, here)
item_adds (Stepped drawn job doing is steps events_are) = follows_adds steps.does.runs.follows

done_adds : {c : SetCall} {before after : CallState} {done : List (Item × Done)} {events : List Event} (does : DoesItems c before done events after)
    → appends_in after.life.exchanges ≡ appends_in before.life.exchanges + done_appends does
done_adds {before = before} NoItems = omega arith
done_adds {before = before} (MoreItems {mid = mid} next rest) =
    let first : appends_in mid.life.exchanges ≡ appends_in before.life.exchanges + done_appends rest = done_adds rest in
    let then : appends_in next.after.life.exchanges ≡ appends_in mid.life.exchanges + item_appends next.takes = item_adds next.takes in
    omega (arith, first, then)

items_add : {c : SetCall} {items : List Item} {before after : CallState} {result : ItemsCame} {events : List Event} (runs : RunsItems c items before result events after)
    → appends_in after.life.exchanges ≡ appends_in before.life.exchanges + items_appends runs
items_add (AllDone done does all is) = done_adds does
items_add {before = before} {after = after} (Stopped done item later mid so_far last ends does stops all whole is) =
    let first : appends_in mid.life.exchanges ≡ appends_in before.life.exchanges + done_appends does = done_adds does in
    let then : appends_in after.life.exchanges ≡ appends_in mid.life.exchanges + appends_in stops.steps.does.runs.exchanges =
    follows_adds stops.steps.does.runs.follows in
    omega (arith, first, then)
items_add (calls.Wanting done later so_far drawn does draws all whole is) = done_adds does

row_adds : {call : SetCall} {items : List Item} {p q : Progress} {came : ItemsCame} {events : List Event} (does : DoesItemsOver call items p came events q)
    → held_at q ≡ held_at p + items_appends does.runs
row_adds {p = p} {q = q} does =
    let adds : appends_in does.now.life.exchanges ≡ appends_in does.life.exchanges + items_appends does.runs = items_add does.runs in
    let begun : held_at p ≡ appends_in does.life.exchanges = held_life p.left does.life does.in_life in
    let ended : held_at q ≡ appends_in does.now.life.exchanges = held_life q.left does.now.life (ap (λ (x : Progress). x.left) does.after_is) in
    omega (arith, adds, begun, ended)

-- ---- bodies

store_keeps : {message : MessagePlace} {p : Progress} {result : Result (List ℕ) LinkEnd} {events : List Event} (asks : AsksStore message p result events)
    → appends_in asks.left.exchanges ≡ held_at p
store_keeps {message = message} {p = p} asks =
    follows_none (fetches_read message.folder message.uid _ asks.kept.known.told.mail) asks.fetches.follows ∙ sym (held_life p.left asks.life asks.in_life)

body_keeps : {message : MessagePlace} {p q : Progress} {body : Option (List ℕ)} {events : List Event} → AsksBody message p body events q → held_at q ≡ held_at p
body_keeps (IsKept octets kept body_is none is) = ap held_at is
body_keeps {q = q} (IsTold octets asks body_is is) = held_life q.left asks.left (ap (λ (x : Progress). x.left) is) ∙ store_keeps asks
body_keeps {q = q} (fetching.Ends e asks other body_is is) = held_life q.left asks.left (ap (λ (x : Progress). x.left) is) ∙ store_keeps asks
body_keeps (HasEnded kept ended body_is none is) = ap held_at is

bodies_keep : {p q : Progress} {asks : List BodyAsk} {events : List Event} → AsksBodies p asks events q → held_at q ≡ held_at p
bodies_keep NoBodies = refl
bodies_keep (MoreBodies next bodies) = body_keeps next.asks ∙ bodies_keep bodies

lacking_keeps : {message : MessagePlace} {p q : Progress} {events : List Event} → LacksBody message p events q → held_at q ≡ held_at p
lacking_keeps (Unasked none is) = ap held_at is
lacking_keeps {q = q} (Asked asks is) = held_life q.left asks.left (ap (λ (x : Progress). x.left) is) ∙ store_keeps asks
lacking_keeps {q = q} (NotKept octets asks is) = held_life q.left asks.left (ap (λ (x : Progress). x.left) is) ∙ store_keeps asks

asked_keep : {p q : Progress} {asks : List BodyAsk} {events : List Event} → CallsAsk p asks events q → held_at q ≡ held_at p
asked_keep (AllAsked bodies) = bodies_keep bodies
asked_keep (RunsShort short) = lacking_keeps short.lacks ∙ bodies_keep short.asked

-- ---- imports

prepared_keeps : {call : SetCall} {uploads : List (List ℕ)} {item : Item} {p q : Progress} {asks : List BodyAsk} {made : Option (Result Job SetError)} {events : List Event}
    → PreparesImport call uploads item p asks made events q → held_at q ≡ held_at p
prepared_keeps (RefusedAtOnce here e is) = refl
prepared_keeps (Sought here i found is finds asked makes) = bodies_keep asked

room_keeps : {call : SetCall} {uploads : List (List ℕ)} {item : Item} {p q : Progress} {events : List Event} → importing.LacksRoom call uploads item p events q
    → held_at q ≡ held_at p
room_keeps (importing.Seeking here i tried is asked due) = asked_keep asked
room_keeps (importing.WhenMade job prepares) = prepared_keeps prepares

import_adds : {call : SetCall} {uploads : List (List ℕ)} {item : Item} {p q : Progress} {asks : List BodyAsk} {ends : ItemEnd} {events : List Event}
    (takes : TakesImport call uploads item p asks ends events q) → held_at q ≡ held_at p + import_appends takes
import_adds {p = p} {q = q} (BodyLost prepares) = let keeps : held_at q ≡ held_at p = prepared_keeps prepares in omega (arith, keeps)
import_adds {p = p} {q = q} (Taken {mid = mid} made ends prepares does) =
    let keeps : held_at mid ≡ held_at p = prepared_keeps prepares in
    let adds : held_at q ≡ held_at mid + items_appends does.runs = row_adds does in
    omega (arith, keeps, adds)
import_adds {p = p} {q = q} (NoRoom lacks) = let keeps : held_at q ≡ held_at p = room_keeps lacks in omega (arith, keeps)

imports_add : {call : SetCall} {uploads : List (List ℕ)} {made : Bool} {items : List Item} {p q : Progress} {came : ItemsCame} {events : List Event}
    (imports : DoesImports call uploads made p items came events q) → held_at q ≡ held_at p + imports_append imports
imports_add {p = p} (NoImports here) = omega arith
imports_add {p = p} (OutBefore here) = omega arith
imports_add {p = p} {q = q} (ImportDone {mid = mid} item done takes rest) =
    let first : held_at mid ≡ held_at p + import_appends takes = import_adds takes in
    let then : held_at q ≡ held_at mid + imports_append rest = imports_add rest in
    omega (arith, first, then)
imports_add (ImportEnds item ends not takes) = import_adds takes

course_adds : {call : SetCall} {items : List Item} {p q : Progress} {came : ItemsCame} {events : List Event} (does : DoesCourse call items p came events q)
    → held_at q ≡ held_at p + course_appends does
course_adds (changing.InRow row does) = row_adds does
course_adds (changing.OneByOne uploads rules imports) = imports_add imports

-- ---- a call

settled_keeps : {p q : Progress} {events : List Event} → Settles p events q → held_at q ≡ held_at p
settled_keeps settles = ap held (settled_left settles)

broken_keeps : (p q : Progress) → q ≡ changing.broken_off p → held_at q ≡ held_at p
broken_keeps p q is = ap held_at is ∙ held_hung p.left

change_adds : {call : SetCall} {items : List Item} {p q : Progress} {result : Result (List (Item × Done)) MethodError} {events : List Event}
    (changes : ChangesMail call items p result events q) → held_at q ≡ held_at p + change_appends changes
change_adds {p = p} {q = q} (changing.Committed came mid does goes settles stands is) =
    let adds : held_at mid ≡ held_at p + course_appends does = course_adds does in
    let keeps : held_at q ≡ held_at mid = settled_keeps settles in
    omega (arith, adds, keeps)
change_adds {p = p} {q = q} (changing.SpentBy came mid spent doing ending does goes settles is hangs whole after_is result_is) =
    let adds : held_at mid ≡ held_at p + course_appends does = course_adds does in
    let keeps : held_at spent ≡ held_at mid = settled_keeps settles in
    let breaks : held_at q ≡ held_at spent = broken_keeps spent q after_is in
    omega (arith, adds, keeps, breaks)
change_adds {p = p} {q = q} (changing.FailedInPart mid doing ending does hangs whole after_is is) =
    let adds : held_at mid ≡ held_at p + course_appends does = course_adds does in
    let breaks : held_at q ≡ held_at mid = broken_keeps mid q after_is in
    omega (arith, adds, breaks)

lacks_add : {call : SetCall} {items : List Item} {p q : Progress} {events : List Event} (lacks : LacksChange call items p events q)
    → held_at q ≡ held_at p + lacks_appends lacks
lacks_add {p = p} {q = q} (changing.InItems mid does is) =
    let adds : held_at mid ≡ held_at p + course_appends does = course_adds does in
    let keeps : held_at q ≡ held_at mid = ap held_at is in
    omega (arith, adds, keeps)
lacks_add {p = p} {q = q} (changing.InCommit came mid does goes settles stands) =
    let adds : held_at mid ≡ held_at p + course_appends does = course_adds does in
    let keeps : held_at q ≡ held_at mid = settled_keeps settles in
    omega (arith, adds, keeps)

asked_adds : {checks : ItemChecks} {m : SetMethod} {a : SetAsked} {h : MailHistory} {s t : ChangeState} {result : Result Data MethodError} {events : List Event}
    (asked : ChangesAsked checks m a h s result events t) → held_at t.progress ≡ held_at s.progress + asked_appends asked
asked_adds {s = s} {t = t} (answering.Mismatch is result_is none same) =
    let keeps : held_at t.progress ≡ held_at s.progress = ap (λ (x : ChangeState). held_at x.progress) same in omega (arith, keeps)
asked_adds (answering.Changes items came is items_are changes answers) = change_adds changes

lacks_asked_add : {checks : ItemChecks} {m : SetMethod} {a : SetAsked} {h : MailHistory} {s : ChangeState} {q : Progress} {events : List Event}
    (lacks : LacksAsked checks m a h s events q) → held_at q ≡ held_at s.progress + lacks_asked_appends lacks
lacks_asked_add {s = s} {q = q} (answering.BeforeItems none same) =
    let keeps : held_at q ≡ held_at s.progress = ap held_at same in omega (arith, keeps)
lacks_asked_add (answering.Meanwhile items is items_are lacks) = lacks_add lacks
lacks_asked_add (answering.Unanswered items came is items_are changes) = change_adds changes

set_adds : {checks : ItemChecks} {m : SetMethod} {d : Data} {mail : Mailing} {s t : ChangeState} {result : Result Data MethodError} {events : List Event}
    (does : DoesChange checks m d mail s result events t) → held_at t.progress ≡ held_at s.progress + set_appends does
set_adds {s = s} {t = t} (answering.Refused e is result_is none same) =
    let keeps : held_at t.progress ≡ held_at s.progress = ap (λ (x : ChangeState). held_at x.progress) same in omega (arith, keeps)
set_adds {s = s} {t = t} (answering.Untold a e is mail_is result_is none same) =
    let keeps : held_at t.progress ≡ held_at s.progress = ap (λ (x : ChangeState). held_at x.progress) same in omega (arith, keeps)
set_adds (answering.Asked a h is mail_is changes) = asked_adds changes

lacks_set_add : {checks : ItemChecks} {m : SetMethod} {d : Data} {mail : Mailing} {s : ChangeState} {q : Progress} {events : List Event}
    (lacks : LacksAnswer checks m d mail s events q) → held_at q ≡ held_at s.progress + lacks_set_appends lacks
lacks_set_add {s = s} {q = q} (answering.Unread none same) = let keeps : held_at q ≡ held_at s.progress = ap held_at same in omega (arith, keeps)
lacks_set_add (answering.LacksIn a h is mail_is lacks) = lacks_asked_add lacks

call_adds : {uses : Using} {uploads : List (List ℕ)} {earlier : List CallData} {call : CallData} {s t : CallsState} {asks : List calling.Asked}
    {result : Result Data MethodError} {events : List Event} (does : DoesCall uses uploads earlier call s asks result events t)
    → held_at t.progress ≡ held_at s.progress + call_appends does
call_adds {s = s} {t = t} (Reads bodies answers asked asks_are created) =
    let keeps : held_at t.progress ≡ held_at s.progress = bodies_keep asked in omega (arith, keeps)
call_adds (Changes m d h named is told does asks_are) = set_adds does

-- ---- a request

calls_add : {uses : Using} {uploads : List (List ℕ)} {s t : CallsState} {calls : List CallData} {asks : List calling.Asked} {responses : List CallData}
    {events : List Event} (does : DoesCalls uses uploads s calls asks responses events t) → held_at t.progress ≡ held_at s.progress + calls_append does
calls_add {s = s} NoCalls = omega arith
calls_add {s = s} (MoreCalls {mid = mid} next rest) =
    let first : held_at mid.progress ≡ held_at s.progress + calls_append rest = calls_add rest in
    let then : held_at next.after.progress ≡ held_at mid.progress + call_appends next.does = call_adds next.does in
    omega (arith, first, then)

next_adds : {uses : Using} {uploads : List (List ℕ)} {earlier later : List CallData} {s : CallsState} {q : Progress} {events : List Event}
    (lacks : LacksNext uses uploads earlier s events q later) → held_at q ≡ held_at s.progress + next_appends lacks
next_adds {s = s} {q = q} (AfterLast none same) = let keeps : held_at q ≡ held_at s.progress = ap held_at same in omega (arith, keeps)
next_adds {s = s} {q = q} (InCall (ReadsInVain tried asked due)) = let keeps : held_at q ≡ held_at s.progress = asked_keep asked in omega (arith, keeps)
next_adds (InCall (ChangesInVain m d h named is told lacks)) = lacks_set_add lacks

no_more : (p q : Progress) → held_at q ≡ held_at p → held_at q ≡ held_at p + 0
no_more p q keeps = omega (arith, keeps)

request_adds : {account : Account} {uploads : List (List ℕ)} (for : Asking) {p q : Progress} {events : List Event} {came : Option Answer}
    (does : Does account uploads for p events q came) → held_at q ≡ held_at p + request_appends for does
request_adds (asking.Calls request) {p = p} {q = q} (Comes asks answer does) =
    let adds : held_at does.done.progress ≡ held_at p + calls_append does.does = calls_add does.does in
    let keeps : held_at q ≡ held_at does.done.progress = ap held_at does.after_is in
    omega (arith, adds, keeps)
request_adds (asking.Calls request) {p = p} {q = q} (RunsOut lacks) =
    let first : held_at lacks.mid.progress ≡ held_at p + calls_append lacks.does = calls_add lacks.does in
    let then : held_at q ≡ held_at lacks.mid.progress + next_appends lacks.lacks = next_adds lacks.lacks in
    omega (arith, first, then)
request_adds (asking.Problem e) {p = p} {q = q} (Comes asks answer does) = no_more p q (ap held_at does.after_is)
request_adds (asking.Problem e) {p = p} {q = q} (RunsOut lacks) = no_more p q (ap held_at lacks.1)
request_adds asking.Session {p = p} {q = q} (Comes asks answer does) = no_more p q (ap held_at does.after_is)
request_adds asking.Session {p = p} {q = q} (RunsOut lacks) = no_more p q (ap held_at lacks.1)
request_adds (asking.Upload media octets) {p = p} {q = q} (Comes asks answer does) = no_more p q (ap held_at does.after_is)
request_adds (asking.Upload media octets) {p = p} {q = q} (RunsOut lacks) = no_more p q (ap held_at lacks.1)
request_adds (asking.Download blob media) {p = p} {q = q} (Comes asks answer does) = no_more p q (bodies_keep does.asked)
request_adds (asking.Download blob media) {p = p} {q = q} (RunsOut lacks) = no_more p q (asked_keep lacks.asked)
request_adds (asking.Refused refusal) {p = p} {q = q} (Comes asks answer does) = no_more p q (ap held_at does.after_is)
request_adds (asking.Refused refusal) {p = p} {q = q} (RunsOut lacks) = no_more p q (ap held_at lacks.1)

-- ---- the way to the mail

readied : {before : MachineState} {events : List Event} {p : Progress} → Readies before events p → p.left ≡ None
readied (Ready k known none is) = ap (λ (x : Progress). x.left) is
readied (Restart epoch none drawn is) = ap (λ (x : Progress). x.left) is
readied (LacksRoom epoch none drawn is) = ap (λ (x : Progress). x.left) is

lived : {user password : List ℕ} {left : Option LinkLife} {client : ClientState} {result : Result (Unit {0}) LinkEnd} {events : List Event}
    → Lives user password left client result events → held left ≡ 0
lived {left = left} (Unwelcome e unwelcome failed none) = held_none left none
lived {user = user} {password = password} {left = left} (Welcome life after welcome is) =
    held_life left after is ∙ follows_none (connecting_reads welcome.preauth user password) welcome.follows ∙ ap appends_in welcome.new.unasked

connected : {user password : List ℕ} {left : Option LinkLife} {client : ClientState} {result : Result (Unit {0}) LinkEnd} {events : List Event}
    → Connects user password left client result events → held left ≡ 0
connected {left = left} (Unready none failed is) = held_none left is
connected {left = left} (Undialed ended failed is) = held_none left is
connected (Lived talk whole lives) = lived lives

dialed : {user password : List ℕ} {p q : Progress} {events : List Event} → p.left ≡ None → Skips p events q ⊎ Dials user password p events q → held_at q ≡ 0
dialed {p = p} none (inl skips) = ap held_at skips.2 ∙ held_none p.left none
dialed none (inr dials) = ap held_at dials.after_is ∙ connected dials.connects

rounded : {p q : Progress} {events : List Event} → Skips p events q ⊎ RunsRound p events q → held_at q ≡ held_at p
rounded (inl skips) = ap held_at skips.2
rounded {p = p} {q = q} (inr round) =
    held_life q.left round.left (ap (λ (x : Progress). x.left) round.after_is) ∙ follows_none (rounds_read _ _) round.rounds.follows
    ∙ sym (held_life p.left round.life round.in_life)

settled : {p q : Progress} {events : List Event} → Skips p events q ⊎ Settles p events q → held_at q ≡ held_at p
settled (inl skips) = ap held_at skips.2
settled (inr settles) = settled_keeps settles

begun_none : {user password : List ℕ} {before : MachineState} {events : List Event} {p : Progress} → PreparesMail user password before events p → held_at p ≡ 0
begun_none prepares = settled prepares.asks.settles ∙ rounded prepares.asks.asks ∙ dialed (readied prepares.readies) prepares.dials

-- ---- the link life of a request

pub life_appends : {account : Account} {uploads : List (List ℕ)} {before : MachineState} {for : Asking} {events : List Event} {came : Option Answer} {after : Progress}
    (work : WorksOverMail account uploads before for events came after) → LifeAppendsForItems work
life_appends {for = for} work life is =
    let begun : held_at work.begun ≡ 0 = begun_none work.prepares in
    let adds : held_at work.answered ≡ held_at work.begun + request_appends for work.does = request_adds for work.does in
    let left : held_at work.answered ≡ appends_in life.exchanges = held_life work.answered.left life is in
    omega (arith, begun, adds, left)
