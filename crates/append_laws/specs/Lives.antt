-- The APPENDs that are completed in the link life of a request: those of the items of its calls, and no others (RFC 9051 section 6.3.12).
use Rattle.std.specs.Prelude.{◌≡◌, ◌+◌, ℕ, Bool, List, Option, Some, Result}
use Rattle.gate_world.specs.declared.event.Event.{Event}
use Rattle.serde_json.specs.Data.{Data}
use Rattle.jmap_arguments.specs.declared.method_error.MethodError.{MethodError}
use Rattle.jmap_arguments.specs.declared.using.Using.{Using}
use Rattle.mail_state.specs.History.{MailHistory}
use Rattle.result_references.specs.Call.{CallData}
use Rattle.email_bodies.specs.Asking.{BodyAsk}
use Rattle.imap_client.specs.LinkLife.{LinkLife}
use Rattle.set_arguments.specs.Arguments.{SetAsked}
use Rattle.set_arguments.specs.declared.set_method.SetMethod.{SetMethod}
use Rattle.set_jobs.specs.declared.done.Done.{Done}
use Rattle.set_order.specs.Ordered.{Item}
use Rattle.set_items.specs.Commands.{appends_in}
use Rattle.set_items.specs.declared.item.ItemEnd.{ItemEnd}
use Rattle.set_calls.specs.Calls.{SetCall, CallState, TakesItem, Refused, Stepped, DoesItems, NoItems, MoreItems}
use Rattle.set_calls.specs.Calls.{RunsItems, AllDone, Stopped, Wanting}
use Rattle.gate_machine.specs.Machine.{MachineState}
use Rattle.gate_machine.specs.Progress.{Progress}
use Rattle.gate_changes.specs.Answering as answering
use Rattle.gate_changes.specs.Answering.{ChangeState, ChangesAsked, DoesChange, ItemChecks, LacksAsked, LacksAnswer}
use Rattle.gate_changes.specs.Changing as changing
use Rattle.gate_changes.specs.Changing.{ChangesMail, DoesCourse, LacksChange}
use Rattle.gate_changes.specs.Importing.{DoesImports, NoImports, OutBefore, ImportDone, ImportEnds, TakesImport, BodyLost, Taken, NoRoom}
use Rattle.gate_changes.specs.Items.{ItemsCame}
use Rattle.gate_calls.specs.Calling.{Asked, CallsState, DoesCall, Reads, Changes, DoesCalls, NoCalls, MoreCalls, ReadsInVain, ChangesInVain, LacksNext, AfterLast, InCall}
use Rattle.gate_calls.specs.Mailings.{Mailing}
use Rattle.gate_serving.specs.Answers.{Answer}
use Rattle.gate_serving.specs.Doing.{Does, Comes, RunsOut}
use Rattle.gate_serving.specs.Requests.{Account, Asking, Calls}
use Rattle.gate_serving.specs.RequestWork.{WorksOverMail}

-- ---- how many are completed for the items of a call

abbrev pub item_appends : {c : SetCall} {item : Item} {before : CallState} {done : Done} {events : List Event} {after : CallState}
    → TakesItem c item before done events after → ℕ
item_appends (Refused drawn e is done_is events_are same) = 0
item_appends (Stepped drawn job doing is steps events_are) = appends_in steps.does.runs.exchanges

abbrev pub done_appends : {c : SetCall} {before : CallState} {done : List (Item × Done)} {events : List Event} {after : CallState}
    → DoesItems c before done events after → ℕ
done_appends NoItems = 0
done_appends (MoreItems next rest) = done_appends rest + item_appends next.takes

-- the one that ends the call too
abbrev pub items_appends : {c : SetCall} {items : List Item} {before : CallState} {result : ItemsCame} {events : List Event} {after : CallState}
    → RunsItems c items before result events after → ℕ
items_appends (AllDone done does all is) = done_appends does
items_appends (Stopped done item later mid so_far last ends does stops all whole is) = done_appends does + appends_in stops.steps.does.runs.exchanges
items_appends (Wanting done later so_far drawn does draws all whole is) = done_appends does

abbrev pub import_appends : {call : SetCall} {uploads : List (List ℕ)} {item : Item} {before : Progress} {asks : List BodyAsk} {ends : ItemEnd} {events : List Event}
    {after : Progress} → TakesImport call uploads item before asks ends events after → ℕ
import_appends (BodyLost prepares) = 0
import_appends (Taken made ends prepares does) = items_appends does.runs
import_appends (NoRoom lacks) = 0

abbrev pub imports_append : {call : SetCall} {uploads : List (List ℕ)} {made : Bool} {before : Progress} {items : List Item} {came : ItemsCame} {events : List Event}
    {after : Progress} → DoesImports call uploads made before items came events after → ℕ
imports_append (NoImports here) = 0
imports_append (OutBefore here) = 0
imports_append (ImportDone item done takes rest) = import_appends takes + imports_append rest
imports_append (ImportEnds item ends not takes) = import_appends takes

abbrev pub course_appends : {call : SetCall} {items : List Item} {before : Progress} {came : ItemsCame} {events : List Event} {after : Progress}
    → DoesCourse call items before came events after → ℕ
course_appends (changing.InRow row does) = items_appends does.runs
course_appends (changing.OneByOne uploads rules imports) = imports_append imports

-- ---- for a call

abbrev pub change_appends : {call : SetCall} {items : List Item} {before : Progress} {result : Result (List (Item × Done)) MethodError} {events : List Event}
    {after : Progress} → ChangesMail call items before result events after → ℕ
change_appends (changing.Committed came mid does goes settles stands is) = course_appends does
change_appends (changing.SpentBy came mid spent doing ending does goes settles is hangs whole after_is result_is) = course_appends does
change_appends (changing.FailedInPart mid doing ending does hangs whole after_is is) = course_appends does

-- in which memory runs out
abbrev pub lacks_appends : {call : SetCall} {items : List Item} {before : Progress} {events : List Event} {after : Progress}
    → LacksChange call items before events after → ℕ
lacks_appends (changing.InItems mid does is) = course_appends does
lacks_appends (changing.InCommit came mid does goes settles stands) = course_appends does

abbrev pub asked_appends : {checks : ItemChecks} {m : SetMethod} {a : SetAsked} {h : MailHistory} {before : ChangeState} {result : Result Data MethodError}
    {events : List Event} {after : ChangeState} → ChangesAsked checks m a h before result events after → ℕ
asked_appends (answering.Mismatch is result_is none same) = 0
asked_appends (answering.Changes items came is items_are changes answers) = change_appends changes

abbrev pub lacks_asked_appends : {checks : ItemChecks} {m : SetMethod} {a : SetAsked} {h : MailHistory} {before : ChangeState} {events : List Event}
    {after : Progress} → LacksAsked checks m a h before events after → ℕ
lacks_asked_appends (answering.BeforeItems none same) = 0
lacks_asked_appends (answering.Meanwhile items is items_are lacks) = lacks_appends lacks
lacks_asked_appends (answering.Unanswered items came is items_are changes) = change_appends changes

abbrev pub set_appends : {checks : ItemChecks} {m : SetMethod} {d : Data} {mail : Mailing} {before : ChangeState} {result : Result Data MethodError}
    {events : List Event} {after : ChangeState} → DoesChange checks m d mail before result events after → ℕ
set_appends (answering.Refused e is result_is none same) = 0
set_appends (answering.Untold a e is mail_is result_is none same) = 0
set_appends (answering.Asked a h is mail_is changes) = asked_appends changes

abbrev pub lacks_set_appends : {checks : ItemChecks} {m : SetMethod} {d : Data} {mail : Mailing} {before : ChangeState} {events : List Event}
    {after : Progress} → LacksAnswer checks m d mail before events after → ℕ
lacks_set_appends (answering.Unread none same) = 0
lacks_set_appends (answering.LacksIn a h is mail_is lacks) = lacks_asked_appends lacks

-- one that reads has no items
abbrev pub call_appends : {uses : Using} {uploads : List (List ℕ)} {earlier : List CallData} {call : CallData} {before : CallsState} {asks : List Asked}
    {result : Result Data MethodError} {events : List Event} {after : CallsState} → DoesCall uses uploads earlier call before asks result events after → ℕ
call_appends (Reads bodies answers asked asks_are created) = 0
call_appends (Changes m d h named is told does asks_are) = set_appends does

-- ---- for the calls of a request

abbrev pub calls_append : {uses : Using} {uploads : List (List ℕ)} {before : CallsState} {calls : List CallData} {asks : List Asked}
    {responses : List CallData} {events : List Event} {after : CallsState} → DoesCalls uses uploads before calls asks responses events after → ℕ
calls_append NoCalls = 0
calls_append (MoreCalls next rest) = calls_append rest + call_appends next.does

abbrev pub next_appends : {uses : Using} {uploads : List (List ℕ)} {earlier later : List CallData} {before : CallsState} {events : List Event}
    {after : Progress} → LacksNext uses uploads earlier before events after later → ℕ
next_appends (AfterLast none same) = 0
next_appends (InCall (ReadsInVain tried asked due)) = 0
next_appends (InCall (ChangesInVain m d h named is told lacks)) = lacks_set_appends lacks

-- whatever else is asked has no calls
abbrev pub request_appends : {account : Account} {uploads : List (List ℕ)} (asking : Asking) {before : Progress} {events : List Event} {after : Progress}
    {came : Option Answer} → Does account uploads asking before events after came → ℕ
request_appends (Calls request) (Comes asks answer does) = calls_append does.does
request_appends (Calls request) (RunsOut lacks) = calls_append lacks.does + next_appends lacks.lacks
request_appends asking does = 0

-- all that were completed in the link life of the request are those
abbrev pub LifeAppendsForItems : {account : Account} {uploads : List (List ℕ)} {before : MachineState} {asking : Asking} {events : List Event}
    {came : Option Answer} {after : Progress} → WorksOverMail account uploads before asking events came after → Type 0
LifeAppendsForItems {asking = asking} work =
    (life : LinkLife) → work.answered.left ≡ Some life → appends_in life.exchanges ≡ request_appends asking work.does
