-- The APPENDs of the calls of a request, one after another, and what is said to be created by them (RFC 8620 sections 3.3 and 5.3).
use Rattle.std.specs.Prelude.{ℕ, Bool, List, Result}
use Rattle.gate_world.specs.declared.event.Event.{Event}
use Rattle.serde_json.specs.Data.{Data}
use Rattle.jmap_arguments.specs.declared.method_error.MethodError.{MethodError}
use Rattle.jmap_arguments.specs.declared.using.Using.{Using}
use Rattle.mail_state.specs.History.{MailHistory}
use Rattle.result_references.specs.Call.{CallData}
use Rattle.set_arguments.specs.Arguments.{SetAsked}
use Rattle.set_arguments.specs.declared.set_method.SetMethod.{SetMethod}
use Rattle.set_jobs.specs.declared.done.Done.{Done}
use Rattle.set_order.specs.Ordered.{Item}
use Rattle.email_bodies.specs.Asking.{BodyAsk}
use Rattle.set_items.specs.declared.item.ItemEnd.{ItemEnd}
use Rattle.set_calls.specs.Calls.{SetCall}
use Rattle.gate_machine.specs.Progress.{Progress}
use Rattle.gate_changes.specs.Answering as answering
use Rattle.gate_changes.specs.Answering.{ChangeState, ChangesAsked, DoesChange, LacksAsked, LacksAnswer}
use Rattle.gate_changes.specs.Changing as changing
use Rattle.gate_changes.specs.Changing.{ChangesMail, DoesCourse, LacksChange}
use Rattle.gate_changes.specs.Importing.{DoesImports, NoImports, OutBefore, ImportDone, ImportEnds, TakesImport, BodyLost, Taken, NoRoom}
use Rattle.gate_changes.specs.Items.{ItemsCame}
use Rattle.gate_calls.specs.Calling.{Asked, CallsState, DoesCall, Reads, Changes, DoesCalls, NoCalls, MoreCalls, ReadsInVain, ChangesInVain, LacksNext, AfterLast, InCall}
use Rattle.gate_calls.specs.ItemChecks.{item_checks}
use Rattle.gate_calls.specs.Mailings.{Mailing}
use Rattle.append_laws.specs.Created.{CreatedWereMade}
use Rattle.append_laws.specs.Items.{ItemsAppendOnce}

-- ---- imports

-- before its steps are done an import has no APPEND
abbrev pub ImportAppendsOnce : {call : SetCall} {uploads : List (List ℕ)} {item : Item} {before : Progress} {asks : List BodyAsk} {ends : ItemEnd} {events : List Event}
    {after : Progress} → TakesImport call uploads item before asks ends events after → Type 0
ImportAppendsOnce (BodyLost prepares) = Unit {0}
ImportAppendsOnce (Taken made ends prepares does) = ItemsAppendOnce does.runs
ImportAppendsOnce (NoRoom lacks) = Unit {0}

abbrev pub ImportsAppendOnce : {call : SetCall} {uploads : List (List ℕ)} {made : Bool} {before : Progress} {items : List Item} {came : ItemsCame} {events : List Event}
    {after : Progress} → DoesImports call uploads made before items came events after → Type 0
ImportsAppendOnce (NoImports here) = Unit {0}
ImportsAppendOnce (OutBefore here) = Unit {0}
ImportsAppendOnce (ImportDone item done takes rest) = ImportAppendsOnce takes × ImportsAppendOnce rest
ImportsAppendOnce (ImportEnds item ends not takes) = ImportAppendsOnce takes

-- in a row, or one by one
abbrev pub CourseAppendsOnce : {call : SetCall} {items : List Item} {before : Progress} {came : ItemsCame} {events : List Event} {after : Progress}
    → DoesCourse call items before came events after → Type 0
CourseAppendsOnce (changing.InRow row does) = ItemsAppendOnce does.runs
CourseAppendsOnce (changing.OneByOne uploads rules imports) = ImportsAppendOnce imports

-- ---- one call

-- whatever it comes to
abbrev pub ChangeAppendsOnce : {call : SetCall} {items : List Item} {before : Progress} {result : Result (List (Item × Done)) MethodError} {events : List Event}
    {after : Progress} → ChangesMail call items before result events after → Type 0
ChangeAppendsOnce (changing.Committed came mid does goes settles stands is) = CourseAppendsOnce does
ChangeAppendsOnce (changing.SpentBy came mid spent doing ending does goes settles is hangs whole after_is result_is) = CourseAppendsOnce does
ChangeAppendsOnce (changing.FailedInPart mid doing ending does hangs whole after_is is) = CourseAppendsOnce does

-- memory runs out meanwhile
abbrev pub LacksChangeOnce : {call : SetCall} {items : List Item} {before : Progress} {events : List Event} {after : Progress}
    → LacksChange call items before events after → Type 0
LacksChangeOnce (changing.InItems mid does is) = CourseAppendsOnce does
LacksChangeOnce (changing.InCommit came mid does goes settles stands) = CourseAppendsOnce does

-- and what is said to be created was made by its items
abbrev pub AskedAppendsOnce : {uploads : List (List ℕ)} {m : SetMethod} {a : SetAsked} {h : MailHistory} {before : ChangeState} {result : Result Data MethodError}
    {events : List Event} {after : ChangeState} → ChangesAsked (item_checks uploads) m a h before result events after → Type 0
AskedAppendsOnce (answering.Mismatch is result_is none same) = Unit {0}
AskedAppendsOnce (answering.Changes items came is items_are changes answers) = ChangeAppendsOnce changes × CreatedWereMade answers

abbrev pub LacksAskedOnce : {uploads : List (List ℕ)} {m : SetMethod} {a : SetAsked} {h : MailHistory} {before : ChangeState} {events : List Event}
    {after : Progress} → LacksAsked (item_checks uploads) m a h before events after → Type 0
LacksAskedOnce (answering.BeforeItems none same) = Unit {0}
LacksAskedOnce (answering.Meanwhile items is items_are lacks) = LacksChangeOnce lacks
LacksAskedOnce (answering.Unanswered items came is items_are changes) = ChangeAppendsOnce changes

abbrev pub SetAppendsOnce : {uploads : List (List ℕ)} {m : SetMethod} {d : Data} {mail : Mailing} {before : ChangeState} {result : Result Data MethodError}
    {events : List Event} {after : ChangeState} → DoesChange (item_checks uploads) m d mail before result events after → Type 0
SetAppendsOnce (answering.Refused e is result_is none same) = Unit {0}
SetAppendsOnce (answering.Untold a e is mail_is result_is none same) = Unit {0}
SetAppendsOnce (answering.Asked a h is mail_is changes) = AskedAppendsOnce changes

abbrev pub LacksSetOnce : {uploads : List (List ℕ)} {m : SetMethod} {d : Data} {mail : Mailing} {before : ChangeState} {events : List Event} {after : Progress}
    → LacksAnswer (item_checks uploads) m d mail before events after → Type 0
LacksSetOnce (answering.Unread none same) = Unit {0}
LacksSetOnce (answering.LacksIn a h is mail_is lacks) = LacksAskedOnce lacks

-- one that reads does no item
abbrev pub CallAppendsOnce : {uses : Using} {uploads : List (List ℕ)} {earlier : List CallData} {call : CallData} {before : CallsState} {asks : List Asked}
    {result : Result Data MethodError} {events : List Event} {after : CallsState} → DoesCall uses uploads earlier call before asks result events after
    → Type 0
CallAppendsOnce (Reads bodies answers asked asks_are created) = Unit {0}
CallAppendsOnce (Changes m d h named is told does asks_are) = SetAppendsOnce does

-- ---- calls

abbrev pub CallsAppendOnce : {uses : Using} {uploads : List (List ℕ)} {before : CallsState} {calls : List CallData} {asks : List Asked}
    {responses : List CallData} {events : List Event} {after : CallsState} → DoesCalls uses uploads before calls asks responses events after → Type 0
CallsAppendOnce NoCalls = Unit {0}
CallsAppendOnce (MoreCalls next rest) = CallsAppendOnce rest × CallAppendsOnce next.does

-- the call in which memory runs out
abbrev pub LacksNextOnce : {uses : Using} {uploads : List (List ℕ)} {earlier later : List CallData} {before : CallsState} {events : List Event}
    {after : Progress} → LacksNext uses uploads earlier before events after later → Type 0
LacksNextOnce (AfterLast none same) = Unit {0}
LacksNextOnce (InCall (ReadsInVain tried asked due)) = Unit {0}
LacksNextOnce (InCall (ChangesInVain m d h named is told lacks)) = LacksSetOnce lacks
