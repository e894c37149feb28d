-- Where in the calls of a request its link life ended, while the mail is served.
use Rattle.std.specs.Prelude.{◌≢◌, ◌⊎◌, ℕ, Bool, List, Option, Result}
use Rattle.gate_world.specs.declared.event.Event.{Event}
use Rattle.serde_json.specs.Data.{Data}
use Rattle.email_bodies.specs.Asking.{BodyAsk}
use Rattle.email_bodies.specs.declared.source.MessagePlace.{MessagePlace}
use Rattle.jmap_arguments.specs.declared.method_error.MethodError.{MethodError}
use Rattle.jmap_arguments.specs.declared.method_error.MethodError.TheVariants.{ServerUnavailable}
use Rattle.jmap_arguments.specs.declared.using.Using.{Using}
use Rattle.mail_state.specs.History.{MailHistory}
use Rattle.result_references.specs.Call.{CallData}
use Rattle.set_arguments.specs.Arguments.{SetAsked}
use Rattle.set_arguments.specs.declared.set_method.SetMethod.{SetMethod}
use Rattle.set_jobs.specs.declared.done.Done.{Done}
use Rattle.set_jobs.specs.declared.done.SetError.{SetError}
use Rattle.set_jobs.specs.declared.job.Job.{Job}
use Rattle.set_items.specs.declared.item.ItemEnd.{ItemEnd}
use Rattle.set_order.specs.Ordered.{Item}
use Rattle.set_items.specs.Causes.{WasUnavailable}
use Rattle.set_calls.specs.Calls.{SetCall}
use Rattle.gate_machine.specs.Fetching.{AsksBody, IsKept, IsTold, Ends, HasEnded, AsksBodies, NoBodies, MoreBodies}
use Rattle.gate_machine.specs.Progress.{Progress}
use Rattle.gate_changes.specs.Answering as answering
use Rattle.gate_changes.specs.Answering.{ChangeState, ChangesAsked, DoesChange}
use Rattle.gate_changes.specs.Changing as changing
use Rattle.gate_changes.specs.Changing.{ChangesMail, DoesCourse}
use Rattle.gate_changes.specs.Importing.{PreparesImport, RefusedAtOnce, Sought, TakesImport, BodyLost, Taken, NoRoom, DoesImports, NoImports, OutBefore, ImportDone, ImportEnds}
use Rattle.gate_changes.specs.Items.{DoesItemsOver, ItemsCame}
use Rattle.gate_calls.specs.Calling.{Asked, CallsState, DoesCall, Reads, Changes, DoesCalls, NoCalls, MoreCalls}
use Rattle.gate_calls.specs.ItemChecks.{item_checks}
use Rattle.gate_calls.specs.Mailings.{Mailing}
use Rattle.call_laws.specs.Ended.{IsEndedIn}

-- the fetch of a body ended with an error, want of memory aside
abbrev pub FetchFails : {message : MessagePlace} {before : Progress} {body : Option (List ℕ)} {events : List Event} {after : Progress}
    → AsksBody message before body events after → Type 0
FetchFails (IsKept octets kept body_is none is) = ⊥
FetchFails (IsTold octets asks body_is is) = ⊥
FetchFails (Ends e asks other body_is is) = Unit {0}
FetchFails (HasEnded kept ended body_is none is) = ⊥

abbrev pub SomeFetchFails : {before : Progress} {asks : List BodyAsk} {events : List Event} {after : Progress} → AsksBodies before asks events after → Type 0
SomeFetchFails NoBodies = ⊥
SomeFetchFails (MoreBodies next bodies) = SomeFetchFails bodies ⊎ FetchFails next.asks

-- Items in a row ended the life: a fault of the link is blamed there, or the store wasn't there for one of them.
abbrev pub RowEndsLife : {call : SetCall} {items : List Item} {before : Progress} {came : ItemsCame} {events : List Event} {after : Progress}
    → DoesItemsOver call items before came events after → Type 0
RowEndsLife {call = call} {items = items} {before = before} does = (does.now.lost ≢ 0) ⊎ IsEndedIn WasUnavailable ServerUnavailable call items before

-- an import did: the fetch of its body failed, or its own steps ended the life
abbrev pub PreparingEndsLife : {call : SetCall} {uploads : List (List ℕ)} {item : Item} {before : Progress} {asks : List BodyAsk} {made : Option (Result Job SetError)}
    {events : List Event} {after : Progress} → PreparesImport call uploads item before asks made events after → Type 0
PreparingEndsLife (RefusedAtOnce here e is) = ⊥
PreparingEndsLife (Sought here i found is finds asked makes) = SomeFetchFails asked

abbrev pub ImportEndsLife : {call : SetCall} {uploads : List (List ℕ)} {item : Item} {before : Progress} {asks : List BodyAsk} {ends : ItemEnd} {events : List Event}
    {after : Progress} → TakesImport call uploads item before asks ends events after → Type 0
ImportEndsLife (BodyLost prepares) = PreparingEndsLife prepares
ImportEndsLife (Taken made ends prepares does) = PreparingEndsLife prepares ⊎ RowEndsLife does
ImportEndsLife (NoRoom lacks) = ⊥

abbrev pub ImportsEndLife : {call : SetCall} {uploads : List (List ℕ)} {made : Bool} {before : Progress} {items : List Item} {came : ItemsCame} {events : List Event}
    {after : Progress} → DoesImports call uploads made before items came events after → Type 0
ImportsEndLife (NoImports here) = ⊥
ImportsEndLife (OutBefore here) = ⊥
ImportsEndLife (ImportDone item done takes rest) = ImportEndsLife takes ⊎ ImportsEndLife rest
ImportsEndLife (ImportEnds item ends not takes) = ImportEndsLife takes

abbrev pub CourseEndsLife : {call : SetCall} {items : List Item} {before : Progress} {came : ItemsCame} {events : List Event} {after : Progress}
    → DoesCourse call items before came events after → Type 0
CourseEndsLife (changing.InRow row does) = RowEndsLife does
CourseEndsLife (changing.OneByOne uploads rules imports) = ImportsEndLife imports

-- The items of a call that changes mail, and is served, ended the life.
abbrev pub ItemsEndLife : {call : SetCall} {items : List Item} {before : Progress} {result : Result (List (Item × Done)) MethodError} {events : List Event}
    {after : Progress} → ChangesMail call items before result events after → Type 0
ItemsEndLife (changing.Committed came mid does goes settles stands is) = CourseEndsLife does
ItemsEndLife (changing.SpentBy came mid spent doing ending does goes settles is hangs whole after_is result_is) = ⊥
ItemsEndLife (changing.FailedInPart mid doing ending does hangs whole after_is is) = ⊥

abbrev pub AskedEndsLife : {uploads : List (List ℕ)} {m : SetMethod} {a : SetAsked} {h : MailHistory} {before : ChangeState} {result : Result Data MethodError} {events : List Event}
    {after : ChangeState} → ChangesAsked (item_checks uploads) m a h before result events after → Type 0
AskedEndsLife (answering.Mismatch is result_is none same) = ⊥
AskedEndsLife (answering.Changes items came is items_are changes answers) = ItemsEndLife changes

abbrev pub SetEndsLife : {uploads : List (List ℕ)} {m : SetMethod} {d : Data} {mail : Mailing} {before : ChangeState} {result : Result Data MethodError} {events : List Event}
    {after : ChangeState} → DoesChange (item_checks uploads) m d mail before result events after → Type 0
SetEndsLife (answering.Refused e is result_is none same) = ⊥
SetEndsLife (answering.Untold a e is mail_is result_is none same) = ⊥
SetEndsLife (answering.Asked a h is mail_is changes) = AskedEndsLife changes

abbrev pub CallEndsLife : {uses : Using} {uploads : List (List ℕ)} {earlier : List CallData} {call : CallData} {before : CallsState} {asks : List Asked}
    {result : Result Data MethodError} {events : List Event} {after : CallsState} → DoesCall uses uploads earlier call before asks result events after
    → Type 0
CallEndsLife (Reads bodies answers asked a b) = SomeFetchFails asked
CallEndsLife (Changes m d h named is told does asks_are) = SetEndsLife does

abbrev pub SomeCallEndsLife : {uses : Using} {uploads : List (List ℕ)} {before : CallsState} {calls : List CallData} {asks : List Asked}
    {responses : List CallData} {events : List Event} {after : CallsState} → DoesCalls uses uploads before calls asks responses events after → Type 0
SomeCallEndsLife NoCalls = ⊥
SomeCallEndsLife (MoreCalls next rest) = SomeCallEndsLife rest ⊎ CallEndsLife next.does
