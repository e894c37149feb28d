-- The calls of a request one after another, in the work on the request: each is answered over the mail that is served at its moment and with the ids
-- that were created before it, and leaves both to the next one (RFC 8620 sections 3.2 to 3.7 and 5.3).
use Rattle.std.specs.Prelude.{◌≡◌, ◌++◌, ℕ, Bool, List, [], ◌∷◌, map, All, IsSome, Option, Some, None, option_map, Result, Ok}
use Rattle.gate_world.specs.declared.event.Event.{Event}
use Rattle.serde_json.specs.Data.{Data}
use Rattle.told_folder.specs.declared.exchange.Exchange.{Exchange}
use Rattle.email_bodies.specs.Asking.{BodyAsk, AreDue}
use Rattle.imap_client.specs.LinkLife.{LinkLife, selected}
use Rattle.jmap_arguments.specs.declared.method_error.MethodError.{MethodError}
use Rattle.jmap_arguments.specs.declared.method_error.MethodError.TheVariants.{ServerUnavailable}
use Rattle.jmap_arguments.specs.declared.using.Using.{Using}
use Rattle.mail_state.specs.History.{MailHistory}
use Rattle.result_references.specs.Call.{CallData}
use Rattle.result_references.specs.References.{resolved_arguments}
use Rattle.set_arguments.specs.Arguments.{SetAsked}
use Rattle.set_arguments.specs.declared.set_method.SetMethod.{SetMethod}
use Rattle.set_jobs.specs.declared.done.Done.{Done}
use Rattle.set_jobs.specs.declared.done.SetError.{SetError}
use Rattle.set_jobs.specs.declared.job.Job.{Job}
use Rattle.set_order.specs.Ordered.{Item}
use Rattle.set_items.specs.declared.item.ItemEnd.{ItemEnd}
use Rattle.set_items.specs.declared.item.ItemEnd.TheVariants.{Comes, Ends}
use Rattle.set_items.specs.Causes.{FailedPartly}
use Rattle.set_items.specs.Items.{item_plan, item_start}
use Rattle.set_items.specs.Talks.{ending_of}
use Rattle.set_calls.specs.Calls.{SetCall, CallState, NextItem, TakesItem, Refused, Stepped, StopsAt, DoesItems, NoItems, MoreItems}
use Rattle.set_calls.specs.Calls.{RunsItems, AllDone, Stopped, Wanting}
use Rattle.gate_machine.specs.Fetching.{AsksBodies, CallsAsk}
use Rattle.gate_machine.specs.History.{KnownMail}
use Rattle.gate_machine.specs.Obeying.{AreAsksObeyed, HasCome, ObeysIn}
use Rattle.gate_machine.specs.Progress.{Progress}
use Rattle.gate_changes.specs.Answering as answering
use Rattle.gate_changes.specs.Answering.{ChangeState, ChangesAsked, DoesChange, LacksAnswer}
use Rattle.gate_changes.specs.Changing as changing
use Rattle.gate_changes.specs.Changing.{ChangesMail, DoesCourse}
use Rattle.gate_changes.specs.Importing.{PreparesImport, RefusedAtOnce, Sought, TakesImport, BodyLost, Taken, NoRoom, DoesImports, NoImports, OutBefore, ImportDone, ImportEnds}
use Rattle.gate_changes.specs.Items.{ItemsCame}
use Rattle.gate_calls.specs.Calls.{AnswersCall, answered_call}
use Rattle.gate_calls.specs.ItemChecks.{item_checks}
use Rattle.gate_calls.specs.Mailings.{Mailing, MailAndUploads, mail_at}
use Rattle.gate_calls.specs.MethodNames.{method_asked}
use Rattle.gate_calls.specs.declared.method.Method.TheVariants.{Set}

-- how far the work is, and the ids of what was created by then, by creation id: those that the request gives, and those of its own creations since
abbrev pub CallsState : Type 0
CallsState = ChangeState

-- the mail that is served then, beside the uploads
abbrev pub over_at : List (List ℕ) → CallsState → MailAndUploads
over_at uploads s = record { mail = mail_at s.progress; uploads = uploads }

-- What a call comes by on its way: a body, an item of a call that changes mail, the commit after its items.
pub data Asked : Type 0 where
  -- the body of an Email
  Body : BodyAsk → Asked
  -- an item of a call that changes mail: what was exchanged for it, what it came to, and the folder that is selected then
  Tried : Item → List Exchange → ItemEnd → Option (List ℕ) → Asked
  -- the commit after the items, and the history that is served then; none where a place would pass the last one
  Committed : Option MailHistory → Asked

-- ---- what a call that changes mail asks: each of its items, also one that is refused, then the commit where it comes to one

abbrev pub exchanges_for : {c : SetCall} {item : Item} {before : CallState} {done : Done} {events : List Event} {after : CallState}
    → TakesItem c item before done events after → List Exchange
exchanges_for (Refused drawn e is done_is events_are same) = []
exchanges_for (Stepped drawn job doing is steps events_are) = steps.does.runs.exchanges

abbrev pub done_ask : {c : SetCall} {mid : CallState} → NextItem c mid → Asked
done_ask next = Tried next.item (exchanges_for next.takes) (Comes next.done) (selected next.after.life)

abbrev pub asks_of_done : {c : SetCall} {before : CallState} {done : List (Item × Done)} {events : List Event} {after : CallState}
    → DoesItems c before done events after → List Asked
asks_of_done NoItems = []
asks_of_done (MoreItems next rest) = asks_of_done rest ++ done_ask next ∷ []

-- the item that ends the call
abbrev pub last_ask : {c : SetCall} {item : Item} {before : CallState} {ends : ItemEnd} {events : List Event} {after : CallState}
    → StopsAt c item before ends events after → Asked
last_ask {item = item} {ends = ends} {after = after} stops = Tried item stops.steps.does.runs.exchanges ends (selected after.life)

abbrev pub asks_of_items : {c : SetCall} {items : List Item} {before : CallState} {result : ItemsCame} {events : List Event} {after : CallState}
    → RunsItems c items before result events after → List Asked
asks_of_items (AllDone done does all is) = asks_of_done does
asks_of_items (Stopped done item later mid so_far last ends does stops all whole is) = asks_of_done does ++ last_ask stops ∷ []
asks_of_items (Wanting done later so_far drawn does draws all whole is) = asks_of_done does

-- the folder that is selected in what is left of a life
abbrev pub selected_in : Option LinkLife → Option (List ℕ)
selected_in None = None
selected_in (Some life) = selected life

-- an import asks the body of its blob, and is tried then
abbrev pub asks_of_import : {call : SetCall} {uploads : List (List ℕ)} {item : Item} {before : Progress} {asks : List BodyAsk} {ends : ItemEnd} {events : List Event}
    {after : Progress} → TakesImport call uploads item before asks ends events after → List Asked
asks_of_import {item = item} {asks = asks} {after = after} (BodyLost prepares) = map Body asks ++ Tried item [] (Ends ServerUnavailable) (selected_in after.left) ∷ []
asks_of_import {asks = asks} (Taken made ends prepares does) = map Body asks ++ asks_of_items does.runs
asks_of_import (NoRoom lacks) = []

abbrev pub asks_of_imports : {call : SetCall} {uploads : List (List ℕ)} {made : Bool} {before : Progress} {items : List Item} {came : ItemsCame} {events : List Event}
    {after : Progress} → DoesImports call uploads made before items came events after → List Asked
asks_of_imports (NoImports here) = []
asks_of_imports (OutBefore here) = []
asks_of_imports (ImportDone item done takes rest) = asks_of_import takes ++ asks_of_imports rest
asks_of_imports (ImportEnds item ends not takes) = asks_of_import takes

abbrev pub asks_of_course : {call : SetCall} {items : List Item} {before : Progress} {came : ItemsCame} {events : List Event} {after : Progress}
    → DoesCourse call items before came events after → List Asked
asks_of_course (changing.InRow row does) = asks_of_items does.runs
asks_of_course (changing.OneByOne uploads rules imports) = asks_of_imports imports

abbrev pub history_known : Option KnownMail → Option MailHistory
history_known known = option_map (λ (k : KnownMail). k.history) known

abbrev pub asks_of_change : {call : SetCall} {items : List Item} {before : Progress} {result : Result (List (Item × Done)) MethodError} {events : List Event}
    {after : Progress} → ChangesMail call items before result events after → List Asked
asks_of_change {after = after} (changing.Committed came mid does goes settles stands is) =
    asks_of_course does ++ Committed (history_known after.machine.known) ∷ []
asks_of_change (changing.SpentBy came mid spent doing ending does goes settles is hangs whole after_is result_is) = asks_of_course does ++ Committed None ∷ []
asks_of_change (changing.FailedInPart mid doing ending does hangs whole after_is is) = asks_of_course does

abbrev pub asks_over : {uploads : List (List ℕ)} {m : SetMethod} {a : SetAsked} {h : MailHistory} {before : ChangeState} {result : Result Data MethodError} {events : List Event}
    {after : ChangeState} → ChangesAsked (item_checks uploads) m a h before result events after → List Asked
asks_over (answering.Mismatch is result_is none same) = []
asks_over (answering.Changes items came is items_are changes answers) = asks_of_change changes

abbrev pub asks_of : {uploads : List (List ℕ)} {m : SetMethod} {d : Data} {mail : Mailing} {before : ChangeState} {result : Result Data MethodError} {events : List Event}
    {after : ChangeState} → DoesChange (item_checks uploads) m d mail before result events after → List Asked
asks_of (answering.Refused e is result_is none same) = []
asks_of (answering.Untold a e is mail_is result_is none same) = []
asks_of (answering.Asked a h is mail_is changes) = asks_over changes

-- ---- one call

-- What a call does, after the responses to those before it. One that reads, whose name or references are refused, or that comes where the mail can't be
-- told, is answered over the mail of its moment, and leaves that and the ids as they are; it asks for bodies at most.
pub data DoesCall (uses : Using) (uploads : List (List ℕ)) (earlier : List CallData) (call : CallData) (before : CallsState) (asks : List Asked)
    (result : Result Data MethodError) (events : List Event) (after : CallsState) : Type 0 where
  Reads : (bodies : List BodyAsk) → AnswersCall uses (over_at uploads before) earlier call bodies result
      → AsksBodies before.progress bodies events after.progress → asks ≡ map Body bodies → after.created ≡ before.created
      → DoesCall uses uploads earlier call before asks result events after
  -- one that changes mail, where it is told: its items are done over the mail of its moment, and what they change is served, once for all of them
  Changes : (m : SetMethod) (d : Data) (h : MailHistory) → method_asked uses call.name ≡ Ok (Set m) → resolved_arguments earlier call.arguments ≡ Ok d
      → mail_at before.progress ≡ Ok h → (does : DoesChange (item_checks uploads) m d (Ok h) before result events after) → asks ≡ asks_of does
      → DoesCall uses uploads earlier call before asks result events after

-- had the bodies that a call asks been these, it would have asked for no more
abbrev pub AreAllAsked : Using → MailAndUploads → List CallData → CallData → List BodyAsk → Type 0
AreAllAsked uses over earlier call bodies = (result : Result Data MethodError) × AnswersCall uses over earlier call bodies result

-- Memory runs out in a call. One that reads has asked for bodies that were due.
pub data LacksCall (uses : Using) (uploads : List (List ℕ)) (earlier : List CallData) (call : CallData) (before : CallsState) (events : List Event)
    (after : Progress) : Type 0 where
  ReadsInVain : (tried : List BodyAsk) → CallsAsk before.progress tried events after → AreDue (AreAllAsked uses (over_at uploads before) earlier call) tried
      → LacksCall uses uploads earlier call before events after
  ChangesInVain : (m : SetMethod) (d : Data) (h : MailHistory) → method_asked uses call.name ≡ Ok (Set m) → resolved_arguments earlier call.arguments ≡ Ok d
      → mail_at before.progress ≡ Ok h → LacksAnswer (item_checks uploads) m d (Ok h) before events after → LacksCall uses uploads earlier call before events after

-- ---- calls

-- one call more, after these responses
pub record NextCall (uses : Using) (uploads : List (List ℕ)) (earlier : List CallData) (mid : CallsState) : Type 0 where
  pub call : CallData
  pub asks : List Asked
  pub result : Result Data MethodError
  pub events : List Event
  pub after : CallsState
  pub does : DoesCall uses uploads earlier call mid asks result events after

-- What the calls of a request do in order: what they ask, their responses, what they add, and what they leave.
pub data DoesCalls (uses : Using) (uploads : List (List ℕ)) (before : CallsState) : List CallData → List Asked → List CallData → List Event → CallsState
    → Type 0 where
  NoCalls : DoesCalls uses uploads before [] [] [] [] before
  MoreCalls : {calls responses : List CallData} {asks : List Asked} {events : List Event} {mid : CallsState} (next : NextCall uses uploads responses mid)
      → DoesCalls uses uploads before calls asks responses events mid
      → DoesCalls uses uploads before (calls ++ next.call ∷ []) (asks ++ next.asks) (responses ++ answered_call next.call next.result ∷ [])
      (events ++ next.events) next.after

-- Memory runs out in the first of the calls that are left, or after the last one.
pub data LacksNext (uses : Using) (uploads : List (List ℕ)) (earlier : List CallData) (before : CallsState) (events : List Event) (after : Progress)
    : List CallData → Type 0 where
  AfterLast : events ≡ [] → after ≡ before.progress → LacksNext uses uploads earlier before events after []
  InCall : {call : CallData} {later : List CallData} → LacksCall uses uploads earlier call before events after
      → LacksNext uses uploads earlier before events after (call ∷ later)

-- Memory runs out as the calls of a request are answered: the first ones have been, and it does in the next one, or after the last.
pub record LacksCalls (uses : Using) (uploads : List (List ℕ)) (before : CallsState) (calls : List CallData) (events : List Event) (after : Progress)
    : Type 0 where
  pub firsts : List CallData
  pub later : List CallData
  pub asks : List Asked
  pub responses : List CallData
  pub answering : List Event
  pub lacking : List Event
  pub mid : CallsState
  pub calls_are : calls ≡ firsts ++ later
  pub does : DoesCalls uses uploads before firsts asks responses answering mid
  pub lacks : LacksNext uses uploads responses mid lacking after later
  pub whole : events ≡ answering ++ lacking

-- ---- a store that obeys

-- The store obeyed the steps of an item, where it has any. A NO or BAD to an item's first changing command, or to EXPUNGE, is obeying: the item is refused,
-- or goes on.
abbrev pub IsItemObeyed : {c : SetCall} {item : Item} {before : CallState} {done : Done} {events : List Event} {after : CallState}
    → TakesItem c item before done events after → Type 0
IsItemObeyed (Refused drawn e is done_is events_are same) = Unit {0}
IsItemObeyed {before = before} (Stepped drawn job doing is steps events_are) = ObeysIn (item_plan (item_start job before.mail)) before.life doing

abbrev pub AreItemsObeyed : {c : SetCall} {before : CallState} {done : List (Item × Done)} {events : List Event} {after : CallState}
    → DoesItems c before done events after → Type 0
AreItemsObeyed NoItems = Unit {0}
AreItemsObeyed (MoreItems next rest) = AreItemsObeyed rest × IsItemObeyed next.takes

-- So it did those of an item that ended the call, and the item didn't fail in part: no changing command was refused after an earlier one, each OK told where
-- a message went, and LIST told the folder that was made.
pub record IsLastObeyed {c : SetCall} {item : Item} {before : CallState} {ends : ItemEnd} {events : List Event} {after : CallState}
    (stops : StopsAt c item before ends events after) : Type 0 where
  pub steps : ObeysIn (item_plan (item_start stops.job before.mail)) before.life stops.doing
  pub whole : FailedPartly (ending_of before.exchanges stops.steps.does.runs) → ⊥

abbrev pub AreStepsObeyed : {c : SetCall} {items : List Item} {before : CallState} {result : ItemsCame} {events : List Event} {after : CallState}
    → RunsItems c items before result events after → Type 0
AreStepsObeyed (AllDone done does all is) = AreItemsObeyed does
AreStepsObeyed (Stopped done item later mid so_far last ends does stops all whole is) = AreItemsObeyed does × IsLastObeyed stops
AreStepsObeyed (Wanting done later so_far drawn does draws all whole is) = AreItemsObeyed does

-- So it did where a body was asked for an import, and the import's own steps.
abbrev pub IsPreparedObeyed : {call : SetCall} {uploads : List (List ℕ)} {item : Item} {before : Progress} {asks : List BodyAsk} {made : Option (Result Job SetError)}
    {events : List Event} {after : Progress} → PreparesImport call uploads item before asks made events after → Type 0
IsPreparedObeyed (RefusedAtOnce here e is) = Unit {0}
IsPreparedObeyed (Sought here i found is finds asked makes) = AreAsksObeyed asked

abbrev pub IsImportObeyed : {call : SetCall} {uploads : List (List ℕ)} {item : Item} {before : Progress} {asks : List BodyAsk} {ends : ItemEnd} {events : List Event}
    {after : Progress} → TakesImport call uploads item before asks ends events after → Type 0
IsImportObeyed (BodyLost prepares) = IsPreparedObeyed prepares
IsImportObeyed (Taken made ends prepares does) = IsPreparedObeyed prepares × AreStepsObeyed does.runs
IsImportObeyed (NoRoom lacks) = Unit {0}

abbrev pub AreImportsObeyed : {call : SetCall} {uploads : List (List ℕ)} {made : Bool} {before : Progress} {items : List Item} {came : ItemsCame} {events : List Event}
    {after : Progress} → DoesImports call uploads made before items came events after → Type 0
AreImportsObeyed (NoImports here) = Unit {0}
AreImportsObeyed (OutBefore here) = Unit {0}
AreImportsObeyed (ImportDone item done takes rest) = IsImportObeyed takes × AreImportsObeyed rest
AreImportsObeyed (ImportEnds item ends not takes) = IsImportObeyed takes

abbrev pub IsCourseObeyed : {call : SetCall} {items : List Item} {before : Progress} {came : ItemsCame} {events : List Event} {after : Progress}
    → DoesCourse call items before came events after → Type 0
IsCourseObeyed (changing.InRow row does) = AreStepsObeyed does.runs
IsCourseObeyed (changing.OneByOne uploads rules imports) = AreImportsObeyed imports

-- and a place was left for what was told
abbrev pub IsChangeObeyed : {call : SetCall} {items : List Item} {before : Progress} {result : Result (List (Item × Done)) MethodError} {events : List Event}
    {after : Progress} → ChangesMail call items before result events after → Type 0
IsChangeObeyed (changing.Committed came mid does goes settles stands is) = IsCourseObeyed does
IsChangeObeyed (changing.SpentBy came mid spent doing ending does goes settles is hangs whole after_is result_is) = ⊥
IsChangeObeyed (changing.FailedInPart mid doing ending does hangs whole after_is is) = IsCourseObeyed does

abbrev pub AreAskedObeyed : {uploads : List (List ℕ)} {m : SetMethod} {a : SetAsked} {h : MailHistory} {before : ChangeState} {result : Result Data MethodError} {events : List Event}
    {after : ChangeState} → ChangesAsked (item_checks uploads) m a h before result events after → Type 0
AreAskedObeyed (answering.Mismatch is result_is none same) = Unit {0}
AreAskedObeyed (answering.Changes items came is items_are changes answers) = IsChangeObeyed changes

abbrev pub IsSetObeyed : {uploads : List (List ℕ)} {m : SetMethod} {d : Data} {mail : Mailing} {before : ChangeState} {result : Result Data MethodError} {events : List Event}
    {after : ChangeState} → DoesChange (item_checks uploads) m d mail before result events after → Type 0
IsSetObeyed (answering.Refused e is result_is none same) = Unit {0}
IsSetObeyed (answering.Untold a e is mail_is result_is none same) = Unit {0}
IsSetObeyed (answering.Asked a h is mail_is changes) = AreAskedObeyed changes

-- The store obeyed what a call asks of it.
abbrev pub IsCallObeyed : {uses : Using} {uploads : List (List ℕ)} {earlier : List CallData} {call : CallData} {before : CallsState} {asks : List Asked}
    {result : Result Data MethodError} {events : List Event} {after : CallsState} → DoesCall uses uploads earlier call before asks result events after
    → Type 0
IsCallObeyed (Reads bodies answers asked a b) = AreAsksObeyed asked
IsCallObeyed (Changes m d h named is told does asks_are) = IsSetObeyed does

-- so it did for each of these
abbrev pub AreDoneObeyed : {uses : Using} {uploads : List (List ℕ)} {before : CallsState} {calls : List CallData} {asks : List Asked}
    {responses : List CallData} {events : List Event} {after : CallsState} → DoesCalls uses uploads before calls asks responses events after → Type 0
AreDoneObeyed NoCalls = Unit {0}
AreDoneObeyed (MoreCalls next rest) = AreDoneObeyed rest × IsCallObeyed next.does

-- what was asked came
abbrev pub IsAskedCome : Asked → Type 0
IsAskedCome (Body ask) = HasCome ask
IsAskedCome (Tried item exchanges ends selected) = (done : Done) × (ends ≡ Comes done)
IsAskedCome (Committed history) = IsSome history

abbrev pub AllAskedCome : List Asked → Type 0
AllAskedCome asks = All IsAskedCome asks
