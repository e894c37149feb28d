-- The bodies that fetches told for the calls of a request (RFC 8621 section 4.2).
use Rattle.std.specs.Prelude.{◌⊎◌, ℕ, List, Result}
use Rattle.gate_world.specs.declared.event.Event.{Event}
use Rattle.serde_json.specs.Data.{Data}
use Rattle.jmap_arguments.specs.declared.method_error.MethodError.{MethodError}
use Rattle.jmap_arguments.specs.declared.using.Using.{Using}
use Rattle.result_references.specs.Call.{CallData}
use Rattle.gate_machine.specs.KeptBodies.{CallsTell, TellBody}
use Rattle.gate_machine.specs.Progress.{Progress}
use Rattle.mail_state.specs.History.{MailHistory}
use Rattle.set_arguments.specs.Arguments.{SetAsked}
use Rattle.set_arguments.specs.declared.set_method.SetMethod.{SetMethod}
use Rattle.gate_changes.specs.Answering as answering
use Rattle.gate_changes.specs.Answering.{ChangeState, ChangesAsked, DoesChange, ItemChecks, LacksAnswer, LacksAsked}
use Rattle.gate_changes.specs.ToldBodies.{ChangeTells, LacksChangeTells}
use Rattle.gate_calls.specs.Mailings.{Mailing}
use Rattle.gate_calls.specs.Calling.{Asked, CallsState, DoesCall, Reads, Changes, DoesCalls, NoCalls, MoreCalls, ReadsInVain, ChangesInVain, LacksNext, AfterLast, InCall}

-- a fetch for a call that changes mail told these octets as the body of this Email
abbrev pub AskedTells : {checks : ItemChecks} {m : SetMethod} {a : SetAsked} {h : MailHistory} {before : ChangeState} {result : Result Data MethodError} {events : List Event}
    {after : ChangeState} → ChangesAsked checks m a h before result events after → ℕ × List ℕ → Type 0
AskedTells (answering.Mismatch is result_is none same) b = ⊥
AskedTells (answering.Changes items came is items_are changes answers) b = ChangeTells changes b

abbrev pub SetTells : {checks : ItemChecks} {m : SetMethod} {d : Data} {mail : Mailing} {before : ChangeState} {result : Result Data MethodError} {events : List Event}
    {after : ChangeState} → DoesChange checks m d mail before result events after → ℕ × List ℕ → Type 0
SetTells (answering.Refused e is result_is none same) b = ⊥
SetTells (answering.Untold a e is mail_is result_is none same) b = ⊥
SetTells (answering.Asked a h is mail_is changes) b = AskedTells changes b

-- or one in which memory ran out
abbrev pub LacksAskedTells : {checks : ItemChecks} {m : SetMethod} {a : SetAsked} {h : MailHistory} {before : ChangeState} {events : List Event} {after : Progress}
    → LacksAsked checks m a h before events after → ℕ × List ℕ → Type 0
LacksAskedTells (answering.BeforeItems none same) b = ⊥
LacksAskedTells (answering.Meanwhile items is items_are lacks) b = LacksChangeTells lacks b
LacksAskedTells (answering.Unanswered items came is items_are changes) b = ChangeTells changes b

abbrev pub LacksSetTells : {checks : ItemChecks} {m : SetMethod} {d : Data} {mail : Mailing} {before : ChangeState} {events : List Event} {after : Progress}
    → LacksAnswer checks m d mail before events after → ℕ × List ℕ → Type 0
LacksSetTells (answering.Unread none same) b = ⊥
LacksSetTells (answering.LacksIn a h is mail_is lacks) b = LacksAskedTells lacks b

-- a fetch for the call told these octets as the body of this Email
abbrev pub CallTells : {uses : Using} {uploads : List (List ℕ)} {earlier : List CallData} {call : CallData} {before : CallsState} {asks : List Asked}
    {result : Result Data MethodError} {events : List Event} {after : CallsState} → DoesCall uses uploads earlier call before asks result events after
    → ℕ × List ℕ → Type 0
CallTells (Reads bodies answers asked a c) b = TellBody asked b
CallTells (Changes m d h named is told does asks_are) b = SetTells does b

-- one for one of these did
abbrev pub DoneTell : {uses : Using} {uploads : List (List ℕ)} {before : CallsState} {calls : List CallData} {asks : List Asked}
    {responses : List CallData} {events : List Event} {after : CallsState} → DoesCalls uses uploads before calls asks responses events after → ℕ × List ℕ
    → Type 0
DoneTell NoCalls b = ⊥
DoneTell (MoreCalls next rest) b = DoneTell rest b ⊎ CallTells next.does b

-- or one for the call in which memory ran out
abbrev pub LacksTells : {uses : Using} {uploads : List (List ℕ)} {earlier later : List CallData} {before : CallsState} {events : List Event}
    {after : Progress} → LacksNext uses uploads earlier before events after later → ℕ × List ℕ → Type 0
LacksTells (AfterLast a c) b = ⊥
LacksTells (InCall (ReadsInVain tried asks due)) b = CallsTell asks b
LacksTells (InCall (ChangesInVain m d h named is told lacks)) b = LacksSetTells lacks b
