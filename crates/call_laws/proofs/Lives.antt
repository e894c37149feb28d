-- Where the link life of a request ended.
use Rattle.std.proofs.Common.{arith, ◌≡◌, ◌≢◌, ◌⊎◌, ◌∙◌, ◌+◌, ℕ, Bool, true, false, List, Option, Result, Ok, Err, inl, inr, refl, sym, ap}
use Rattle.gate_world.specs.declared.event.Event.{Event}
use Rattle.told_mail.specs.Mail.{Mail}
use Rattle.serde_json.specs.Data.{Data}
use Rattle.email_bodies.specs.Asking.{BodyAsk}
use Rattle.email_bodies.specs.declared.source.MessagePlace.{MessagePlace}
use Rattle.jmap_arguments.specs.declared.method_error.MethodError.{MethodError}
use Rattle.jmap_arguments.specs.declared.method_error.MethodError.TheVariants.{ServerUnavailable}
use Rattle.jmap_arguments.specs.declared.using.Using.{Using}
use Rattle.jmap_core.specs.CreatedIds.{Ids}
use Rattle.result_references.specs.Call.{CallData}
use Rattle.imap_exchange.specs.declared.link_end.LinkEnd.{LinkEnd}
use Rattle.imap_exchange.specs.declared.link_end.LinkEnd.TheVariants as end
use Rattle.imap_client.specs.Bodies.{FetchesBody}
use Rattle.imap_client.specs.LinkLife.{LinkLife, ClientState}
use Rattle.mail_state.specs.History.{MailHistory}
use Rattle.gate_machine.specs.Beginning.{Settles, Same, Moves, Spends, Lacks}
use Rattle.gate_machine.specs.Fetching.{AsksBody, IsKept, IsTold, HasEnded, AsksBodies, NoBodies, MoreBodies}
use Rattle.gate_machine.specs.Fetching as fetching
use Rattle.gate_machine.specs.Progress.{Progress, is_up}
use Rattle.set_arguments.specs.Arguments.{SetAsked}
use Rattle.set_arguments.specs.declared.set_method.SetMethod.{SetMethod}
use Rattle.set_jobs.specs.declared.done.Done.{Done}
use Rattle.set_jobs.specs.declared.done.SetError.{SetError}
use Rattle.set_jobs.specs.declared.job.Job.{Job}
use Rattle.set_order.specs.Ordered.{Item}
use Rattle.set_items.specs.Causes.{WasUnavailable}
use Rattle.set_items.specs.declared.item.ItemEnd.{ItemEnd}
use Rattle.set_items.specs.declared.item.ItemEnd.TheVariants.{Comes, Ends, OutOfMemory}
use Rattle.set_items.specs.Ends.{broken_end, item_end}
use Rattle.set_items.specs.declared.stage.ItemStage.{ItemStage}
use Rattle.set_items.specs.Items.{item_at, item_start}
use Rattle.set_items.specs.Talks.{ending_of, fault_in, faults_by, has_changed}
use Rattle.set_calls.specs.Calls.{SetCall, CallState, StepsItem, TakesItem, Refused, Stepped, DoesItems, NoItems, MoreItems, RunsItems, AllDone, Stopped, Wanting}
use Rattle.set_calls.specs.Calls.{call_begun}
use Rattle.gate_changes.specs.Answering as answering
use Rattle.gate_changes.specs.Answering.{ChangeState, DoesChange, call_of}
use Rattle.gate_changes.specs.Changing as changing
use Rattle.gate_changes.specs.Changing.{ChangesMail, DoesCourse, GoesToCommit}
use Rattle.gate_changes.specs.Importing.{PreparesImport, RefusedAtOnce, Sought, TakesImport, BodyLost, Taken, NoRoom, DoesImports, NoImports, OutBefore, ImportDone, ImportEnds}
use Rattle.gate_changes.specs.Importing.{before_these, ends_after, one_came}
use Rattle.set_calls.specs.Promises.{ChecksFit}
use Rattle.gate_changes.specs.Items.{DoesItemsOver, ItemsCame}
use Rattle.gate_calls.specs.Calling.{Asked, CallsState, DoesCall, Reads, Changes, DoesCalls, NoCalls, MoreCalls}
use Rattle.gate_calls.specs.ItemChecks.{item_checks}
use Rattle.gate_calls.specs.Mailings.{Mailing, mail_at}
use Rattle.gate_calls.proofs.Bodies.{bodies_keep_mail}
use Rattle.call_laws.specs.Ended.{IsEndedIn}
use Rattle.call_laws.specs.Lives.{CallEndsLife, CourseEndsLife, FetchFails, ImportEndsLife, ImportsEndLife, PreparingEndsLife, RowEndsLife, ItemsEndLife, SetEndsLife, SomeCallEndsLife, SomeFetchFails}
use Rattle.call_laws.proofs.Ends.{EndsSo, over_items}
use Rattle.call_laws.proofs.Fit.{ImportsFit, steps_fit}

-- ---- items

left_none : (m n : ℕ) → m + n ≡ 0 → m ≡ 0
left_none m n is = omega (arith, is)

right_none : (m n : ℕ) → m + n ≡ 0 → n ≡ 0
right_none m n is = omega (arith, is)

stands_up : (up : Bool) → faults_by (Ok tt) up ≡ 0 → up ≡ true
stands_up true is = refl
stands_up false is = absurd (omega (arith, is))

-- a plan that came to its end without a fault leaves the link up
still_up : (was up : Bool) (r : Result (Unit {0}) LinkEnd) → was ≡ true → r ≡ Ok tt → fault_in was up r ≡ 0 → up ≡ true
still_up true up (Ok u) on ok none = stands_up up none
still_up false up (Ok u) on ok none = absurd (let never : false ≡ true = on in cc)
still_up was up (Err e) on ok none = absurd (let never : Err e ≡ Ok tt = ok in cc)

-- an item that came to something had its plan come to its end
done_ok : (s : ItemStage) (r : Result (Unit {0}) LinkEnd) (changed : Bool) (done : Done) → Comes done ≡ item_end s r changed → r ≡ Ok tt
done_ok s (Ok u) changed done is = refl
done_ok s (Err end.Memory) changed done is = absurd (let never : Comes done ≡ OutOfMemory = is in cc)
done_ok s (Err e) changed done is = absurd (let never : Comes done ≡ broken_end e changed = is in cc)

module _ {item : Item} {job : Job} {before after : CallState} {ends : ItemEnd} {events : List Event} (steps : StepsItem item job before ends events after) where
  pub lost_before : after.lost ≡ 0 → before.lost ≡ 0
  lost_before free = left_none before.lost (fault_in before.life.goes_on after.life.goes_on steps.does.runs.result) (sym steps.lost_is ∙ free)

  pub lost_in : after.lost ≡ 0 → fault_in before.life.goes_on after.life.goes_on steps.does.runs.result ≡ 0
  lost_in free = right_none before.lost (fault_in before.life.goes_on after.life.goes_on steps.does.runs.result) (sym steps.lost_is ∙ free)

  step_up : (done : Done) → ends ≡ Comes done → before.life.goes_on ≡ true → after.lost ≡ 0 → after.life.goes_on ≡ true
  step_up done comes on free =
      let runs = steps.does.runs in
      let ok : runs.result ≡ Ok tt =
      done_ok (item_at (item_start job before.mail) runs.exchanges).stage runs.result (has_changed (ending_of before.exchanges runs)) done
      (sym comes ∙ steps.does.ends_is) in
      still_up before.life.goes_on after.life.goes_on runs.result on ok (lost_in free)

takes_lost : {c : SetCall} {item : Item} {before after : CallState} {done : Done} {events : List Event} → TakesItem c item before done events after → after.lost ≡ 0
    → before.lost ≡ 0
takes_lost (Refused drawn e is done_is events_are same) free = ap (λ (s : CallState). s.lost) (sym same) ∙ free
takes_lost (Stepped drawn job doing is steps events_are) free = lost_before steps free

takes_up : {c : SetCall} {item : Item} {before after : CallState} {done : Done} {events : List Event} → TakesItem c item before done events after
    → before.life.goes_on ≡ true → after.lost ≡ 0 → after.life.goes_on ≡ true
takes_up (Refused drawn e is done_is events_are same) on free = ap (λ (s : CallState). s.life.goes_on) same ∙ on
takes_up {done = done} (Stepped drawn job doing is steps events_are) on free = step_up steps done refl on free

pub items_up : {c : SetCall} {before after : CallState} {done : List (Item × Done)} {events : List Event} → DoesItems c before done events after
    → before.life.goes_on ≡ true → after.lost ≡ 0 → after.life.goes_on ≡ true
items_up NoItems on free = on
items_up (MoreItems next rest) on free = takes_up next.takes (items_up rest on (takes_lost next.takes free)) free

pub settled_left : {before after : Progress} {events : List Event} → Settles before events after → after.left ≡ before.left
settled_left (Same k stands known same none is) = ap (λ (p : Progress). p.left) is
settled_left (Moves new next goes room none is) = ap (λ (p : Progress). p.left) is
settled_left (Spends new spent none is) = ap (λ (p : Progress). p.left) is
settled_left (Lacks stands none is) = ap (λ (p : Progress). p.left) is

-- ---- what is proved of fetches, and of items that end a call

abbrev pub FetchesLaw : Type 0
FetchesLaw = (folder uid : ℕ) (before after : Mail) (life left : LinkLife) (client : ClientState) (octets : List ℕ) (events : List Event)
    → FetchesBody folder uid before after life left client (Ok octets) events → life.goes_on ≡ true → left.goes_on ≡ true

abbrev pub UnavailableLaw : Type 0
UnavailableLaw = (uploads : List (List ℕ)) (m : SetMethod) (a : SetAsked) (h : MailHistory) (created : Ids) → EndsSo WasUnavailable ServerUnavailable (call_of (item_checks uploads) m a h created)

pub record LivesLaws : Type 0 where
  pub fetches : FetchesLaw
  pub unavailable : UnavailableLaw
  pub known : {c : SetCall} → ChecksFit c → EndsSo WasUnavailable ServerUnavailable c
  pub imports : ImportsFit

not_both : (b : Bool) → b ≡ true → b ≡ false → ⊥
not_both true e f = absurd (cc)
not_both false e f = absurd (cc)

-- items that were all done leave the link up, unless a fault is blamed
done_up : {c : SetCall} {items : List Item} {before after : CallState} {done : List (Item × Done)} {came : ItemsCame} {events : List Event}
    → RunsItems c items before came events after → came ≡ Ok done → before.life.goes_on ≡ true → after.lost ≡ 0 → after.life.goes_on ≡ true
done_up (AllDone done does all is) ok on free = items_up does on free
done_up (Stopped done item later mid so_far last ends does stops all whole is) ok on free = absurd (let no = sym is ∙ ok in cc)
done_up (Wanting done later so_far drawn does draws all whole is) ok on free = absurd (let no = sym is ∙ ok in cc)

-- an item that finds the life ended: it had before the call, or a fault is blamed in it
pub items_ended : (c : SetCall) (m : Mail) (life : LinkLife) (done : List (Item × Done)) (events : List Event) (mid : CallState)
    → DoesItems c (call_begun m life) done events mid → mid.life.goes_on ≡ false → (life.goes_on ≡ false) ⊎ (mid.lost ≢ 0)
items_ended c m life done events mid does over = by life.goes_on refl
  where
    by : (b : Bool) → life.goes_on ≡ b → (life.goes_on ≡ false) ⊎ (mid.lost ≢ 0)
    by false is = inl is
    by true is = inr (λ free. not_both mid.life.goes_on (items_up does is free) over)

-- ---- a call that changes mail

commits : {call : SetCall} {items : List Item} {before after : Progress} {events : List Event} (came : ItemsCame) → EndsSo WasUnavailable ServerUnavailable call
    → GoesToCommit came → (does : DoesItemsOver call items before came events after) → is_up before.left ≡ true → does.now.life.goes_on ≡ false
    → (does.now.lost ≢ 0) ⊎ IsEndedIn WasUnavailable ServerUnavailable call items before
commits (Ok done) so goes does up over =
    inl (λ free. not_both does.now.life.goes_on (done_up does.runs refl (sym (ap is_up does.in_life) ∙ up) free) over)
commits (Err (Ends ServerUnavailable)) so goes does up over = inr (over_items so does)
commits (Err (Ends other)) so goes does up over = absurd goes
commits (Err (Comes done)) so goes does up over = absurd goes
commits (Err OutOfMemory) so goes does up over = absurd goes

-- ---- a call that reads

fetch_ends : LivesLaws → {message : MessagePlace} {p q : Progress} {body : Option (List ℕ)} {events : List Event} (asks : AsksBody message p body events q)
    → is_up p.left ≡ true → is_up q.left ≡ false → FetchFails asks
fetch_ends laws {q = q} (IsKept octets kept body_is none is) up over = absurd (not_both (is_up q.left) (ap (λ (x : Progress). is_up x.left) is ∙ up) over)
fetch_ends laws {message = message} {q = q} {events = events} (IsTold octets asks body_is is) up over =
    absurd (not_both (is_up q.left) (ap (λ (x : Progress). is_up x.left) is
    ∙ laws.fetches message.folder message.uid asks.kept.known.told.mail asks.told.mail asks.life asks.left asks.client octets events asks.fetches asks.goes_on) over)
fetch_ends laws (fetching.Ends e asks other body_is is) up over = tt
fetch_ends laws {p = p} (HasEnded kept ended body_is none is) up over = absurd (not_both (is_up p.left) up ended)

bodies_end : LivesLaws → {p q : Progress} {asks : List BodyAsk} {events : List Event} (asked : AsksBodies p asks events q) → is_up p.left ≡ true
    → is_up q.left ≡ false → SomeFetchFails asked
bodies_end laws {p = p} NoBodies up over = absurd (not_both (is_up p.left) up over)
bodies_end laws (MoreBodies {mid = mid} next bodies) up over = by (is_up mid.left) refl (λ here. bodies_end laws bodies up here)
  where
    by : (b : Bool) → is_up mid.left ≡ b → (is_up mid.left ≡ false → SomeFetchFails bodies) → SomeFetchFails bodies ⊎ FetchFails next.asks
    by true here before = inr (fetch_ends laws next.asks here over)
    by false here before = inl (before here)

-- ---- a course

row_ends : {call : SetCall} {items : List Item} {before after : Progress} {came : ItemsCame} {events : List Event} → EndsSo WasUnavailable ServerUnavailable call
    → GoesToCommit came → (does : DoesItemsOver call items before came events after) → is_up before.left ≡ true → is_up after.left ≡ false → RowEndsLife does
row_ends {came = came} so goes does up over = commits came so goes does up (sym (ap is_up (ap (λ (p : Progress). p.left) does.after_is)) ∙ over)

preparing_ends : LivesLaws → {call : SetCall} {uploads : List (List ℕ)} {item : Item} {p q : Progress} {asks : List BodyAsk} {made : Option (Result Job SetError)} {events : List Event}
    (prepares : PreparesImport call uploads item p asks made events q) → is_up p.left ≡ true → is_up q.left ≡ false → PreparingEndsLife prepares
preparing_ends laws {p = p} (RefusedAtOnce here e is) up over = absurd (not_both (is_up p.left) up over)
preparing_ends laws (Sought here i found is finds asked makes) up over = bodies_end laws asked up over

-- an import that came to something, or for which the store wasn't there, goes to the commit
one_goes : (item : Item) (made : Bool) (ends : ItemEnd) → GoesToCommit (Err (ends_after made ends)) → GoesToCommit (one_came item ends)
one_goes item true (Ends ServerUnavailable) goes = absurd goes
one_goes item true (Ends e) goes = goes
one_goes item true (Comes done) goes = tt
one_goes item true OutOfMemory goes = goes
one_goes item false (Ends e) goes = goes
one_goes item false (Comes done) goes = tt
one_goes item false OutOfMemory goes = goes

import_ends : LivesLaws → {call : SetCall} {uploads : List (List ℕ)} {item : Item} {p q : Progress} {asks : List BodyAsk} {ends : ItemEnd} {events : List Event}
    (takes : TakesImport call uploads item p asks ends events q) → GoesToCommit (one_came item ends) → is_up p.left ≡ true → is_up q.left ≡ false → ImportEndsLife takes
import_ends laws (BodyLost prepares) goes up over = preparing_ends laws prepares up over
import_ends laws {p = p} (Taken {mid = mid} made ends prepares does) goes up over = by (is_up mid.left) refl
  where
    by : (b : Bool) → is_up mid.left ≡ b → PreparingEndsLife prepares ⊎ RowEndsLife does
    by true here = inr (row_ends (laws.known (steps_fit laws.imports prepares)) goes does here over)
    by false here = inl (preparing_ends laws prepares up here)
import_ends laws (NoRoom lacks) goes up over = absurd goes

rest_goes : (e : Item × Done) (came : ItemsCame) → GoesToCommit (before_these e came) → GoesToCommit came
rest_goes e (Ok done) goes = tt
rest_goes e (Err ends) goes = goes

imports_end : LivesLaws → {call : SetCall} {uploads : List (List ℕ)} {made : Bool} {items : List Item} {p q : Progress} {came : ItemsCame} {events : List Event}
    (imports : DoesImports call uploads made p items came events q) → GoesToCommit came → is_up p.left ≡ true → is_up q.left ≡ false → ImportsEndLife imports
imports_end laws {p = p} (NoImports here) goes up over = absurd (not_both (is_up p.left) up over)
imports_end laws (OutBefore here) goes up over = absurd goes
imports_end laws {p = p} (ImportDone {mid = mid} {came = came} item done takes rest) goes up over =
    by (is_up mid.left) refl (λ (here : is_up mid.left ≡ true). imports_end laws rest (rest_goes (item, done) came goes) here over)
  where
    by : (b : Bool) → is_up mid.left ≡ b → (is_up mid.left ≡ true → ImportsEndLife rest) → ImportEndsLife takes ⊎ ImportsEndLife rest
    by true here later = inr (later here)
    by false here later = inl (import_ends laws takes tt up here)
imports_end laws {made = made} (ImportEnds item ends not takes) goes up over = import_ends laws takes (one_goes item made ends goes) up over

course_ends : LivesLaws → {call : SetCall} {items : List Item} {p q : Progress} {came : ItemsCame} {events : List Event} (does : DoesCourse call items p came events q)
    → EndsSo WasUnavailable ServerUnavailable call → GoesToCommit came → is_up p.left ≡ true → is_up q.left ≡ false → CourseEndsLife does
course_ends laws (changing.InRow row does) so goes up over = row_ends so goes does up over
course_ends laws (changing.OneByOne uploads rules imports) so goes up over = imports_end laws imports goes up over

change_ends : LivesLaws → {call : SetCall} {items : List Item} {before after : Progress} {result : Result (List (Item × Done)) MethodError} {events : List Event}
    (h : MailHistory) (does : ChangesMail call items before result events after) → EndsSo WasUnavailable ServerUnavailable call → is_up before.left ≡ true
    → mail_at after ≡ Ok h → is_up after.left ≡ false → ItemsEndLife does
change_ends laws h (changing.Committed came mid does goes settles stands is) so up told over =
    course_ends laws does so goes up (sym (ap is_up (settled_left settles)) ∙ over)
change_ends laws h (changing.SpentBy came mid spent doing ending does goes settles why hangs whole is error) so up told over =
    absurd (let no = sym (ap mail_at is) ∙ told in cc)
change_ends laws h (changing.FailedInPart mid doing ending does hangs whole is error) so up told over =
    absurd (let no = sym (ap mail_at is) ∙ told in cc)

still : {p q : Progress} → q ≡ p → is_up p.left ≡ true → is_up q.left ≡ false → ⊥
still {q = q} is up over = not_both (is_up q.left) (ap (λ (x : Progress). is_up x.left) is ∙ up) over

set_ends : LivesLaws → {uploads : List (List ℕ)} {m : SetMethod} {d : Data} {mail : Mailing} {s t : ChangeState} {result : Result Data MethodError} {events : List Event} (h : MailHistory)
    (does : DoesChange (item_checks uploads) m d mail s result events t) → is_up s.progress.left ≡ true → mail_at t.progress ≡ Ok h → is_up t.progress.left ≡ false
    → SetEndsLife does
set_ends laws h (answering.Refused e is result_is none same) up told over = absurd (still (ap (λ (x : ChangeState). x.progress) same) up over)
set_ends laws h (answering.Untold a e is mail_is result_is none same) up told over = absurd (still (ap (λ (x : ChangeState). x.progress) same) up over)
set_ends laws h (answering.Asked a j is mail_is (answering.Mismatch current result_is none same)) up told over =
    absurd (still (ap (λ (x : ChangeState). x.progress) same) up over)
set_ends laws {m = m} {s = s} h (answering.Asked a j is mail_is (answering.Changes items came current items_are does answers)) up told over =
    change_ends laws h does (laws.unavailable _ m a j s.created) up told over

-- ---- calls

call_ends : LivesLaws → {uses : Using} {uploads : List (List ℕ)} {earlier : List CallData} {call : CallData} {s t : CallsState} {asks : List Asked}
    {result : Result Data MethodError} {events : List Event} (h : MailHistory) (does : DoesCall uses uploads earlier call s asks result events t)
    → is_up s.progress.left ≡ true → mail_at t.progress ≡ Ok h → is_up t.progress.left ≡ false → CallEndsLife does
call_ends laws h (Reads bodies answers asked is created) up told over = bodies_end laws asked up over
call_ends laws h (Changes m d j named resolved here does is) up told over = set_ends laws h does up told over

-- where the mail is served after a call it was before
told_before : {uses : Using} {uploads : List (List ℕ)} {earlier : List CallData} {call : CallData} {s t : CallsState} {asks : List Asked}
    {result : Result Data MethodError} {events : List Event} (h : MailHistory) → DoesCall uses uploads earlier call s asks result events t
    → mail_at t.progress ≡ Ok h → (j : MailHistory) × (mail_at s.progress ≡ Ok j)
told_before h (Reads bodies answers asked is created) told = (h, sym (bodies_keep_mail asked) ∙ told)
told_before h (Changes m d j named resolved here does is) told = (j, here)

pub calls_end : LivesLaws → {uses : Using} {uploads : List (List ℕ)} {s t : CallsState} {calls responses : List CallData} {asks : List Asked} {events : List Event}
    (h : MailHistory) (does : DoesCalls uses uploads s calls asks responses events t) → is_up s.progress.left ≡ true → mail_at t.progress ≡ Ok h
    → is_up t.progress.left ≡ false → SomeCallEndsLife does
calls_end laws {s = s} h NoCalls up told over = absurd (not_both (is_up s.progress.left) up over)
calls_end laws h (MoreCalls {mid = mid} next rest) up told over =
    by (is_up mid.progress.left) refl (λ here. let before = told_before h next.does told in calls_end laws before.0 rest up before.1 here)
  where
    by : (b : Bool) → is_up mid.progress.left ≡ b → (is_up mid.progress.left ≡ false → SomeCallEndsLife rest) → SomeCallEndsLife rest ⊎ CallEndsLife next.does
    by true here before = inr (call_ends laws h next.does here told over)
    by false here before = inl (before here)
