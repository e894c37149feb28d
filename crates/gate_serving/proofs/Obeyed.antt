-- A store that obeys, and what comes of what is done for a request.
use Rattle.std.proofs.Common.{arith, ◌≡◌, ◌≢◌, ◌⊎◌, ◌∙◌, ◌+◌, ◌++◌, ◌∷◌, ℕ, Bool, true, false, List, [], map, Option, Some, None, Result, Ok, Err}
use Rattle.std.proofs.Common.{inl, inr, refl, sym, ap, subst}
use Rattle.std.specs.Prelude.{IsSome, is_some}
use Rattle.std.proofs.lemmas.List.Sums.{fold-append}
use Rattle.std.proofs.lemmas.List.Elements.{All-append, All-map, All-nil, All-pop, All-push}
use Rattle.gate_world.specs.Causes.{Faults, no_faults}
use Rattle.gate_world.specs.declared.event.Event.{Event}
use Rattle.told_folder.specs.declared.exchange.Exchange.{Exchange}
use Rattle.told_mail.specs.Mail.{Mail}
use Rattle.serde_json.specs.Data.{Data}
use Rattle.email_bodies.specs.Asking.{BodyAsk, unanswered}
use Rattle.email_bodies.specs.declared.source.MessagePlace.{MessagePlace}
use Rattle.jmap_arguments.specs.declared.method_error.MethodError.{MethodError}
use Rattle.jmap_arguments.specs.declared.method_error.MethodError.TheVariants.{ServerPartialFail}
use Rattle.jmap_arguments.specs.declared.using.Using.{Using}
use Rattle.jmap_core.specs.CreatedIds.{Ids}
use Rattle.result_references.specs.Call.{CallData}
use Rattle.imap_exchange.specs.declared.link_end.LinkEnd.{LinkEnd}
use Rattle.imap_exchange.specs.declared.link_end.LinkEnd.TheVariants as end
use Rattle.imap_client.specs.Bodies.{FetchesBody}
use Rattle.imap_client.specs.LinkLife.{LinkLife, ClientState}
use Rattle.imap_client.specs.Plans.{Planned, Follows}
use Rattle.mail_state.specs.History.{MailHistory}
use Rattle.email_bodies.specs.declared.error.BodyError.{BodyError}
use Rattle.email_import.specs.Messages.{FindsMessage}
use Rattle.email_import.specs.declared.ready.ReadyImport.{ReadyImport}
use Rattle.email_import.proofs.FindLemmas.{lost}
use Rattle.gate_machine.specs.Beginning.{Settles, Same, Moves, Spends, Lacks}
use Rattle.gate_machine.specs.Fetching.{AsksBody, IsKept, IsTold, HasEnded, AsksBodies, NoBodies, MoreBodies, LacksBody, CallsAsk, AllAsked, RunsShort}
use Rattle.gate_machine.specs.Fetching as fetching
use Rattle.gate_machine.specs.History.{KnownMail, served_anew}
use Rattle.gate_machine.specs.Obeying.{AllCame, AreAsksObeyed, HasCome, ObeysIn}
use Rattle.gate_machine.specs.Progress.{Progress, blame_link, is_up}
use Rattle.gate_machine.specs.declared.mail_status.MailStatus.TheVariants.{Stands}
use Rattle.gate_machine.proofs.Asking.{bodies_stay}
use Rattle.set_arguments.specs.Arguments.{SetAsked}
use Rattle.set_arguments.specs.declared.set_method.SetMethod.{SetMethod}
use Rattle.set_jobs.specs.declared.done.Done.{Done}
use Rattle.set_jobs.specs.declared.done.SetError.{SetError}
use Rattle.set_jobs.specs.declared.job.Job.{Job}
use Rattle.set_order.specs.Ordered.{Item}
use Rattle.set_items.specs.declared.item.ItemEnd.{ItemEnd}
use Rattle.set_items.specs.declared.item.ItemEnd.TheVariants.{Comes, Ends, OutOfMemory}
use Rattle.set_items.specs.Causes.{FailedPartly}
use Rattle.set_items.specs.Commands.{IsFit}
use Rattle.set_items.specs.Ends.{done_end, item_end}
use Rattle.set_items.specs.declared.stage.ItemStage.{ItemStage}
use Rattle.set_items.specs.declared.stage.ItemStage.TheVariants.{Doing, Failing, Partly, Settled}
use Rattle.set_items.specs.Items.{item_at, item_start}
use Rattle.set_items.specs.Talks.{DoesItem, ending_of, fault_in, has_changed}
use Rattle.set_calls.specs.Calls.{SetCall, CallState, StopsAt, DoesItems, NoItems, MoreItems, RunsItems, AllDone, Stopped, Wanting}
use Rattle.set_calls.specs.Promises.{ChecksFit}
use Rattle.gate_changes.specs.Answering as answering
use Rattle.gate_changes.specs.Answering.{DoesChange, call_of}
use Rattle.gate_changes.specs.Changing as changing
use Rattle.gate_changes.specs.Changing.{ChangesMail, DoesCourse, LacksChange}
use Rattle.gate_changes.specs.Importing.{MakesSteps, NoBody, PreparesImport, RefusedAtOnce, Sought, TakesImport, BodyLost, Taken, NoRoom, DoesImports, NoImports, OutBefore, ImportDone, ImportEnds}
use Rattle.gate_changes.specs.Importing.{before_these, one_came}
use Rattle.gate_changes.specs.Items.{DoesItemsOver, ItemsCame}
use Rattle.gate_changes.proofs.Blaming.{BlamesTheLink, does_blame, imports_blame, settled_blame}
use Rattle.gate_changes.proofs.Keeping.{goes_well}
use Rattle.call_laws.proofs.Fit.{ImportsFit, steps_fit}
use Rattle.call_laws.proofs.Lives.{items_up, lost_before, lost_in, settled_left}
use Rattle.gate_calls.specs.ItemChecks.{item_checks}
use Rattle.gate_calls.specs.Calling.{AllAskedCome, AreDoneObeyed, AreStepsObeyed, Asked, Body, Committed, IsAskedCome, IsCallObeyed, IsChangeObeyed, IsLastObeyed}
use Rattle.gate_calls.specs.Calling.{AreImportsObeyed, IsCourseObeyed, IsImportObeyed, IsPreparedObeyed, IsSetObeyed, asks_of, asks_of_change, asks_of_course, asks_of_done, asks_of_import, asks_of_imports, asks_of_items, done_ask, history_known}
use Rattle.gate_calls.proofs.OneChange.{came_well, rest_well, still_out}
use Rattle.gate_calls.proofs.Through.{one_through}
use Rattle.gate_serving.specs.Complete.{served_by, served_last}
use Rattle.gate_calls.specs.Calling.{CallsState, DoesCall, Reads, Changes, DoesCalls, NoCalls, MoreCalls}

-- what is proved of plans that are obeyed, and of fetches of bodies
abbrev pub PlansLaw : Type 0
PlansLaw = (plan : Planned) (life left : LinkLife) (exchanges : List Exchange) (client : ClientState) (result : Result (Unit {0}) LinkEnd) (events : List Event)
    → Follows plan life left exchanges client result events → ObeysIn plan life events
    → (result ≡ Ok tt) ⊎ (result ≡ Err end.Lost) ⊎ (result ≡ Err end.Memory)

abbrev pub FetchesLaw : Type 0
FetchesLaw = (folder uid : ℕ) (before after : Mail) (life left : LinkLife) (client : ClientState) (octets : List ℕ) (events : List Event)
    → FetchesBody folder uid before after life left client (Ok octets) events → life.goes_on ≡ true → left.goes_on ≡ true

-- of the bodies that calls ask for, over a link that is up
abbrev pub BodiesLaw : Type 0
BodiesLaw = (before after : Progress) (asks : List BodyAsk) (events : List Event) (bodies : AsksBodies before asks events after) → is_up before.left ≡ true → AreAsksObeyed bodies
    → after.blamed ≡ no_faults → AllCame asks

-- and of calls that change mail: no blame is taken back
abbrev pub BlamesLaw : Type 0
BlamesLaw = (call : SetCall) (items : List Item) (before : Progress) (result : Result (List (Item × Done)) MethodError) (events : List Event) (after : Progress)
    → ChangesMail call items before result events after → BlamesTheLink before after

abbrev pub LacksLaw : Type 0
LacksLaw = (call : SetCall) (items : List Item) (before : Progress) (events : List Event) (after : Progress) → LacksChange call items before events after
    → BlamesTheLink before after

-- an item fails in part by its causes alone
abbrev pub PartlyLaw : Type 0
PartlyLaw = (job : Job) (call : List Exchange) (before after : Mail) (life left : LinkLife) (client : ClientState) (events : List Event)
    (d : DoesItem job call before after life left client (Ends ServerPartialFail) events) → IsFit job → FailedPartly (ending_of call d.runs)

-- and the items of the calls that there are have the steps that this is proved of
abbrev pub FitLaw : Type 0
FitLaw = (uploads : List (List ℕ)) (m : SetMethod) (a : SetAsked) (h : MailHistory) (created : Ids) → ChecksFit (call_of (item_checks uploads) m a h created)

pub record ObeyedLaws : Type 0 where
  pub plans : PlansLaw
  pub partly : PartlyLaw
  pub fit : FitLaw
  pub imports : ImportsFit
  pub bodies : BodiesLaw
  pub fetches : FetchesLaw
  pub blames : BlamesLaw
  pub lacks : LacksLaw

-- ---- blame

pub no_blame : (n : ℕ) (f : Faults) → blame_link n f ≡ no_faults → f ≡ no_faults
no_blame n f is = λ i. record {
  link = let sum : f.link + n ≡ 0 = ap (λ (g : Faults). g.link) is in (let none : f.link ≡ 0 = omega (arith, sum) in none) i;
  keep = ap (λ (g : Faults). g.keep) is i;
  front = ap (λ (g : Faults). g.front) is i;
  say = ap (λ (g : Faults). g.say) is i;
}

none_lost : (n : ℕ) (f : Faults) → blame_link n f ≡ no_faults → n ≡ 0
none_lost n f is = let sum : f.link + n ≡ 0 = ap (λ (g : Faults). g.link) is in omega (arith, sum)

unblamed_body : {message : MessagePlace} {p q : Progress} {body : Option (List ℕ)} {events : List Event} → AsksBody message p body events q → q.blamed ≡ no_faults
    → p.blamed ≡ no_faults
unblamed_body (IsKept octets kept body_is none is) free = ap (λ (x : Progress). x.blamed) (sym is) ∙ free
unblamed_body {p = p} (IsTold octets asks body_is is) free = no_blame 0 p.blamed (ap (λ (x : Progress). x.blamed) (sym is) ∙ free)
unblamed_body {p = p} (fetching.Ends e asks other body_is is) free = no_blame _ p.blamed (ap (λ (x : Progress). x.blamed) (sym is) ∙ free)
unblamed_body (HasEnded kept ended body_is none is) free = ap (λ (x : Progress). x.blamed) (sym is) ∙ free

unblamed_bodies : {p q : Progress} {asks : List BodyAsk} {events : List Event} → AsksBodies p asks events q → q.blamed ≡ no_faults → p.blamed ≡ no_faults
unblamed_bodies NoBodies free = free
unblamed_bodies (MoreBodies next bodies) free = unblamed_bodies bodies (unblamed_body next.asks free)

unblamed_lacking : {message : MessagePlace} {p q : Progress} {events : List Event} → LacksBody message p events q → q.blamed ≡ no_faults → p.blamed ≡ no_faults
unblamed_lacking (fetching.Unasked none is) free = ap (λ (x : Progress). x.blamed) (sym is) ∙ free
unblamed_lacking {p = p} (fetching.Asked asks is) free = no_blame _ p.blamed (ap (λ (x : Progress). x.blamed) (sym is) ∙ free)
unblamed_lacking {p = p} (fetching.NotKept octets asks is) free = no_blame _ p.blamed (ap (λ (x : Progress). x.blamed) (sym is) ∙ free)

pub unblamed_calls : {p q : Progress} {asks : List BodyAsk} {events : List Event} → CallsAsk p asks events q → q.blamed ≡ no_faults → p.blamed ≡ no_faults
unblamed_calls (AllAsked bodies) free = unblamed_bodies bodies free
unblamed_calls (RunsShort short) free = unblamed_bodies short.asked (unblamed_lacking short.lacks free)

pub unblamed_change : (before after : Progress) → BlamesTheLink before after → after.blamed ≡ no_faults → before.blamed ≡ no_faults
unblamed_change before after blames free = no_blame blames.0 before.blamed (sym blames.1 ∙ free)

-- ---- the items of a call that changes mail

not_lost : (was up : Bool) (r : Result (Unit {0}) LinkEnd) → was ≡ true → r ≡ Err end.Lost → fault_in was up r ≡ 0 → ⊥
not_lost true up (Err end.Lost) on lost none = absurd (omega (arith, none))
not_lost false up r on lost none = absurd (let never : false ≡ true = on in cc)
not_lost true up (Ok u) on lost none = absurd (let never : Ok u ≡ Err end.Lost = lost in cc)
not_lost true up (Err e) on lost none = absurd (let never : Err e ≡ Err end.Lost = lost in cc)

out_end : (s : ItemStage) (r : Result (Unit {0}) LinkEnd) (changed : Bool) → r ≡ Err end.Memory → item_end s r changed ≡ OutOfMemory
out_end s r changed is = ap (λ (x : Result (Unit {0}) LinkEnd). item_end s x changed) is

-- each item came to something
items_come : {c : SetCall} {before after : CallState} {done : List (Item × Done)} {events : List Event} (does : DoesItems c before done events after)
    → AllAskedCome (asks_of_done does)
items_come NoItems = All-nil IsAskedCome
items_come (MoreItems next rest) = All-push IsAskedCome (asks_of_done rest) (done_ask next) (items_come rest) (next.done, refl)

-- what the items of a call come to: each comes to something, and the link is up
pub record AllCameOf (asks : List Asked) (came : ItemsCame) (after : CallState) : Type 0 where
  pub come : AllAskedCome asks
  pub up : after.life.goes_on ≡ true
  pub done : List (Item × Done)
  pub came_is : came ≡ Ok done

-- ---- the call

-- the mail is served, and the link is up
pub record IsUp (p : Progress) : Type 0 where
  pub known : KnownMail
  pub ready : p.machine.known ≡ Some known
  pub stands : p.standing ≡ Stands
  pub up : is_up p.left ≡ true

abbrev pub up_same : {p q : Progress} → q ≡ p → IsUp p → IsUp q
up_same is here =
    record {
      known = here.known;
      ready = ap (λ (x : Progress). x.machine.known) is ∙ here.ready;
      stands = ap (λ (x : Progress). x.standing) is ∙ here.stands;
      up = ap (λ (x : Progress). is_up x.left) is ∙ here.up;
    }

settled_known : {before after : Progress} {events : List Event} → Settles before events after → after.standing ≡ Stands → (k : KnownMail) × (after.machine.known ≡ Some k)
settled_known (Same k stands known same none is) stood = (k, ap (λ (p : Progress). p.machine.known) is ∙ known)
settled_known (Moves new next goes room none is) stood = (served_anew new.known next, ap (λ (p : Progress). p.machine.known) is)
settled_known (Spends new spent none is) stood = absurd (cc (sym (ap (λ (p : Progress). p.standing) is) ∙ stood))
settled_known (Lacks stands none is) stood = absurd (cc (sym (ap (λ (p : Progress). p.standing) is) ∙ stood))

commit_comes : (known : Option KnownMail) (k : KnownMail) → known ≡ Some k → IsAskedCome (Committed (history_known known))
commit_comes known k is = subst (λ (o : Option KnownMail). IsAskedCome (Committed (history_known o))) (sym is) refl

none_came : {body : Option (List ℕ)} → body ≡ None → IsSome body → ⊥
none_came is came = let never : false ≡ true = sym (ap (λ (o : Option (List ℕ)). is_some o) is) ∙ came in cc

-- What was asked came, from where this history is served; the link is up after it, and what the commits moved on to is served.
pub record AllCome (h : MailHistory) (asks : List Asked) (after : Progress) : Type 0 where
  pub come : AllAskedCome asks
  pub here : IsUp after
  pub moved_on : here.known.history ≡ served_last h asks

pub none_come : {p q : Progress} → q ≡ p → (here : IsUp p) → AllCome here.known.history [] q
none_come is here = record { come = All-nil IsAskedCome; here = up_same is here; moved_on = refl }

-- of bodies none is a commit
bodies_served : (h : MailHistory) (bodies : List BodyAsk) → served_last h (map Body bodies) ≡ h
bodies_served h [] = refl
bodies_served h (b ∷ bs) = bodies_served h bs

-- the last that was asked is one
commit_served : (h : MailHistory) (asks : List Asked) (known : Option KnownMail) (k : KnownMail) → known ≡ Some k
    → k.history ≡ served_last h (asks ++ Committed (history_known known) ∷ [])
commit_served h asks known k is =
    sym (fold-append served_by h asks (Committed (history_known known) ∷ []) ∙ ap (λ (o : Option KnownMail). served_by (served_last h asks) (Committed (history_known o))) is)

served_on : (g h : MailHistory) (asks more : List Asked) → g ≡ served_last h asks → served_last g more ≡ served_last h (asks ++ more)
served_on g h asks more is = ap (λ (x : MailHistory). served_last x more) is ∙ sym (fold-append served_by h asks more)

-- an item whose plan came to its end came to something, or failed in part
done_by : (s : ItemStage) → ((done : Done) × (done_end s ≡ Comes done)) ⊎ (done_end s ≡ Ends ServerPartialFail)
done_by (Settled done) = inl (done, refl)
done_by (Doing s ss changed done) = inr refl
done_by Partly = inr refl
done_by (Failing why) = inr refl

fails_so : PartlyLaw → (job : Job) (call : List Exchange) (before after : Mail) (life left : LinkLife) (client : ClientState) (ends : ItemEnd) (events : List Event)
    → ends ≡ Ends ServerPartialFail → (d : DoesItem job call before after life left client ends events) → IsFit job → FailedPartly (ending_of call d.runs)
fails_so law job call before after life left client ends events is =
    subst (λ (e : ItemEnd). (d : DoesItem job call before after life left client e events) → IsFit job → FailedPartly (ending_of call d.runs)) (sym is)
    (law job call before after life left client events)

ended_so : (item : Item) (ends : ItemEnd) (done : List (Item × Done)) → one_came item ends ≡ Ok done → (x : Done) × (ends ≡ Comes x)
ended_so item (Comes x) done is = (x, refl)
ended_so item (Ends e) done is = absurd (cc)
ended_so item OutOfMemory done is = absurd (cc)

module _ (laws : ObeyedLaws) where
  -- an item that is obeyed ends its call only as memory runs out, unless a fault is blamed
  stops_out : {c : SetCall} {item : Item} {before after : CallState} {ends : ItemEnd} {events : List Event} (stops : StopsAt c item before ends events after)
      → ChecksFit c → IsLastObeyed stops → before.life.goes_on ≡ true → after.lost ≡ 0 → ends ≡ OutOfMemory
  stops_out {item = item} {before = before} {after = after} {ends = ends} stops fit obeyed on free =
      let runs = stops.steps.does.runs in
      let stage : ItemStage = (item_at (item_start stops.job before.mail) runs.exchanges).stage in
      let changed : Bool = has_changed (ending_of before.exchanges runs) in
      elim (laws.plans _ before.life after.life runs.exchanges stops.steps.client runs.result stops.doing runs.follows obeyed.steps) [
        | inl ok ↦
            let ends_is : ends ≡ done_end stage = stops.steps.does.ends_is ∙ ap (λ (r : Result (Unit {0}) LinkEnd). item_end stage r changed) ok in
            elim (done_by stage) [
              | inl (done, is) ↦ absurd (stops.not_done done (ends_is ∙ is))
              | inr is ↦ absurd (obeyed.whole (fails_so laws.partly stops.job before.exchanges before.mail after.mail before.life after.life stops.steps.client ends
                  stops.doing (ends_is ∙ is) stops.steps.does (fit _ item stops.drawn stops.job stops.is_prepared).0))
            ]
        | inr (inl lost) ↦ absurd (not_lost before.life.goes_on after.life.goes_on runs.result on lost (lost_in stops.steps free))
        | inr (inr memory) ↦ stops.steps.does.ends_is ∙ out_end stage runs.result changed memory
      ]

  runs_come : {c : SetCall} {items : List Item} {before after : CallState} {came : ItemsCame} {events : List Event} (runs : RunsItems c items before came events after)
      → ChecksFit c → came ≢ Err OutOfMemory → AreStepsObeyed runs → before.life.goes_on ≡ true → after.lost ≡ 0 → AllCameOf (asks_of_items runs) came after
  runs_come (AllDone done does all is) fit well obeyed on free = record { come = items_come does; up = items_up does on free; done = done; came_is = is }
  runs_come (Stopped done item later mid so_far last ends does stops all whole is) fit well obeyed on free =
      absurd (well (is ∙ ap (λ (e : ItemEnd). Err e)
      (stops_out stops fit obeyed.1 (items_up does on (lost_before stops.steps free)) free)))
  runs_come (Wanting done later so_far drawn does draws all whole is) fit well obeyed on free = absurd (well is)

  items_over : {call : SetCall} {items : List Item} {before after : Progress} {came : ItemsCame} {events : List Event}
      (does : DoesItemsOver call items before came events after) → ChecksFit call → came ≢ Err OutOfMemory → AreStepsObeyed does.runs → is_up before.left ≡ true
      → after.blamed ≡ no_faults → AllCameOf (asks_of_items does.runs) came does.now
  items_over {before = before} does fit well obeyed up free =
      runs_come does.runs fit well obeyed (sym (ap is_up does.in_life) ∙ up)
      (none_lost does.now.lost before.blamed (sym (ap (λ (p : Progress). p.blamed) does.after_is) ∙ free))

  body_up : {message : MessagePlace} {p q : Progress} {body : Option (List ℕ)} {events : List Event} → AsksBody message p body events q → is_up p.left ≡ true
      → IsSome body → is_up q.left ≡ true
  body_up (IsKept octets kept body_is none is) up came = ap (λ (x : Progress). is_up x.left) is ∙ up
  body_up {message = message} {events = events} (IsTold octets asks body_is is) up came =
      ap (λ (x : Progress). is_up x.left) is
      ∙ laws.fetches message.folder message.uid asks.kept.known.told.mail asks.told.mail asks.life asks.left asks.client octets events asks.fetches asks.goes_on
  body_up (fetching.Ends e asks other body_is is) up came = absurd (none_came body_is came)
  body_up (HasEnded kept ended body_is none is) up came = absurd (none_came body_is came)

  bodies_up : {p q : Progress} {asks : List BodyAsk} {events : List Event} → AsksBodies p asks events q → is_up p.left ≡ true → AllCame asks → is_up q.left ≡ true
  bodies_up NoBodies up all = up
  bodies_up (MoreBodies {asks = asks} next bodies) up all =
      let both = All-pop HasCome (asks ++ next.ask ∷ []) asks (Some next.ask) refl all in body_up next.asks (bodies_up bodies up both.0) both.1

  -- ---- imports

  -- what was asked for them came, and the link is up
  abbrev pub CameUp : List Asked → Progress → Type 0
  CameUp asks q = AllAskedCome asks × (is_up q.left ≡ true)

  prepares_come : {call : SetCall} {uploads : List (List ℕ)} {item : Item} {p q : Progress} {bodies : List BodyAsk} {made : Option (Result Job SetError)} {events : List Event}
      (prepares : PreparesImport call uploads item p bodies made events q) → IsPreparedObeyed prepares → is_up p.left ≡ true → q.blamed ≡ no_faults
      → AllCame bodies × (is_up q.left ≡ true)
  prepares_come (RefusedAtOnce here e is) obeyed up free = (All-nil HasCome, up)
  prepares_come {p = p} {q = q} {bodies = bodies} (Sought here i found is finds asked makes) obeyed up free =
      let all = laws.bodies p q bodies _ asked up obeyed free in (all, bodies_up asked up all)

  not_there : {i : ReadyImport} {found : Result (Result (List ℕ) SetError) BodyError} {drawing : List Event} → MakesSteps i found None drawing
      → (e : BodyError) × (found ≡ Err e)
  not_there (NoBody e) = (e, refl)

  -- no body is lost
  never_lost : {call : SetCall} {uploads : List (List ℕ)} {item : Item} {p q : Progress} {bodies : List BodyAsk} {events : List Event}
      → PreparesImport call uploads item p bodies None events q → AllCame bodies → ⊥
  never_lost {call = call} {uploads = uploads} {bodies = bodies} (Sought here i found is finds asked makes) all =
      let none = not_there makes in
      let gone = lost call.history.numbered.rows uploads i bodies none.0
      (subst (λ (r : Result (Result (List ℕ) SetError) BodyError). FindsMessage call.history.numbered.rows uploads i bodies r) none.1 finds) in
      let one = subst (λ (l : List BodyAsk). AllCame l) gone.1 all in
      none_came refl (All-pop HasCome (unanswered gone.0 ∷ []) [] (Some (unanswered gone.0)) refl one).1

  import_comes : {call : SetCall} {uploads : List (List ℕ)} {item : Item} {p q : Progress} {bodies : List BodyAsk} {ends : ItemEnd} {events : List Event}
      (takes : TakesImport call uploads item p bodies ends events q) → IsImportObeyed takes → ends ≢ OutOfMemory → is_up p.left ≡ true → q.blamed ≡ no_faults
      → ((done : Done) × (ends ≡ Comes done)) × CameUp (asks_of_import takes) q
  import_comes {q = q} (BodyLost prepares) obeyed there up free = absurd (never_lost prepares (prepares_come prepares obeyed up free).0)
  import_comes {item = item} {q = q} {bodies = bodies} (Taken {mid = mid} steps ends prepares does) obeyed there up free =
      let first = prepares_come prepares obeyed.0 up (unblamed_change mid q (does_blame does) free) in
      let all = items_over does (steps_fit laws.imports prepares) (came_well item ends there) obeyed.1 first.1 free in (
        ended_so item ends all.done all.came_is,
        (
          All-append IsAskedCome (map Body bodies) (asks_of_items does.runs) (All-map (λ (a : Asked). IsAskedCome a) Body bodies first.0) all.come,
          ap is_up (ap (λ (x : Progress). x.left) does.after_is) ∙ all.up,
        ),
      )
  import_comes (NoRoom lacks) obeyed there up free = absurd (there refl)

  imports_come : {call : SetCall} {uploads : List (List ℕ)} {made : Bool} {items : List Item} {p q : Progress} {came : ItemsCame} {events : List Event}
      (imports : DoesImports call uploads made p items came events q) → AreImportsObeyed imports → came ≢ Err OutOfMemory → is_up p.left ≡ true → q.blamed ≡ no_faults
      → ((done : List (Item × Done)) × (came ≡ Ok done)) × CameUp (asks_of_imports imports) q
  imports_come (NoImports here) obeyed there up free = (([], refl), (All-nil IsAskedCome, up))
  imports_come (OutBefore here) obeyed there up free = absurd (there refl)
  imports_come {q = q} (ImportDone {mid = mid} {came = came} item done takes rest) obeyed there up free =
      let first = import_comes takes obeyed.0 (λ is. cc) up (unblamed_change mid q (imports_blame rest) free) in
      let then = imports_come rest obeyed.1 (rest_well (item, done) came there) first.1.1 free in (
        ((item, done) ∷ then.0.0, ap (before_these (item, done)) then.0.1),
        (All-append IsAskedCome (asks_of_import takes) (asks_of_imports rest) first.1.0 then.1.0, then.1.1),
      )
  imports_come {made = made} (ImportEnds item ends not takes) obeyed there up free =
      let so = import_comes takes obeyed (λ is. there (still_out made ends is)) up free in absurd (not so.0.0 so.0.1)

  course_comes : {call : SetCall} {items : List Item} {p q : Progress} {came : ItemsCame} {events : List Event} (does : DoesCourse call items p came events q) → ChecksFit call
      → came ≢ Err OutOfMemory → IsCourseObeyed does → is_up p.left ≡ true → q.blamed ≡ no_faults
      → ((done : List (Item × Done)) × (came ≡ Ok done)) × CameUp (asks_of_course does) q
  course_comes (changing.InRow row does) fit well obeyed up free =
      let all = items_over does fit well obeyed up free in
      ((all.done, all.came_is), (all.come, ap is_up (ap (λ (p : Progress). p.left) does.after_is) ∙ all.up))
  course_comes (changing.OneByOne uploads rules imports) fit well obeyed up free = imports_come imports obeyed well up free

  change_comes : {call : SetCall} {items : List Item} {before after : Progress} {result : Result (List (Item × Done)) MethodError} {events : List Event}
      (h : MailHistory) (does : ChangesMail call items before result events after) → ChecksFit call → IsChangeObeyed does → is_up before.left ≡ true → after.blamed ≡ no_faults
      → AllCome h (asks_of_change does) after
  change_comes {after = after} h (changing.Committed came mid does goes settles stands is) fit obeyed up free =
      let known = settled_known settles stands in
      let all = course_comes does fit (goes_well came goes) obeyed up (sym (settled_blame settles) ∙ free) in
      record {
        come = All-push IsAskedCome (asks_of_course does) (Committed (history_known after.machine.known)) all.1.0 (commit_comes after.machine.known known.0 known.1);
        here = record {
          known = known.0;
          ready = known.1;
          stands = stands;
          up = ap is_up (settled_left settles) ∙ all.1.1;
        };
        moved_on = commit_served h (asks_of_course does) after.machine.known known.0 known.1;
      }
  change_comes h (changing.SpentBy came mid spent doing ending does goes settles why hangs whole is error) fit obeyed up free = absurd obeyed
  change_comes h (changing.FailedInPart mid doing ending does hangs whole is error) fit obeyed up free =
      let all = course_comes does fit (λ same. cc) obeyed up (sym (ap (λ (p : Progress). p.blamed) is) ∙ free) in
      absurd (let never = all.0.1 in cc)

  -- ---- one call

  set_comes : {uploads : List (List ℕ)} {m : SetMethod} {d : Data} {h : MailHistory} {s t : CallsState} {result : Result Data MethodError} {events : List Event}
      (does : DoesChange (item_checks uploads) m d (Ok h) s result events t) → IsSetObeyed does → (here : IsUp s.progress) → t.progress.blamed ≡ no_faults
      → AllCome here.known.history (asks_of does) t.progress
  set_comes (answering.Refused e is result_is no_events same) obeyed here free = none_come (ap (λ (x : CallsState). x.progress) same) here
  set_comes (answering.Untold a e is mail_is result_is no_events same) obeyed here free = none_come (ap (λ (x : CallsState). x.progress) same) here
  set_comes (answering.Asked a h is mail_is (answering.Mismatch current result_is no_events same)) obeyed here free =
      none_come (ap (λ (x : CallsState). x.progress) same) here
  set_comes {m = m} {s = s} (answering.Asked a h is mail_is (answering.Changes items came current items_are does answers)) obeyed here free =
      change_comes here.known.history does (laws.fit _ m a h s.created) obeyed here.up free

  pub bodies_come : {p q : Progress} {bodies : List BodyAsk} {asks : List Asked} {events : List Event} (asked : AsksBodies p bodies events q) → AreAsksObeyed asked
      → asks ≡ map Body bodies → (here : IsUp p) → q.blamed ≡ no_faults → AllCome here.known.history asks q
  bodies_come {p} {q} {bodies} {asks} {events} asked obeyed is here free =
      let all = laws.bodies p q bodies events asked here.up obeyed free in
      let stays = bodies_stay here.known here.ready asked in
      record {
        come = subst (λ (l : List Asked). AllAskedCome l) (sym is) (All-map (λ (a : Asked). IsAskedCome a) Body bodies all);
        here = record { known = stays.known; ready = stays.ready; stands = stays.standing ∙ here.stands; up = bodies_up asked here.up all };
        moved_on =
            stays.history ∙ sym (bodies_served here.known.history bodies) ∙ ap (λ (l : List Asked). served_last here.known.history l) (sym is);
      }

  call_comes : {uses : Using} {uploads : List (List ℕ)} {earlier : List CallData} {call : CallData} {s t : CallsState} {asks : List Asked}
      {result : Result Data MethodError} {events : List Event} (does : DoesCall uses uploads earlier call s asks result events t) → IsCallObeyed does
      → (here : IsUp s.progress) → t.progress.blamed ≡ no_faults → AllCome here.known.history asks t.progress
  call_comes (Reads bodies answers asked is created) obeyed here free = bodies_come asked obeyed is here free
  call_comes {t = t} (Changes m d h named resolved told does is) obeyed here free =
      subst (λ (l : List Asked). AllCome here.known.history l t.progress) (sym is) (set_comes does obeyed here free)

  -- ---- blame, before what came last

  call_unblamed : {uses : Using} {uploads : List (List ℕ)} {earlier : List CallData} {call : CallData} {s t : CallsState} {asks : List Asked}
      {result : Result Data MethodError} {events : List Event} → DoesCall uses uploads earlier call s asks result events t → t.progress.blamed ≡ no_faults
      → s.progress.blamed ≡ no_faults
  call_unblamed does free =
      one_through (λ (p : Progress) (events : List Event) (q : Progress). q.blamed ≡ no_faults → p.blamed ≡ no_faults) (λ p none. none)
      (λ p tried events q asked. unblamed_calls asked)
      (λ call items p result events q changed. unblamed_change p q (laws.blames call items p result events q changed))
      (λ call items p events q lacks. unblamed_change p q (laws.lacks call items p events q lacks)) (λ p q r es fs one two none. one (two none)) does free

  -- ---- calls

  pub calls_come : {uses : Using} {uploads : List (List ℕ)} {s t : CallsState} {calls responses : List CallData} {asks : List Asked} {events : List Event}
      (does : DoesCalls uses uploads s calls asks responses events t) → AreDoneObeyed does → (here : IsUp s.progress) → t.progress.blamed ≡ no_faults
      → AllCome here.known.history asks t.progress
  calls_come NoCalls obeyed here free = none_come refl here
  calls_come (MoreCalls {asks = asks} next rest) obeyed here free =
      let before = calls_come rest obeyed.0 here (call_unblamed next.does free) in
      let now = call_comes next.does obeyed.1 before.here free in
      record {
        come = All-append IsAskedCome asks next.asks before.come now.come;
        here = now.here;
        moved_on = now.moved_on ∙ served_on before.here.known.history here.known.history asks next.asks before.moved_on;
      }
