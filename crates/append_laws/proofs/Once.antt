-- The APPENDs of items, calls, requests and runs: each statement by that of its parts.
use Rattle.std.proofs.Common.{arith, ◌≡◌, ◌≤◌, ◌++◌, ℕ, Bool, List, [], ◌∷◌, Option, Result, Ok, refl, subst, sym}
use Rattle.std.specs.List.{All}
use Rattle.std.proofs.lemmas.List.{map-append}
use Rattle.std.proofs.lemmas.List.Elements.{All-cons, All-head, All-nil, All-same, All-tail}
use Rattle.gate_world.specs.declared.event.Event.{Event}
use Rattle.serde_json.specs.Data.{Data}
use Rattle.jmap_arguments.specs.declared.method_error.MethodError.{MethodError}
use Rattle.jmap_arguments.specs.declared.using.Using.{Using}
use Rattle.mail_state.specs.History.{MailHistory}
use Rattle.result_references.specs.Call.{CallData}
use Rattle.set_arguments.specs.Arguments.{SetAsked}
use Rattle.set_arguments.specs.declared.set_method.SetMethod.{SetMethod}
use Rattle.set_jobs.specs.declared.done.Done.{Done}
use Rattle.set_jobs.specs.declared.job.Job.{Job}
use Rattle.set_order.specs.Ordered.{Item}
use Rattle.set_items.specs.Commands.{IsNotMade, appends_of}
use Rattle.set_items.specs.Talks.{ending_of}
use Rattle.set_items.specs.declared.item.ItemEnd.{ItemEnd}
use Rattle.set_given.specs.Given.{Given}
use Rattle.email_bodies.specs.Asking.{BodyAsk}
use Rattle.set_methods.specs.Checks.{Drawn, Prepares, Rules}
use Rattle.set_calls.specs.Calls.{SetCall, CallState, StepsItem, TakesItem, Refused, Stepped, StopsAt, DoesItems, NoItems, MoreItems, given_at, items_of}
use Rattle.set_calls.specs.Calls.{RunsItems, AllDone, Stopped, Wanting}
use Rattle.gate_machine.specs.Machine.{MachineState}
use Rattle.gate_machine.specs.Progress.{Progress}
use Rattle.gate_changes.specs.Answering as answering
use Rattle.gate_changes.specs.Answering.{ChangeState, ChangesAsked, DoesChange, LacksAsked, LacksAnswer}
use Rattle.gate_changes.specs.Changing as changing
use Rattle.gate_changes.specs.Changing.{ChangesMail, DoesCourse, LacksChange}
use Rattle.gate_changes.specs.Importing.{DoesImports, NoImports, OutBefore, ImportDone, ImportEnds, TakesImport, BodyLost, Taken, NoRoom}
use Rattle.gate_changes.specs.Items.{ItemsCame}
use Rattle.gate_calls.specs.Calling.{Asked, CallsState, DoesCall, Reads, Changes, DoesCalls, NoCalls, MoreCalls, ReadsInVain, ChangesInVain, LacksNext, AfterLast, InCall}
use Rattle.gate_calls.specs.ItemChecks.{item_checks}
use Rattle.gate_calls.specs.Mailings.{Mailing}
use Rattle.gate_serving.specs.declared.door.Door.{Door}
use Rattle.gate_serving.specs.declared.outcomes.ClientOutcome.{ClientOutcome}
use Rattle.gate_serving.specs.Answers.{Answer}
use Rattle.gate_serving.specs.Doing.{Does, Comes, RunsOut}
use Rattle.gate_serving.specs.GateState.{GateState}
use Rattle.gate_serving.specs.Requests as asking
use Rattle.gate_serving.specs.Requests.{Account, Asking}
use Rattle.gate_serving.specs.RequestWork.{RequestWork, NoMail, WithMail}
use Rattle.gate_serving.specs.Run.{Run, Begun, Then}
use Rattle.gate_serving.specs.Segment.{Replies, Answered, LacksReading, LacksAnswering, Segment, NoneComes, NotAccepted, Left, Unasked, Replied}
use Rattle.append_laws.specs.Sent.{SendsAllowed, appends_allowed, appends_sent}
use Rattle.append_laws.specs.Items.{DoneAppendOnce, ItemAppendsOnce, ItemsAppendOnce, LastAppendsOnce}
use Rattle.append_laws.specs.Calls.{AskedAppendsOnce, CallAppendsOnce, CallsAppendOnce, ChangeAppendsOnce, CourseAppendsOnce, ImportAppendsOnce, ImportsAppendOnce, LacksAskedOnce, LacksChangeOnce, LacksNextOnce, LacksSetOnce, SetAppendsOnce}
use Rattle.append_laws.specs.Runs.{DoesAppendOnce, ReplyAppendsOnce, RunAppendsOnce, SegmentAppendsOnce, WorkAppendsOnce}
use Rattle.append_laws.proofs.Sent.{AppendOnce, AreAnswers, sent_most}
use Rattle.append_laws.proofs.Made.{MadeByOne, made}
use Rattle.append_laws.proofs.Jobs.{IsAllowed, JobLaws, allowed, known_allowed}
use Rattle.append_laws.proofs.Created.{created_made}
use Rattle.append_laws.proofs.Lives.{life_appends}

-- what is proved of items
pub record ItemLaws : Type 0 where
  pub once : AppendOnce
  pub answers : AreAnswers
  pub by : MadeByOne
  pub jobs : JobLaws

within : (m n l : ℕ) → m ≤ n → n ≤ l → m ≤ l
within m n l a b = omega (arith, a, b)

-- each job that such an item is by these checks may send what it sends
abbrev Allows : Rules → (Item → Type 0) → Type 0
Allows rules Is = (g : Given) (item : Item) (drawn : Option Drawn) (job : Job) → Is item → Prepares rules g item drawn (Ok job) → IsAllowed rules item job

all_apart : (P : Item → Type 0) (xs ys : List Item) → All P (xs ++ ys) → All P xs × All P ys
all_apart P [] ys all = (All-nil P, all)
all_apart P (x ∷ xs) ys all =
    let rest = all_apart P xs ys (All-tail P x (xs ++ ys) all) in (All-cons P x xs (All-head P x (xs ++ ys) all) rest.0, rest.1)

-- of the items that were done, those before the last one, and it
last_apart : (P : Item → Type 0) (done : List (Item × Done)) (item : Item) (came : Done) → All P (items_of (done ++ (item, came) ∷ [])) → All P (items_of done) × P item
last_apart P done item came all =
    let both = all_apart P (items_of done) (item ∷ []) (All-same P _ _ (sym (map-append (λ (e : Item × Done). e.0) done ((item, came) ∷ []))) all) in
    (both.0, All-head P item [] both.1)

-- any item
abbrev AnyItem : Item → Type 0
AnyItem item = Unit {0}

any_items : (items : List Item) → All AnyItem items
any_items [] = All-nil AnyItem
any_items (x ∷ xs) = All-cons AnyItem x xs tt (any_items xs)

module _ (laws : ItemLaws) where
  -- ---- items

  steps_once : (rules : Rules) {item : Item} {job : Job} {before : CallState} {ends : ItemEnd} {events : List Event} {after : CallState}
      → IsAllowed rules item job → (steps : StepsItem item job before ends events after) → SendsAllowed rules item (ending_of before.exchanges steps.does.runs)
  steps_once rules {item} {job} {before} is steps =
      within (appends_sent (ending_of before.exchanges steps.does.runs)) (appends_of job.steps) (appends_allowed rules item)
      (sent_most laws.once laws.answers before.exchanges steps.does.runs) is.0

  item_once : {c : SetCall} {item : Item} {before : CallState} {done : Done} {events : List Event} {after : CallState}
      {Is : Item → Type 0} → Allows c.rules Is → Is item → (takes : TakesItem c item before done events after) → ItemAppendsOnce takes
  item_once allows so (Refused drawn e is done_is events_are same) = subst (λ (d : Done). IsNotMade d) (sym done_is) tt
  item_once {c} {item} {before} {done} allows so (Stepped drawn job doing is steps events_are) =
      let fits : IsAllowed c.rules item job = allows (given_at c before) item drawn job so is in
      (steps_once c.rules fits steps, made laws.by laws.answers c.rules done steps.does fits.1 fits.2)

  done_once : {c : SetCall} {before : CallState} {done : List (Item × Done)} {events : List Event} {after : CallState}
      {Is : Item → Type 0} → Allows c.rules Is → All Is (items_of done) → (does : DoesItems c before done events after) → DoneAppendOnce does
  done_once allows all NoItems = tt
  done_once {Is = Is} allows all (MoreItems {done = done} next rest) =
      let both = last_apart Is done next.item next.done all in (done_once allows both.0 rest, item_once allows both.1 next.takes)

  last_once : {c : SetCall} {item : Item} {before : CallState} {ends : ItemEnd} {events : List Event} {after : CallState}
      {Is : Item → Type 0} → Allows c.rules Is → Is item → (stops : StopsAt c item before ends events after) → LastAppendsOnce stops
  last_once {c} {item} {before} allows so stops =
      steps_once c.rules (allows (given_at c before) item stops.drawn stops.job so stops.is_prepared) stops.steps

  items_once : {c : SetCall} {items : List Item} {before : CallState} {result : ItemsCame} {events : List Event} {after : CallState}
      {Is : Item → Type 0} → Allows c.rules Is → All Is items → (runs : RunsItems c items before result events after) → ItemsAppendOnce runs
  items_once {Is = Is} allows so (AllDone done does all is) = done_once allows (All-same Is _ _ all so) does
  items_once {Is = Is} allows so (Stopped done item later mid so_far last ends does stops all whole is) =
      let both = all_apart Is (items_of done) (item ∷ later) (All-same Is _ _ all so) in
      (done_once allows both.0 does, last_once allows (All-head Is item later both.1) stops)
  items_once {Is = Is} allows so (Wanting done later so_far drawn does draws all whole is) =
      done_once allows (all_apart Is (items_of done) later (All-same Is _ _ all so)).0 does

  import_once : {call : SetCall} {uploads : List (List ℕ)} {item : Item} {before : Progress} {asks : List BodyAsk} {ends : ItemEnd} {events : List Event} {after : Progress}
      (takes : TakesImport call uploads item before asks ends events after) → ImportAppendsOnce takes
  import_once (BodyLost prepares) = tt
  import_once {item = item} (Taken made ends prepares does) =
      items_once {Is = λ (x : Item). x ≡ item} (known_allowed laws.jobs prepares)
      (All-cons (λ (x : Item). x ≡ item) item [] refl (All-nil (λ (x : Item). x ≡ item))) does.runs
  import_once (NoRoom lacks) = tt

  imports_once : {call : SetCall} {uploads : List (List ℕ)} {made : Bool} {before : Progress} {items : List Item} {came : ItemsCame} {events : List Event} {after : Progress}
      (imports : DoesImports call uploads made before items came events after) → ImportsAppendOnce imports
  imports_once (NoImports here) = tt
  imports_once (OutBefore here) = tt
  imports_once (ImportDone item done takes rest) = (import_once takes, imports_once rest)
  imports_once (ImportEnds item ends not takes) = import_once takes

  course_once : {call : SetCall} {items : List Item} {before : Progress} {came : ItemsCame} {events : List Event} {after : Progress}
      → Allows call.rules AnyItem → (does : DoesCourse call items before came events after) → CourseAppendsOnce does
  course_once {items = items} allows (changing.InRow row does) = items_once {Is = AnyItem} allows (any_items items) does.runs
  course_once allows (changing.OneByOne uploads rules imports) = imports_once imports

  -- ---- calls

  change_once : {call : SetCall} {items : List Item} {before : Progress} {result : Result (List (Item × Done)) MethodError} {events : List Event} {after : Progress}
      → Allows call.rules AnyItem → (changes : ChangesMail call items before result events after) → ChangeAppendsOnce changes
  change_once allows (changing.Committed came mid does goes settles stands is) = course_once allows does
  change_once allows (changing.SpentBy came mid spent doing ending does goes settles is hangs whole after_is result_is) = course_once allows does
  change_once allows (changing.FailedInPart mid doing ending does hangs whole after_is is) = course_once allows does

  lacks_change : {call : SetCall} {items : List Item} {before : Progress} {events : List Event} {after : Progress} → Allows call.rules AnyItem
      → (lacks : LacksChange call items before events after) → LacksChangeOnce lacks
  lacks_change allows (changing.InItems mid does is) = course_once allows does
  lacks_change allows (changing.InCommit came mid does goes settles stands) = course_once allows does

  any_allowed : (uploads : List (List ℕ)) (m : SetMethod) (a : SetAsked) → Allows (item_checks uploads m a) AnyItem
  any_allowed uploads m a g item drawn job any is = allowed laws.jobs uploads m a g item drawn job is

  asked_once : {uploads : List (List ℕ)} {m : SetMethod} {a : SetAsked} {h : MailHistory} {before : ChangeState} {result : Result Data MethodError} {events : List Event}
      {after : ChangeState} (asked : ChangesAsked (item_checks uploads) m a h before result events after) → AskedAppendsOnce asked
  asked_once (answering.Mismatch is result_is none same) = tt
  asked_once {uploads} {m} {a} (answering.Changes items came is items_are changes answers) = (change_once (any_allowed uploads m a) changes, created_made answers)

  lacks_asked : {uploads : List (List ℕ)} {m : SetMethod} {a : SetAsked} {h : MailHistory} {before : ChangeState} {events : List Event} {after : Progress}
      (lacks : LacksAsked (item_checks uploads) m a h before events after) → LacksAskedOnce lacks
  lacks_asked (answering.BeforeItems none same) = tt
  lacks_asked {uploads} {m} {a} (answering.Meanwhile items is items_are lacks) = lacks_change (any_allowed uploads m a) lacks
  lacks_asked {uploads} {m} {a} (answering.Unanswered items came is items_are changes) = change_once (any_allowed uploads m a) changes

  set_once : {uploads : List (List ℕ)} {m : SetMethod} {d : Data} {mail : Mailing} {before : ChangeState} {result : Result Data MethodError} {events : List Event}
      {after : ChangeState} (does : DoesChange (item_checks uploads) m d mail before result events after) → SetAppendsOnce does
  set_once (answering.Refused e is result_is none same) = tt
  set_once (answering.Untold a e is mail_is result_is none same) = tt
  set_once (answering.Asked a h is mail_is changes) = asked_once changes

  lacks_set : {uploads : List (List ℕ)} {m : SetMethod} {d : Data} {mail : Mailing} {before : ChangeState} {events : List Event} {after : Progress}
      (lacks : LacksAnswer (item_checks uploads) m d mail before events after) → LacksSetOnce lacks
  lacks_set (answering.Unread none same) = tt
  lacks_set (answering.LacksIn a h is mail_is lacks) = lacks_asked lacks

  call_once : {uses : Using} {uploads : List (List ℕ)} {earlier : List CallData} {call : CallData} {before : CallsState} {asks : List Asked}
      {result : Result Data MethodError} {events : List Event} {after : CallsState} (does : DoesCall uses uploads earlier call before asks result events after)
      → CallAppendsOnce does
  call_once (Reads bodies answers asked asks_are created) = tt
  call_once (Changes m d h named is told does asks_are) = set_once does

  calls_once : {uses : Using} {uploads : List (List ℕ)} {before : CallsState} {calls : List CallData} {asks : List Asked} {responses : List CallData}
      {events : List Event} {after : CallsState} (does : DoesCalls uses uploads before calls asks responses events after) → CallsAppendOnce does
  calls_once NoCalls = tt
  calls_once (MoreCalls next rest) = (calls_once rest, call_once next.does)

  lacks_next : {uses : Using} {uploads : List (List ℕ)} {earlier later : List CallData} {before : CallsState} {events : List Event} {after : Progress}
      (lacks : LacksNext uses uploads earlier before events after later) → LacksNextOnce lacks
  lacks_next (AfterLast none same) = tt
  lacks_next (InCall (ReadsInVain tried asked due)) = tt
  lacks_next (InCall (ChangesInVain m d h named is told lacks)) = lacks_set lacks

  -- ---- clients

  does_once : {account : Account} {uploads : List (List ℕ)} (for : Asking) {before : Progress} {events : List Event} {after : Progress} {came : Option Answer}
      (does : Does account uploads for before events after came) → DoesAppendOnce for does
  does_once (asking.Calls request) (Comes asks answer does) = calls_once does.does
  does_once (asking.Calls request) (RunsOut lacks) = (calls_once lacks.does, lacks_next lacks.lacks)
  does_once (asking.Problem e) does = tt
  does_once asking.Session does = tt
  does_once (asking.Upload media octets) does = tt
  does_once (asking.Download blob media) does = tt
  does_once (asking.Refused refusal) does = tt

  work_once : {account : Account} {uploads : List (List ℕ)} {before : MachineState} {for : Asking} {events : List Event} {came : Option Answer} {after : Progress}
      (work : RequestWork account uploads before for events came after) → WorkAppendsOnce work
  work_once {for = for} (NoMail apart does none is) = does_once for does
  work_once {for = for} (WithMail needs work) = (does_once for work.does, life_appends work)

  reply_once : {door : Door} {account : Account} {before after : GateState} {events : List Event} {text : List ℕ}
      (replies : Replies door account before events text after) → ReplyAppendsOnce replies
  reply_once (Answered a) = work_once a.work
  reply_once (LacksReading reads text_is is) = tt
  reply_once (LacksAnswering a) = work_once a.work

  pub segment_once : (door : Door) (account : Account) (before : GateState) (events : List Event) (how : ClientOutcome) (after : GateState)
      (segment : Segment door account before events how after) → SegmentAppendsOnce segment
  segment_once door account before events how after (NoneComes is how_is same) = tt
  segment_once door account before events how after (NotAccepted is how_is same) = tt
  segment_once door account before events how after (Left asked is reads how_is same) = tt
  segment_once door account before events how after (Unasked asked is reads how_is same) = tt
  segment_once door account before events how after (Replied a) = reply_once a.replies

-- what is proved of each client
abbrev pub ClientsLaw : Type 0
ClientsLaw = (door : Door) (account : Account) (before : GateState) (events : List Event) (how : ClientOutcome) (after : GateState)
    (segment : Segment door account before events how after) → SegmentAppendsOnce segment

pub run_once : ClientsLaw → {door : Door} {account : Account} {before after : GateState} {events : List Event} {went : List ClientOutcome}
    (run : Run door account before events went after) → RunAppendsOnce run
run_once law Begun = tt
run_once law {door} {account} (Then next run) = (run_once law run, law door account next.before next.events next.how next.after next.segment)
