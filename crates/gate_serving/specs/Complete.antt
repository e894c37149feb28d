-- What a client is owed of whom nothing fails.
use Rattle.std.specs.Prelude.{◌≡◌, ◌⊎◌, ◌++◌, ℕ, false, List, [], ◌∷◌, fold, Option, Some, Ok, Err}
use Rattle.gate_world.specs.Causes.{no_faults}
use Rattle.gate_world.specs.Octets.{Hears}
use Rattle.gate_world.specs.declared.event.Event.{Event}
use Rattle.gate_world.specs.declared.event.Event.TheVariants.{Accepted, NoMore, ClientDone}
use Rattle.http_requests.specs.declared.asking.AskError.TheVariants as unread
use Rattle.mail_state.specs.History.{MailHistory}
use Rattle.gate_machine.specs.Beginning.{PreparesMail}
use Rattle.gate_machine.specs.History.{KnownMail}
use Rattle.gate_machine.specs.Obeying.{AreAsksObeyed, IsObeyedBeginning}
use Rattle.gate_machine.specs.Progress.{Progress}
use Rattle.gate_machine.specs.Machine.{MachineState}
use Rattle.gate_calls.specs.Calling.{AllAskedCome, AreDoneObeyed, Asked, Committed}
use Rattle.gate_calls.specs.Mailings.{mail_at}
use Rattle.gate_serving.specs.declared.door.Door.{Door}
use Rattle.gate_serving.specs.declared.outcomes.ClientOutcome.{ClientOutcome}
use Rattle.gate_serving.specs.declared.outcomes.ClientOutcome.TheVariants as served
use Rattle.gate_serving.specs.Answers.{Answer, no_memory_text, spelled}
use Rattle.gate_serving.specs.Doing.{Answers, Does, Comes}
use Rattle.gate_serving.specs.GateState.{GateState}
use Rattle.gate_serving.specs.Requests.{Account, Asking, Calls, Download, ReadsAsking, asks_for_mail}
use Rattle.gate_serving.specs.Run.{Run, Begun, Then}
use Rattle.gate_serving.specs.Segment.{Replies, Answered, LacksReading, LacksAnswering, Segment, NoneComes, NotAccepted, Left, Unasked, Replied, blamed}
use Rattle.gate_serving.specs.RequestWork.{RequestWork, NoMail, WithMail}

-- ---- a request

-- The store obeyed what is asked of it for an answer.
abbrev pub IsDoneObeyed : {account : Account} {uploads : List (List ℕ)} (asking : Asking) {before : Progress} {events : List Event} {after : Progress}
    {came : Option Answer} → Does account uploads asking before events after came → Type 0
IsDoneObeyed (Calls request) (Comes asks answer does) = AreDoneObeyed does.does
IsDoneObeyed (Download blob media) (Comes asks answer does) = AreAsksObeyed does.asked
IsDoneObeyed asking does = Unit {0}

-- The store obeyed all that a request asks of it, where it asks anything.
abbrev pub IsWorkObeyed : {account : Account} {uploads : List (List ℕ)} {before : MachineState} {asking : Asking} {events : List Event}
    {came : Option Answer} {after : Progress} → RequestWork account uploads before asking events came after → Type 0
IsWorkObeyed (NoMail a does b c) = Unit {0}
IsWorkObeyed {asking = asking} (WithMail a work) = IsObeyedBeginning work.prepares × IsDoneObeyed asking work.does

-- the history that is served after something that was asked: the one that a commit moved on to
abbrev pub served_by : MailHistory → Asked → MailHistory
served_by h (Committed (Some next)) = next
served_by h _ = h

-- after all of these, in order
abbrev pub served_last : MailHistory → List Asked → MailHistory
served_last h asks = fold served_by h asks

-- The answer begins over the mail that is served once it is prepared; all comes that is asked for it, and what its commits moved on to is served after it.
pub record IsFromMail (account : Account) (beginning : List Event) (begun : Progress) (asks : List Asked) (after : Progress) : Type 0 where
  pub before : MachineState
  pub history : MailHistory
  pub known : KnownMail
  pub prepares : PreparesMail account.user account.password before beginning begun
  pub served : mail_at begun ≡ Ok history
  pub come : AllAskedCome asks
  pub ready : after.machine.known ≡ Some known
  pub moved_on : known.history ≡ served_last history asks

-- What is asked is answered from the mail, in this work; or it needs no mail.
pub record IsAnsweredFrom (account : Account) (uploads : List (List ℕ)) (asking : Asking) (answer : Answer) (worked : List Event) (after : Progress)
    : Type 0 where
  pub begun : Progress
  pub answered : Progress
  pub asks : List Asked
  pub beginning : List Event
  pub doing : List Event
  pub ending : List Event
  pub whole : worked ≡ beginning ++ (doing ++ ending)
  pub answers : Answers account uploads asking begun asks doing answer answered
  pub machine_is : after.machine ≡ answered.machine
  pub from : ((asks_for_mail asking ≡ false) × (asks ≡ [])) ⊎ IsFromMail account beginning begun asks after

-- ---- a client

-- The store obeyed all that the client's request asks of it.
abbrev pub IsReplyObeyed : {door : Door} {account : Account} {before : GateState} {events : List Event} {text : List ℕ} {after : GateState}
    → Replies door account before events text after → Type 0
IsReplyObeyed (Answered a) = IsWorkObeyed a.work
IsReplyObeyed (LacksReading a b c) = Unit {0}
IsReplyObeyed (LacksAnswering a) = Unit {0}

abbrev pub IsSegmentObeyed : {door : Door} {account : Account} {before : GateState} {events : List Event} {how : ClientOutcome} {after : GateState}
    → Segment door account before events how after → Type 0
IsSegmentObeyed (NoneComes a b c) = Unit {0}
IsSegmentObeyed (NotAccepted a b c) = Unit {0}
IsSegmentObeyed (Left asked a b c d) = Unit {0}
IsSegmentObeyed (Unasked asked a b c d) = Unit {0}
IsSegmentObeyed (Replied a) = IsReplyObeyed a.replies

-- The client takes the whole answer to what it asked, from the mail that is served as its first call begins, and from what its calls change.
pub record TakesResponse (door : Door) (account : Account) (events : List Event) (after : GateState) : Type 0 where
  pub asked : List Event
  pub worked : List Event
  pub heard : List Event
  pub asking : Asking
  pub answer : Answer
  pub done : Progress
  pub whole : events ≡ Accepted ∷ (((asked ++ worked) ++ heard) ++ ClientDone ∷ [])
  pub reads : ReadsAsking door account.token (Ok asking) asked
  pub answered : IsAnsweredFrom account after.uploads asking answer worked done
  pub machine_is : after.machine ≡ done.machine
  pub hears : Hears (spelled door answer) heard

-- What comes of a client of whom nothing fails: it takes the whole response; or memory ran out, and it takes the text of that;
-- or it ended its input inside its request; or no client comes.
pub data IsClientTold (door : Door) (account : Account) (events : List Event) (how : ClientOutcome) (after : GateState) : Type 0 where
  NobodyComes : events ≡ NoMore ∷ [] → how ≡ served.NoMore → IsClientTold door account events how after
  EndsEarly : (asked : List Event) → events ≡ Accepted ∷ (asked ++ ClientDone ∷ []) → ReadsAsking door account.token (Err unread.Ended) asked
      → how ≡ served.Part
      → IsClientTold door account events how after
  IsAnswered : TakesResponse door account events after → how ≡ served.Whole → IsClientTold door account events how after
  LacksMemory : (replied heard : List Event) → events ≡ Accepted ∷ ((replied ++ heard) ++ ClientDone ∷ []) → Hears (no_memory_text door) heard
      → how ≡ served.Whole → IsClientTold door account events how after

-- ---- a run

-- What comes of each client of a run of whom nothing fails and for whom the store obeyed, whatever comes of the others.
abbrev pub IsRunTold : {door : Door} {account : Account} {before after : GateState} {events : List Event} {went : List ClientOutcome}
    → Run door account before events went after → Type 0
IsRunTold Begun = Unit {0}
IsRunTold {door} {account} (Then next run) =
    IsRunTold run × (IsSegmentObeyed next.segment → blamed next.segment ≡ no_faults → IsClientTold door account next.events next.how next.after)

-- Each client of a run for whom the store obeyed is told.
abbrev pub AreObeyedTold : {door : Door} {account : Account} {before after : GateState} {events : List Event} {went : List ClientOutcome}
    → Run door account before events went after → Type 0
AreObeyedTold Begun = Unit {0}
AreObeyedTold {door} {account} (Then next run) =
    AreObeyedTold run × (IsSegmentObeyed next.segment → IsClientTold door account next.events next.how next.after)

-- Each such client of a run of these events is told, of whom nothing fails.
abbrev pub CompletesRun : Door → Account → List Event → Type 0
CompletesRun door account events = (before after : GateState) (went : List ClientOutcome) (run : Run door account before events went after) → IsRunTold run
