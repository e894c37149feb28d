-- The APPENDs for clients, one after another.
use Rattle.std.specs.Prelude.{ℕ, List, Option}
use Rattle.gate_world.specs.declared.event.Event.{Event}
use Rattle.gate_machine.specs.Machine.{MachineState}
use Rattle.gate_machine.specs.Progress.{Progress}
use Rattle.gate_serving.specs.declared.door.Door.{Door}
use Rattle.gate_serving.specs.declared.outcomes.ClientOutcome.{ClientOutcome}
use Rattle.gate_serving.specs.Answers.{Answer}
use Rattle.gate_serving.specs.Doing.{Does, Comes, RunsOut}
use Rattle.gate_serving.specs.GateState.{GateState}
use Rattle.gate_serving.specs.Requests.{Account, Asking, Calls}
use Rattle.gate_serving.specs.RequestWork.{RequestWork, NoMail, WithMail}
use Rattle.gate_serving.specs.Run.{Run, Begun, Then}
use Rattle.gate_serving.specs.Segment.{Replies, Answered, LacksReading, LacksAnswering, Segment, NoneComes, NotAccepted, Left, Unasked, Replied}
use Rattle.append_laws.specs.Calls.{CallsAppendOnce, LacksNextOnce}
use Rattle.append_laws.specs.Lives.{LifeAppendsForItems}

-- what is asked: calls alone have items
abbrev pub DoesAppendOnce : {account : Account} {uploads : List (List ℕ)} (asking : Asking) {before : Progress} {events : List Event} {after : Progress}
    {came : Option Answer} → Does account uploads asking before events after came → Type 0
DoesAppendOnce (Calls request) (Comes asks answer does) = CallsAppendOnce does.does
DoesAppendOnce (Calls request) (RunsOut lacks) = CallsAppendOnce lacks.does × LacksNextOnce lacks.lacks
DoesAppendOnce asking does = Unit {0}

abbrev pub WorkAppendsOnce : {account : Account} {uploads : List (List ℕ)} {before : MachineState} {asking : Asking} {events : List Event}
    {came : Option Answer} {after : Progress} → RequestWork account uploads before asking events came after → Type 0
WorkAppendsOnce {asking = asking} (NoMail a does b c) = DoesAppendOnce asking does
WorkAppendsOnce {asking = asking} (WithMail a work) = DoesAppendOnce asking work.does × LifeAppendsForItems work

-- one client
abbrev pub ReplyAppendsOnce : {door : Door} {account : Account} {before : GateState} {events : List Event} {text : List ℕ} {after : GateState}
    → Replies door account before events text after → Type 0
ReplyAppendsOnce (Answered a) = WorkAppendsOnce a.work
ReplyAppendsOnce (LacksReading a b c) = Unit {0}
ReplyAppendsOnce (LacksAnswering a) = WorkAppendsOnce a.work

abbrev pub SegmentAppendsOnce : {door : Door} {account : Account} {before : GateState} {events : List Event} {how : ClientOutcome} {after : GateState}
    → Segment door account before events how after → Type 0
SegmentAppendsOnce (NoneComes a b c) = Unit {0}
SegmentAppendsOnce (NotAccepted a b c) = Unit {0}
SegmentAppendsOnce (Left asked a b c d) = Unit {0}
SegmentAppendsOnce (Unasked asked a b c d) = Unit {0}
SegmentAppendsOnce (Replied a) = ReplyAppendsOnce a.replies

-- each client of a run
abbrev pub RunAppendsOnce : {door : Door} {account : Account} {before after : GateState} {events : List Event} {went : List ClientOutcome}
    → Run door account before events went after → Type 0
RunAppendsOnce Begun = Unit {0}
RunAppendsOnce (Then next run) = RunAppendsOnce run × SegmentAppendsOnce next.segment
