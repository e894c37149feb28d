-- The bodies that fetches told for the clients of a run.
use Rattle.std.specs.Prelude.{◌⊎◌, ℕ, List, Option}
use Rattle.gate_world.specs.declared.event.Event.{Event}
use Rattle.gate_calls.specs.ToldBodies.{DoneTell, LacksTells}
use Rattle.gate_machine.specs.KeptBodies.{CallsTell, TellBody}
use Rattle.gate_machine.specs.Machine.{MachineState}
use Rattle.gate_machine.specs.Progress.{Progress}
use Rattle.gate_serving.specs.declared.door.Door.{Door}
use Rattle.gate_serving.specs.declared.outcomes.ClientOutcome.{ClientOutcome}
use Rattle.gate_serving.specs.Answers.{Answer}
use Rattle.gate_serving.specs.Doing.{Does, Comes, RunsOut}
use Rattle.gate_serving.specs.GateState.{GateState}
use Rattle.gate_serving.specs.Requests.{Account, Asking, Calls, Download}
use Rattle.gate_serving.specs.Run.{Run, Begun, Then}
use Rattle.gate_serving.specs.Segment.{Replies, Answered, LacksReading, LacksAnswering, Segment, NoneComes, NotAccepted, Left, Unasked, Replied}
use Rattle.gate_serving.specs.RequestWork.{RequestWork, NoMail, WithMail}

-- a fetch for what is asked told these octets as the body of this Email
abbrev pub DoesTell : {account : Account} {uploads : List (List ℕ)} (asking : Asking) {before : Progress} {events : List Event} {after : Progress}
    {came : Option Answer} → Does account uploads asking before events after came → ℕ × List ℕ → Type 0
DoesTell (Calls request) (Comes asks answer does) body = DoneTell does.does body
DoesTell (Calls request) (RunsOut lacks) body = DoneTell lacks.does body ⊎ LacksTells lacks.lacks body
DoesTell (Download blob media) (Comes asks answer does) body = TellBody does.asked body
DoesTell (Download blob media) (RunsOut lacks) body = CallsTell lacks.asked body
DoesTell asking does body = ⊥

-- one for the request did
abbrev pub WorkTells : {account : Account} {uploads : List (List ℕ)} {before : MachineState} {asking : Asking} {events : List Event}
    {came : Option Answer} {after : Progress} → RequestWork account uploads before asking events came after → ℕ × List ℕ → Type 0
WorkTells (NoMail a does b c) body = ⊥
WorkTells {asking = asking} (WithMail a work) body = DoesTell asking work.does body

-- the same of one client
abbrev pub ReplyTells : {door : Door} {account : Account} {before : GateState} {events : List Event} {text : List ℕ} {after : GateState}
    → Replies door account before events text after → ℕ × List ℕ → Type 0
ReplyTells (Answered a) body = WorkTells a.work body
ReplyTells (LacksReading a b c) body = ⊥
ReplyTells (LacksAnswering a) body = WorkTells a.work body

abbrev pub SegmentTells : {door : Door} {account : Account} {before : GateState} {events : List Event} {how : ClientOutcome} {after : GateState}
    → Segment door account before events how after → ℕ × List ℕ → Type 0
SegmentTells (NoneComes a b c) body = ⊥
SegmentTells (NotAccepted a b c) body = ⊥
SegmentTells (Left asked a b c d) body = ⊥
SegmentTells (Unasked asked a b c d) body = ⊥
SegmentTells (Replied a) body = ReplyTells a.replies body

-- the same of one of the clients of a run
abbrev pub RunTells : {door : Door} {account : Account} {before after : GateState} {events : List Event} {went : List ClientOutcome}
    → Run door account before events went after → ℕ × List ℕ → Type 0
RunTells Begun body = ⊥
RunTells (Then next run) body = RunTells run body ⊎ SegmentTells next.segment body
