-- What the code's call stands for, over what a request has come to, and what it comes to.
use Rattle.std.specs.Prelude.{◌≡◌, List, Some, Result, Ok, Err, Vec, map}
use Rattle.std.specs.declared.alloc.Global.{Global}
use Rattle.gate_world.specs.Causes.{Faults}
use Rattle.gate_world.specs.declared.event.Event.{Event}
use Rattle.imap_client.specs.LinkLife.{LinkLife, ClientState}
use Rattle.gate_machine.specs.History.{KnownMail}
use Rattle.gate_machine.specs.Progress.{Bears, CameTo, Progress, StandsInLife}
use Rattle.gate_machine.specs.declared.machine.Machine.{Machine}
use Rattle.gate_machine.specs.declared.mail_status.MailStatus.{MailStatus}
use Rattle.gate_machine.specs.declared.mail_status.MailStatus.TheVariants.{Stands}
use Rattle.set_jobs.specs.declared.done.Done.{Done}
use Rattle.set_order.specs.Ordered as spec
use Rattle.set_order.specs.declared.item.Item.{Item}
use Rattle.set_calls.specs.Calls.{SetCall}
use Rattle.set_calls.specs.declared.call.CallEnd.{CallEnd}
use Rattle.set_calls.specs.declared.call.CallEnd.TheVariants as ends
use Rattle.set_calls.specs.reading.Calling.{came_data, done_data}
use Rattle.set_methods.specs.Checks.{ImportRules, Rules}
use Rattle.set_methods.specs.reading.Choosing.{rules_of}
use Rattle.gate_changes.specs.Changing.{ChangesMail, DoesCourse, LacksChange}
use Rattle.gate_changes.specs.declared.changing.CallChecks.{CallChecks}
use Rattle.gate_changes.specs.declared.changing.CallChecks.TheVariants.{Set, Import}

-- whose checks the items of a call have to pass
abbrev pub call_rules : CallChecks → Rules
call_rules (Set checks) = rules_of checks
call_rules (Import uploads) = ImportRules uploads.now

-- where memory ran out the machine isn't held: the client stands in what is left of the life, and the counts bear what is blamed
pub record IsLeft (mid : Progress) (client : ClientState) (was now : Faults) : Type 0 where
  pub in_life : StandsInLife mid.left client
  pub bears : Bears mid.blamed was now

-- the code is where its items ended
abbrev pub IsAtEnd : Result (Vec (Item × Done) Global) CallEnd → Machine → ClientState → Faults → Faults → Progress → Type 0
IsAtEnd (Err ends.Memory) machine client was now mid = IsLeft mid client was now
IsAtEnd came machine client was now mid = CameTo machine client Stands was now mid

-- the call is over the history that is served, in what is left of the request's link life
pub record IsOver (call : SetCall) (before : Progress) : Type 0 where
  pub known : KnownMail
  pub life : LinkLife
  pub ready : before.machine.known ≡ Some known
  pub in_life : before.left ≡ Some life
  pub served : call.history ≡ known.history

-- what the code's call came to
abbrev pub ChangeCame : SetCall → List spec.Item → Progress → Result (Vec (Item × Done) Global) CallEnd → List Event → Progress → Type 0
ChangeCame call items before (Ok done) events after = ChangesMail call items before (Ok (map done_data done.items)) events after
ChangeCame call items before (Err (ends.Fails e)) events after = ChangesMail call items before (Err e) events after
ChangeCame call items before (Err ends.Memory) events after = LacksChange call items before events after

-- The call came to this from there, and the code to where that is.
pub record ChangesTo (call : SetCall) (items : List spec.Item) (before : Progress) (came : Result (Vec (Item × Done) Global) CallEnd) (machine : Machine)
    (client : ClientState) (how : MailStatus) (was now : Faults) (events : List Event) : Type 0 where
  pub after : Progress
  pub changes : ChangeCame call items before came events after
  pub at : CameTo machine client how was now after

-- The items of the call were done from there, and the code is where that is.
pub record CourseCame (call : SetCall) (items : List spec.Item) (before : Progress) (came : Result (Vec (Item × Done) Global) CallEnd) (machine : Machine)
    (client : ClientState) (was now : Faults) (events : List Event) : Type 0 where
  pub mid : Progress
  pub does : DoesCourse call items before (came_data came) events mid
  pub at : IsAtEnd came machine client was now mid
