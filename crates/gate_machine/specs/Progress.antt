-- How far the work on a request is.
use Rattle.std.specs.Prelude.{◌≡◌, ◌+◌, ℕ, Bool, false, Option, Some, None, Result, Ok, Err}
use Rattle.gate_world.specs.Causes.{Faults, no_faults, RoseBy}
use Rattle.imap_exchange.specs.declared.link_end.LinkEnd.{LinkEnd}
use Rattle.imap_exchange.specs.declared.link_end.LinkEnd.TheVariants as end
use Rattle.imap_client.specs.LinkLife.{LinkLife, ClientState, Stands}
use Rattle.gate_machine.specs.Holding.{HoldsMachine, unready}
use Rattle.gate_machine.specs.Machine.{MachineState, forgotten}
use Rattle.gate_machine.specs.declared.machine.Machine.{Machine}
use Rattle.gate_machine.specs.declared.mail_status.MailFailure.TheVariants as failure
use Rattle.gate_machine.specs.declared.mail_status.MailStatus.{MailStatus}
use Rattle.gate_machine.specs.declared.mail_status.MailStatus.TheVariants as standing

-- The machine; whether all that was begun stands; the link life as it was left, where there was one; and the faults that are
-- blamed.
pub record Progress : Type 0 where
  pub machine : MachineState
  pub standing : MailStatus
  pub left : Option LinkLife
  pub blamed : Faults

-- no work is done
abbrev pub idle : MachineState → Progress
idle m = record { machine = m; standing = standing.Stands; left = None; blamed = no_faults }

-- out of memory: the machine isn't ready, and no more is done
abbrev pub out_of_memory : Progress → Progress
out_of_memory p = record p { machine = forgotten p.machine; standing = standing.OutOfMemory }

-- whether the link is up
abbrev pub is_up : Option LinkLife → Bool
is_up None = false
is_up (Some life) = life.goes_on

-- ---- what the end of a call over the link does

abbrev pub standing_by : Result (Unit {0}) LinkEnd → MailStatus
standing_by (Ok _) = standing.Stands
standing_by (Err end.Memory) = standing.OutOfMemory
standing_by (Err e) = standing.Unserved (failure.Linked e)

abbrev pub machine_by : Result (Unit {0}) LinkEnd → MachineState → MachineState
machine_by (Err end.Memory) m = forgotten m
machine_by _ m = m

-- how many faults of the link are blamed; of memory nothing is
abbrev pub lost_by : Result (Unit {0}) LinkEnd → ℕ
lost_by (Err end.Lost) = 1
lost_by _ = 0

abbrev pub blame_link : ℕ → Faults → Faults
blame_link n f = record f { link = f.link + n }

abbrev pub ended_after : Result (Unit {0}) LinkEnd → Progress → Progress
ended_after result p = record {
  machine = machine_by result p.machine;
  standing = standing_by result;
  left = p.left;
  blamed = blame_link
      (lost_by result) p.blamed;
}

-- each count rose by the faults that are blamed
pub record Bears (blames was now : Faults) : Type 0 where
  pub link : RoseBy blames.link was.link now.link
  pub keep : RoseBy blames.keep was.keep now.keep
  pub front : RoseBy blames.front was.front now.front
  pub say : RoseBy blames.say was.say now.say

-- ---- the code's state

-- the client stands in the life
abbrev pub StandsInLife : Option LinkLife → ClientState → Type 0
StandsInLife (Some life) client = Stands client life
StandsInLife None client = client.alive ≡ false

-- the code's machine after such an end
abbrev pub kept_by : Result (Unit {0}) LinkEnd → Machine → Machine
kept_by (Err end.Memory) kept = unready kept
kept_by _ kept = kept

-- The work came so far: by the machine that is held and the client that there are now, and by the counts of faults since it began.
pub record CameTo (machine : Machine) (client : ClientState) (how : MailStatus) (was now : Faults) (p : Progress) : Type 0 where
  pub held : HoldsMachine p.machine machine
  pub standing_is : p.standing ≡ how
  pub in_life : StandsInLife p.left client
  pub bears : Bears p.blamed was now
