-- From a request that needs the mail to the mail that is served: the machine is ready, the request's one link life begins,
-- the round asks for all mail, and what it told is served from then on.
use Rattle.std.specs.Prelude.{◌≡◌, ◌≢◌, ◌⊎◌, ◌++◌, ℕ, true, List, [], ◌∷◌, Option, Some, None, Result, Ok, Err}
use Rattle.std.specs.declared.alloc.AllocError.{AllocError}
use Rattle.gate_world.specs.Causes.{Faults}
use Rattle.gate_world.specs.declared.event.Event.{Event}
use Rattle.gate_world.specs.declared.event.Event.TheVariants.{Word}
use Rattle.told_mail.specs.Mail.{SameMail}
use Rattle.told_mail.specs.Told.{Told}
use Rattle.mail_state.specs.History.{MailHistory, HasRoom}
use Rattle.imap_exchange.specs.declared.link_end.LinkEnd.{LinkEnd}
use Rattle.imap_client.specs.Connecting.{Connects}
use Rattle.imap_client.specs.LinkLife.{LinkLife, ClientState}
use Rattle.imap_client.specs.Rounds.{KeepsCount, Rounds}
use Rattle.gate_machine.specs.History.{KnownMail, IsNewMail, IsSpent, GoesOnTo, served_anew}
use Rattle.gate_machine.specs.Holding.{HoldsMachine}
use Rattle.gate_machine.specs.Machine.{MachineState, opened, hearing, committed, forgotten}
use Rattle.gate_machine.specs.Progress.{Progress, CameTo, idle, ended_after, out_of_memory}
use Rattle.gate_machine.specs.declared.machine.Machine.{Machine}
use Rattle.gate_machine.specs.declared.mail_status.MailFailure.TheVariants.{Spent}
use Rattle.gate_machine.specs.declared.mail_status.MailStatus.{MailStatus}
use Rattle.gate_machine.specs.declared.mail_status.MailStatus.TheVariants.{Stands, Unserved}

-- A machine that isn't ready draws an epoch, and begins with no mail; or there is no memory for that.
pub data Readies (before : MachineState) (events : List Event) (after : Progress) : Type 0 where
  Ready : (k : KnownMail) → before.known ≡ Some k → events ≡ [] → after ≡ idle before → Readies before events after
  Restart : (epoch : ℕ) → before.known ≡ None → events ≡ Word epoch ∷ [] → after ≡ idle (opened epoch) → Readies before events after
  LacksRoom : (epoch : ℕ) → before.known ≡ None → events ≡ Word epoch ∷ [] → after ≡ out_of_memory (idle before) → Readies before events after

-- a step that is passed over, as what was begun doesn't stand
abbrev pub Skips : Progress → List Event → Progress → Type 0
Skips before events after = (before.standing ≢ Stands) × (events ≡ []) × (after ≡ before)

-- the request's one link life begins
pub record Dials (user password : List ℕ) (before : Progress) (events : List Event) (after : Progress) : Type 0 where
  pub client : ClientState
  pub left : Option LinkLife
  pub result : Result (Unit {0}) LinkEnd
  pub stands : before.standing ≡ Stands
  pub connects : Connects user password left client result events
  pub after_is : after ≡ ended_after result (record before { left = left })

-- The round asks for all mail in that life. The machine is told each exchange that is completed, and counts no change where each
-- told what was known already.
pub record RunsRound (before : Progress) (events : List Event) (after : Progress) : Type 0 where
  pub known : KnownMail
  pub told : Told
  pub life : LinkLife
  pub left : LinkLife
  pub client : ClientState
  pub result : Result (Unit {0}) LinkEnd
  pub stands : before.standing ≡ Stands
  pub ready : before.machine.known ≡ Some known
  pub in_life : before.left ≡ Some life
  pub goes_on : life.goes_on ≡ true
  pub rounds : Rounds known.told.mail told.mail life left client result events
  pub counted : KeepsCount known.told told result rounds.exchanges
  pub after_is : after ≡ ended_after result (record before { machine = hearing before.machine known told; left = Some left })

-- what was begun stands, and new mail was told
pub record HasNewMail (before : Progress) : Type 0 where
  pub known : KnownMail
  pub stands : before.standing ≡ Stands
  pub ready : before.machine.known ≡ Some known
  pub is_new : IsNewMail known

-- The told mail is served: where it is new, the history goes on to it. Where a place would pass the last one, or there is no memory
-- for it, the machine isn't ready.
pub data Settles (before : Progress) (events : List Event) (after : Progress) : Type 0 where
  Same : (k : KnownMail) → before.standing ≡ Stands → before.machine.known ≡ Some k → SameMail k.history.mail k.told.mail → events ≡ [] → after ≡ before
      → Settles before events after
  Moves : (new : HasNewMail before) (next : MailHistory) → GoesOnTo new.known next → HasRoom next → events ≡ []
      → after ≡ record before { machine = committed before.machine (served_anew new.known next) } → Settles before events after
  Spends : (new : HasNewMail before) → IsSpent new.known → events ≡ []
      → after ≡ record before { machine = forgotten before.machine; standing = Unserved Spent } → Settles before events after
  Lacks : before.standing ≡ Stands → events ≡ [] → after ≡ out_of_memory before → Settles before events after

-- the round, and what it told is served where it stands
pub record AsksThen (before : Progress) (events : List Event) (after : Progress) : Type 0 where
  pub told : Progress
  pub asking : List Event
  pub settling : List Event
  pub asks : Skips before asking told ⊎ RunsRound before asking told
  pub settles : Skips told settling after ⊎ Settles told settling after
  pub whole : events ≡ asking ++ settling

-- Ready, dial, round, and the told mail is served, each only after one that stands.
pub record PreparesMail (user password : List ℕ) (before : MachineState) (events : List Event) (after : Progress) : Type 0 where
  pub ready : Progress
  pub connected : Progress
  pub readying : List Event
  pub connecting : List Event
  pub asking : List Event
  pub readies : Readies before readying ready
  pub dials : Skips ready connecting connected ⊎ Dials user password ready connecting connected
  pub asks : AsksThen connected asking after
  pub whole : events ≡ readying ++ (connecting ++ asking)

-- ---- what calls add

-- The machine is made ready, and a machine that is ready is held; or there was no memory for it.
abbrev pub ReadiesTo : MachineState → Machine → Result (Unit {0}) AllocError → List Event → Type 0
ReadiesTo before kept (Ok _) events = (m : MachineState) × Readies before events (idle m) × HoldsMachine m kept
ReadiesTo before kept (Err _) events = Readies before events (out_of_memory (idle before)) × HoldsMachine (forgotten before) kept

-- from a machine that is ready
pub record DialsTo (user password : List ℕ) (before : MachineState) (kept : Machine) (client : ClientState) (how : MailStatus) (was now : Faults)
    (events : List Event) : Type 0 where
  pub connected : Progress
  pub after : Progress
  pub connecting : List Event
  pub asking : List Event
  pub dials : Dials user password (idle before) connecting connected
  pub asks : AsksThen connected asking after
  pub whole : events ≡ connecting ++ asking
  pub came : CameTo kept client how was now after

-- the whole way
pub record BeginsTo (user password : List ℕ) (before : MachineState) (kept : Machine) (client : ClientState) (how : MailStatus) (was now : Faults)
    (events : List Event) : Type 0 where
  pub after : Progress
  pub begins : PreparesMail user password before events after
  pub came : CameTo kept client how was now after
