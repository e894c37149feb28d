-- What becomes of what is known from one moment to a later one: its history goes on, unless another epoch is drawn.
use Rattle.std.specs.Prelude.{◌≡◌, ◌⊎◌, List, Contains, Some, None}
use Rattle.gate_world.specs.declared.event.Event.{Event}
use Rattle.gate_world.specs.declared.event.Event.TheVariants.{Word}
use Rattle.told_mail.specs.Mail.{Mail, IsNextMail}
use Rattle.mail_state.specs.History.{MailHistory, Advances}
use Rattle.gate_machine.specs.History.{KnownMail}
use Rattle.gate_machine.specs.Machine.{MachineState}

-- one history has come to another, in one epoch
pub data HasGoneOn (h : MailHistory) : MailHistory → Type 0 where
  Still : HasGoneOn h h
  On : {mid after : MailHistory} (m : Mail) → HasGoneOn h mid → IsNextMail mid.mail m → Advances mid m after → HasGoneOn h after

-- Where the machine was ready and is, its history has gone on, or the epoch that it has now was drawn meanwhile. Where it was not and is,
-- the epoch was drawn.
pub record MachineGoesOn (before : MachineState) (events : List Event) (after : MachineState) : Type 0 where
  pub history : (j k : KnownMail) → before.known ≡ Some j → after.known ≡ Some k → HasGoneOn j.history k.history ⊎ Contains events (Word k.history.epoch)
  pub begun : (k : KnownMail) → before.known ≡ None → after.known ≡ Some k → Contains events (Word k.history.epoch)
