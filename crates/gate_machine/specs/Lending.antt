-- The code's source of bodies, which is lent to the calls of a request, and when it holds what is known.
use Rattle.std.specs.Prelude.{◌≡◌, ℕ, List, Option, Some}
use Rattle.gate_world.specs.Causes.{Faults, Hidden, LinkAlone}
use Rattle.gate_world.specs.Tape.{Adds}
use Rattle.gate_world.specs.declared.event.Event.{Event}
use Rattle.told_mail.specs.Mail.{IsNextMail}
use Rattle.told_mail.specs.Told.{Told}
use Rattle.mail_state.specs.State.{IsStateOf}
use Rattle.email_bodies.specs.Keeping.{Bodies}
use Rattle.email_bodies.specs.declared.source.MessagePlace.{MessagePlace}
use Rattle.imap_client.specs.LinkLife.{ClientState}
use Rattle.imap_client.specs.Rounds.{CountsOn}
use Rattle.gate_machine.specs.Fetching.{AsksBody, LacksBody}
use Rattle.gate_machine.specs.History.{KnownMail}
use Rattle.gate_machine.specs.Kept.{ServedMail}
use Rattle.gate_machine.specs.Progress.{Progress, Bears, StandsInLife}

-- the mail told so far, the bodies that are kept, and the client
pub record SourceState : Type 0 where
  pub told : Told
  pub bodies : Bodies
  pub client : ClientState

-- It holds what is told and kept of what is known, and its client stands in the link life; the counts of faults bear what is blamed.
pub record HoldsSource (p : Progress) (source : SourceState) (was now : Faults) : Type 0 where
  pub known : KnownMail
  pub ready : p.machine.known ≡ Some known
  pub told : source.told ≡ known.told
  pub bodies : source.bodies ≡ known.bodies
  pub next : IsNextMail known.history.mail known.told.mail
  pub in_life : StandsInLife p.left source.client
  pub bears : Bears p.blamed was now

-- what is lent of what is known beside the source
pub record IsLentOf (k : KnownMail) (served : ServedMail) : Type 0 where
  pub state : IsStateOf k.history served.state
  pub served_is : served.served ≡ k.history.mail

-- where memory ran out the client stands in the link life still
pub record LeavesSource (p : Progress) (source : SourceState) (was now : Faults) : Type 0 where
  pub in_life : StandsInLife p.left source.client
  pub bears : Bears p.blamed was now

-- the source, and what contracts know of the outside
pub record Moment : Type 0 where
  pub source : SourceState
  pub tape : Option (List Event)
  pub faults : Faults
  pub hidden : Hidden

-- what asking for a body leaves as it is, and the counts that don't fall
pub record KeepsOutside (before after : Moment) : Type 0 where
  pub alone : LinkAlone before.faults after.faults
  pub hidden : after.hidden ≡ before.hidden

-- asking for the body of the message is answered so
pub record AnswersBody (message : MessagePlace) (body : Option (List ℕ)) (before after : Moment) : Type 0 where
  pub run : Adds before.tape after.tape (λ es. (p : Progress) (was : Faults) → HoldsSource p before.source was before.faults
      → (q : Progress) × AsksBody message p body es q × HoldsSource q after.source was after.faults)
  pub counts : CountsOn before.source.told after.source.told
  pub goes_on : KeepsOutside before after

-- memory runs out as it is asked
pub record RunsOut (message : MessagePlace) (before after : Moment) : Type 0 where
  pub counts : CountsOn before.source.told after.source.told
  pub run : Adds before.tape after.tape (λ es. (p : Progress) (was : Faults) → HoldsSource p before.source was before.faults
      → (q : Progress) × LacksBody message p es q × LeavesSource q after.source was after.faults)
  pub goes_on : KeepsOutside before after
