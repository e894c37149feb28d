-- The items of a call over what the machine knows (RFC 8620 section 5.3).
use Rattle.std.specs.Prelude.{◌≡◌, ◌≢◌, List, Some, Result, Err}
use Rattle.gate_world.specs.declared.event.Event.{Event}
use Rattle.told_mail.specs.Told.{Told}
use Rattle.imap_client.specs.LinkLife.{LinkLife}
use Rattle.imap_client.specs.Rounds.{CountsOn}
use Rattle.gate_machine.specs.History.{KnownMail}
use Rattle.gate_machine.specs.Machine.{hearing}
use Rattle.gate_machine.specs.Progress.{Progress, blame_link}
use Rattle.gate_machine.specs.declared.mail_status.MailStatus.TheVariants as standing
use Rattle.set_jobs.specs.declared.done.Done.{Done}
use Rattle.set_order.specs.Ordered.{Item}
use Rattle.set_items.specs.declared.item.ItemEnd.{ItemEnd}
use Rattle.set_items.specs.declared.item.ItemEnd.TheVariants.{OutOfMemory}
use Rattle.set_items.specs.Talks.{AllReadKnown}
use Rattle.set_calls.specs.Calls.{SetCall, CallState, RunsItems, call_begun}

-- what its items came to, or how one of them ended the call
abbrev pub ItemsCame : Type 0
ItemsCame = Result (List (Item × Done)) ItemEnd

-- The items of the call, over the history that is served, the mail that is told and what is left of the life, which may have ended. The machine is told
-- each exchange that is completed, unless memory runs out; it counts no change where each was of a command that reads, and told what was known already.
pub record DoesItemsOver (call : SetCall) (items : List Item) (before : Progress) (came : ItemsCame) (events : List Event) (after : Progress) : Type 0 where
  pub known : KnownMail
  pub life : LinkLife
  pub now : CallState
  pub told : Told
  pub stands : before.standing ≡ standing.Stands
  pub ready : before.machine.known ≡ Some known
  pub in_life : before.left ≡ Some life
  pub served : call.history ≡ known.history
  pub runs : RunsItems call items (call_begun known.told.mail life) came events now
  pub told_is : told.mail ≡ now.mail
  pub counts : CountsOn known.told told
  pub counted : came ≢ Err OutOfMemory → AllReadKnown known.told.mail now.exchanges → told.changes ≡ known.told.changes
  pub after_is : after ≡ record before {
    machine = hearing before.machine known told;
    left = Some now.life;
    blamed = blame_link now.lost before.blamed;
  }
