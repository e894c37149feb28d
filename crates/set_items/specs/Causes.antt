-- Why a call that changes mail ends with an error (RFC 8620 sections 3.6.2 and 5.3): the exchanges of the call say so, and the command that wasn't
-- completed.
use Rattle.std.specs.Prelude.{◌≡◌, ◌≢◌, ◌++◌, ℕ, Bool, true, false, List, [], ◌∷◌, None, fold}
use Rattle.gate_world.specs.declared.event.Event.{Event}
use Rattle.imap_types.specs.declared.command.Command.{Command}
use Rattle.imap_types.specs.declared.command.Command.TheVariants as command
use Rattle.imap_types.specs.declared.response.Status.TheVariants as status
use Rattle.told_folder.specs.declared.exchange.Exchange.{Exchange}
use Rattle.told_mail.specs.Mail.{Mail, named}
use Rattle.imap_exchange.specs.declared.link_end.LinkEnd.{LinkEnd}
use Rattle.imap_exchange.specs.declared.link_end.LinkEnd.TheVariants as end
use Rattle.imap_client.specs.Calls.{Breaks}
use Rattle.imap_client.specs.LinkLife.{LinkLife}
use Rattle.imap_client.specs.Selecting.{tells_validity}
use Rattle.imap_client.specs.declared.plan.Due.{Due}
use Rattle.imap_client.specs.declared.plan.Due.TheVariants as due
use Rattle.imap_client.specs.declared.plan.Refusal.{Refusal}
use Rattle.told_changes.specs.Landings.{told_landing}
use Rattle.told_changes.specs.Told.{told, is_changing}
use Rattle.set_items.specs.Commands.{MustBeObeyed}
use Rattle.set_items.specs.Ends.{any_change, is_change}

-- The link life of an item: as the item began, once its exchanges were completed, and what is left of it; and what the tape has after those exchanges.
pub record ItemLife : Type 0 where
  pub begun : LinkLife
  pub reached : LinkLife
  pub left : LinkLife
  pub last : List Event

-- What ended a call: the exchanges of the call before it, the mail that was told by them, its own exchanges, what was due after these, the link life,
-- and whether the command that was due was cut off after octets of it were taken.
pub record Ending : Type 0 where
  pub before : List Exchange
  pub mail : Mail
  pub own : List Exchange
  pub due : Due
  pub life : ItemLife
  pub torn : Bool

-- all exchanges of the call
abbrev pub exchanges_of : Ending → List Exchange
exchanges_of e = e.before ++ e.own

-- the mail once these of its own exchanges are completed
abbrev pub mail_after : Ending → List Exchange → Mail
mail_after e xs = fold told e.mail xs

-- its last exchange
pub record LastOf (e : Ending) : Type 0 where
  pub earlier : List Exchange
  pub last : Exchange
  pub own_is : e.own ≡ earlier ++ last ∷ []

-- a command that has to say where its message went
abbrev pub IsLanding : Command → Type 0
IsLanding (command.Move uid name) = Unit {0}
IsLanding (command.Append name flags date message) = Unit {0}
IsLanding _ = ⊥

abbrev pub IsList : Command → Type 0
IsList (command.List special_use) = Unit {0}
IsList _ = ⊥

-- a CREATE of the name was answered OK
pub record HasCreated (name : List ℕ) (xs : List Exchange) : Type 0 where
  pub earlier : List Exchange
  pub exchange : Exchange
  pub later : List Exchange
  pub there : xs ≡ earlier ++ exchange ∷ later
  pub command_is : exchange.command ≡ command.Create name
  pub is_ok : exchange.status ≡ status.Ok

-- The call failed in part: a changing command's first octet was taken in it, and one of these holds.
pub data FailedPartly (e : Ending) : Type 0 where
  -- the exchange of a changing command didn't complete
  Torn : (c : Command) → e.due ≡ due.Send c → is_changing c ≡ true → e.torn ≡ true → FailedPartly e
  -- the OK to APPEND or MOVE has no usable code, or one that is contradicted
  NoLanding : (l : LastOf e) → IsLanding l.last.command → is_change l.last ≡ true → told_landing (mail_after e l.earlier) l.last ≡ None → FailedPartly e
  -- the name of a CREATE that was OK isn't in the next LIST
  NotListed : (l : LastOf e) (name : List ℕ) → HasCreated name l.earlier → IsList l.last.command → l.last.status ≡ status.Ok
      → named (mail_after e e.own).folders name ≡ None → FailedPartly e
  -- after a changing command that was OK the link life ended before a later command completed
  CutOff : (c : Command) → any_change (exchanges_of e) ≡ true → e.due ≡ due.Send c → FailedPartly e
  -- after a changing command that was OK a reading command wasn't answered OK with what it has to tell
  NotRead : (w : Refusal) → any_change (exchanges_of e) ≡ true → e.due ≡ due.Fails w → FailedPartly e
  -- a later changing command of one item, an EXPUNGE aside, got NO or BAD after one was OK
  LaterRefused : (l : LastOf e) → any_change l.earlier ≡ true → MustBeObeyed l.last.command → l.last.status ≢ status.Ok → FailedPartly e

-- a command that selects a folder
abbrev pub IsSelect : Command → Type 0
IsSelect (command.Select name known) = Unit {0}
IsSelect _ = ⊥

-- A command was due while the life went on. Its exchange isn't completed, and the octets that were given and taken are such a cause.
pub record BreaksBy (e : Ending) (cause : LinkEnd) : Type 0 where
  pub command : Command
  pub is_due : e.due ≡ due.Send command
  pub breaks : Breaks e.life.reached command cause e.life.left e.life.last

-- What kept the store from being asked, or from telling what was asked.
pub data StoreFailed (e : Ending) : Type 0 where
  -- a command was due, and the life had ended before the item
  LifeWasOver : (c : Command) → e.due ≡ due.Send c → e.life.begun.goes_on ≡ false → StoreFailed e
  -- a command was due, and the link had failed while a command was written that is refused
  LifeEnded : (l : LastOf e) (c : Command) → e.due ≡ due.Send c → e.life.begun.goes_on ≡ true → e.life.reached.goes_on ≡ false → l.last.status ≢ status.Ok
      → StoreFailed e
  -- the link failed while a command was written, or before it was answered
  LinkFailed : BreaksBy e end.Lost → StoreFailed e
  -- no response begins there
  Unreadable : (at : ℕ) → BreaksBy e (end.Bad at) → StoreFailed e
  -- a tagged line with another tag than the one that is due, or an OK before the command could be sent whole
  StrayLine : BreaksBy e end.Stray → StoreFailed e
  SaidBye : BreaksBy e end.Bye → StoreFailed e
  -- more octets than an exchange or a life may have
  GaveTooMuch : BreaksBy e end.TooMuch → StoreFailed e
  -- NO or BAD to a command that reads
  ReadRefused : (l : LastOf e) → is_changing l.last.command ≡ false → l.last.status ≢ status.Ok → StoreFailed e
  -- the OK to SELECT tells no UIDVALIDITY
  NoValidity : (l : LastOf e) → IsSelect l.last.command → l.last.status ≡ status.Ok → tells_validity l.last.responses ≡ false → StoreFailed e

-- The store wasn't there for the call: no changing command of it was OK, none was cut off after octets of it were taken, and one of these holds.
pub record WasUnavailable (e : Ending) : Type 0 where
  pub unchanged : any_change (exchanges_of e) ≡ false
  pub whole : (c : Command) → e.due ≡ due.Send c → is_changing c ≡ true → e.torn ≡ false
  pub cause : StoreFailed e
