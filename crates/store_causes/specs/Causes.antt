-- Why a store can't be used, by what it answered last, or didn't answer (RFC 9051 sections 6 and 7, RFC 7162 section 3.1).
use Rattle.std.specs.Prelude.{◌≡◌, ◌≢◌, ◌++◌, ℕ, Bool, true, false, List, [], ◌∷◌, fold, if◌then◌else◌, codes, Option, Some, None, Result, Ok, Err}
use Rattle.std.specs.Option.{option_map}
use Rattle.imap_types.specs.declared.command.Command.{Command}
use Rattle.imap_types.specs.declared.command.Command.TheVariants as command
use Rattle.told_folder.specs.declared.exchange.Exchange.{Exchange}
use Rattle.imap_exchange.specs.declared.link_end.LinkEnd.{LinkEnd}
use Rattle.imap_exchange.specs.declared.link_end.LinkEnd.TheVariants as end
use Rattle.imap_client.specs.declared.plan.Due.{Due}
use Rattle.imap_client.specs.declared.plan.Due.TheVariants as due
use Rattle.imap_client.specs.declared.plan.Refusal.{Refusal}
use Rattle.imap_client.specs.Capabilities.{tells}
use Rattle.imap_client.specs.Connecting.{is_ok}
use Rattle.imap_client.specs.LinkLife.{selected_after}
use Rattle.imap_client.specs.Plans.{Planned}
use Rattle.imap_client.specs.Refusals.{refusal_end}
use Rattle.store_causes.specs.declared.cause.Asked.{Asked}
use Rattle.store_causes.specs.declared.cause.Asked.TheVariants as asked
use Rattle.store_causes.specs.declared.cause.Breach.{Breach}
use Rattle.store_causes.specs.declared.cause.Breach.TheVariants as breach
use Rattle.store_causes.specs.declared.cause.StoreCause.{StoreCause}
use Rattle.store_causes.specs.declared.cause.StoreCause.TheVariants as cause

abbrev pub name_or_empty : Option (List ℕ) → List ℕ
name_or_empty (Some name) = name
name_or_empty None = []

-- What a command asks, while this folder is selected. The words of LOGIN are no part of it.
abbrev pub asked_by : Command → Option (List ℕ) → Asked
asked_by command.Capability selected = asked.Capabilities
asked_by (command.Login user password) selected = asked.Login
asked_by command.Enable selected = asked.Enabling
asked_by (command.List special_use) selected = asked.Listing
asked_by (command.Select name known) selected = asked.Selecting name
asked_by _ selected = asked.Fetching (name_or_empty selected)

-- ---- a command that is answered

abbrev pub let_in_by : Command → Exchange → Bool → Bool
let_in_by (command.Login user password) x before = is_ok x.status
let_in_by _ x before = before

-- whether the user is let in, by what was so before and this exchange: by a LOGIN that is answered OK
abbrev pub let_in_after : Bool → Exchange → Bool
let_in_after before x = let_in_by x.command x before

-- What CAPABILITY lacks: once the user is let in IMAP4rev2 or QRESYNC; before that the leave to log in, which LOGINDISABLED takes.
abbrev pub lacking : Bool → Exchange → StoreCause
lacking let_in x = if let_in then cause.Lacking (tells (codes "IMAP4rev2") x) (tells (codes "QRESYNC") x) else cause.LoginDisabled

-- What is missing in an OK after which no more is asked: what CAPABILITY lacks, QRESYNC among what ENABLE enabled, or a UIDVALIDITY in
-- what SELECT told.
abbrev pub cause_of_ok : Bool → Command → Exchange → StoreCause
cause_of_ok let_in command.Capability x = lacking let_in x
cause_of_ok let_in command.Enable x = cause.NotEnabled
cause_of_ok let_in (command.Select name known) x = cause.NoValidity name
cause_of_ok let_in other x = cause.Refused (asked_by x.command x.selected)

-- The cause, where no more is asked after the exchange, before which the user was let in or not: it isn't answered OK, or its OK lacks
-- something.
abbrev pub cause_after : Bool → Exchange → StoreCause
cause_after let_in x = if is_ok x.status then cause_of_ok let_in x.command x else cause.Refused (asked_by x.command x.selected)

-- ---- a command that isn't answered

-- why it isn't, by how the life ended
abbrev pub breach_of : LinkEnd → Option Breach
breach_of end.Lost = Some breach.Silent
breach_of end.Bye = Some breach.Bye
breach_of (end.Bad at) = Some (breach.Unreadable at)
breach_of end.Stray = Some breach.Stray
breach_of end.TooMuch = Some breach.TooMuch
breach_of _ = None

-- the cause where this is asked
abbrev pub unanswered : Asked → LinkEnd → Option StoreCause
unanswered asked end = option_map (cause.Unanswered asked) (breach_of end)

-- the link failed: the store isn't reached, or the link ended before this was answered
abbrev pub loses_link : Option StoreCause → Bool
loses_link (Some cause.Unreached) = true
loses_link (Some (cause.Unanswered asked breach.Silent)) = true
loses_link _ = false

-- ---- what a plan asks

-- something is due at first, or all is done
abbrev pub DoesntFailAtOnce : Planned → Type 0
DoesntFailAtOnce plan = (why : Refusal) → plan [] ≢ due.Fails why

-- The cause by which no more is asked, once these exchanges are completed of a plan before which the user was let in or not and this folder
-- was selected: where nothing is due, of the last exchange; else that the command that is due isn't answered.
pub data StopsBy (let_in : Bool) (selected : Option (List ℕ)) (exchanges : List Exchange) : Due → LinkEnd → StoreCause → Type 0 where
  LastAnswer : (why : Refusal) (before : List Exchange) (x : Exchange) → exchanges ≡ before ++ x ∷ []
      → StopsBy let_in selected exchanges (due.Fails why) (refusal_end why) (cause_after (fold let_in_after let_in before) x)
  NoAnswer : (command : Command) (e : LinkEnd) (b : Breach) → breach_of e ≡ Some b
      → StopsBy let_in selected exchanges (due.Send command) e (cause.Unanswered (asked_by command (fold selected_after selected exchanges)) b)

-- whether there is a cause, by how the plan ended: exactly where that isn't Ok
pub data IsOutcome (let_in : Bool) (selected : Option (List ℕ)) (exchanges : List Exchange) (now : Due) : Result (Unit {0}) LinkEnd → Option StoreCause → Type 0 where
  AllDone : IsOutcome let_in selected exchanges now (Ok tt) None
  Stopped : (e : LinkEnd) (c : StoreCause) → StopsBy let_in selected exchanges now e c → IsOutcome let_in selected exchanges now (Err e) (Some c)
