-- How many APPENDs a store takes octets of for an item of a call that changes mail, and which of them made its message (RFC 9051 section 6.3.12).
use Rattle.std.specs.Prelude.{◌≤◌, ◌+◌, ℕ, List, if◌then◌else◌}
use Rattle.told_folder.specs.declared.exchange.Exchange.{Exchange}
use Rattle.imap_client.specs.declared.plan.Due.{Due}
use Rattle.imap_client.specs.declared.plan.Due.TheVariants as due
use Rattle.set_jobs.specs.declared.done.Done.{Done}
use Rattle.set_jobs.specs.declared.done.Done.TheVariants.{Made, MadeMailbox}
use Rattle.set_order.specs.Ordered.{Item, Create}
use Rattle.set_items.specs.Causes.{Ending}
use Rattle.set_items.specs.Commands.{MakesBy, append_count, appends_in}
use Rattle.set_items.specs.Items.{ItemState}
use Rattle.set_methods.specs.Checks.{Rules, EmailRules, MailboxRules, ImportRules, KnownSteps}

-- where it is an APPEND that is due
abbrev pub due_appends : Due → ℕ
due_appends (due.Send c) = append_count c
due_appends _ = 0

-- Those that were completed, and the one that was cut off after the store took octets of it. Of no other one did it take any.
abbrev pub appends_sent : Ending → ℕ
appends_sent e = appends_in e.own + (if e.torn then due_appends e.due else 0)

-- how many an item may send: a creation of an Email one, or an import, which is done by rules of its own once its steps are known; any other item none
abbrev pub appends_allowed : Rules → Item → ℕ
appends_allowed (EmailRules uploads) (Create key ms) = 1
appends_allowed (KnownSteps made) (Create key ms) = 1
appends_allowed _ _ = 0

abbrev pub SendsAllowed : Rules → Item → Ending → Type 0
SendsAllowed rules item e = appends_sent e ≤ appends_allowed rules item

-- The message that an item comes to is that of one of its APPENDs, which was answered OK with a usable code that contradicts nothing, under the mark that is
-- told there. Only an item of Mailbox/set comes to a Mailbox.
abbrev pub IsMadeBy : Rules → ItemState → List Exchange → Done → Type 0
IsMadeBy rules s xs (Made mark size) = MakesBy s xs mark size
IsMadeBy (EmailRules uploads) s xs (MadeMailbox number) = ⊥
IsMadeBy (ImportRules uploads) s xs (MadeMailbox number) = ⊥
IsMadeBy (KnownSteps made) s xs (MadeMailbox number) = ⊥
IsMadeBy (MailboxRules removes) s xs (MadeMailbox number) = Unit {0}
IsMadeBy rules s xs _ = Unit {0}
