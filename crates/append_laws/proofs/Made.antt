-- What made the message of an item.
use Rattle.std.proofs.Common.{◌≡◌, ℕ, Bool, List, Result, Ok, Err, ap, sym}
use Rattle.gate_world.specs.declared.event.Event.{Event}
use Rattle.told_folder.specs.declared.exchange.Exchange.{Exchange}
use Rattle.told_mail.specs.Mail.{Mail}
use Rattle.imap_exchange.specs.declared.link_end.LinkEnd.{LinkEnd}
use Rattle.imap_exchange.specs.declared.link_end.LinkEnd.TheVariants as end
use Rattle.imap_client.specs.LinkLife.{LinkLife, ClientState}
use Rattle.set_jobs.specs.declared.done.Done.{Done}
use Rattle.set_jobs.specs.declared.done.Done.TheVariants.{Made, MadeMailbox, Changed, Gone, Not}
use Rattle.set_jobs.specs.declared.job.Job.{Job}
use Rattle.set_items.specs.Commands.{MakesBy, MakesNothing}
use Rattle.set_items.specs.Ends.{broken_end, item_end}
use Rattle.set_items.specs.Items.{Answers, item_at, item_start}
use Rattle.set_items.specs.Talks.{DoesItem, ending_of, has_changed}
use Rattle.set_items.specs.declared.item.ItemEnd.TheVariants.{Comes}
use Rattle.set_items.specs.declared.stage.ItemStage.{ItemStage}
use Rattle.set_items.specs.declared.stage.ItemStage.TheVariants.{Doing, Settled, Partly, Failing}
use Rattle.set_methods.specs.Checks.{Rules, EmailRules, MailboxRules, ImportRules, KnownSteps}
use Rattle.append_laws.specs.Sent.{IsMadeBy}
use Rattle.append_laws.proofs.Boxes.{AreOther, IsNoMailbox, no_mailbox}
use Rattle.append_laws.proofs.Sent.{AreAnswers}

-- what is proved of an item that comes to a message
abbrev pub MadeByOne : Type 0
MadeByOne = (job : Job) (m : Mail) (xs : List Exchange) (mark size : ℕ) → MakesNothing job → Answers (item_start job m) xs
    → (item_at (item_start job m) xs).stage ≡ Settled (Made mark size) → MakesBy (item_start job m) xs mark size

-- an item comes to what its stage is settled as
broken : (e : LinkEnd) (changed : Bool) (done : Done) → Comes done ≡ broken_end e changed → ⊥
broken end.Lost changed done is = absurd (cc)
broken (end.Bad at) changed done is = absurd (cc)
broken end.Stray changed done is = absurd (cc)
broken end.Bye changed done is = absurd (cc)
broken end.TooMuch changed done is = absurd (cc)
broken end.Refused changed done is = absurd (cc)
broken end.NoQresync changed done is = absurd (cc)
broken end.Lacks changed done is = absurd (cc)
broken end.Memory changed done is = absurd (cc)

settled : (stage : ItemStage) (r : Result (Unit {0}) LinkEnd) (changed : Bool) (done : Done) → Comes done ≡ item_end stage r changed → stage ≡ Settled done
settled (Settled other) (Ok u) changed done is = let same : done ≡ other = cc in ap (λ (d : Done). Settled d) (sym same)
settled (Doing s ss c d) (Ok u) changed done is = absurd (cc)
settled Partly (Ok u) changed done is = absurd (cc)
settled (Failing why) (Ok u) changed done is = absurd (cc)
settled stage (Err e) changed done is = absurd (broken e changed done is)

-- but for Mailbox/set the job of an item selects no folder that was made, and is no Mailbox by itself
abbrev pub MakesNoMailbox : Rules → Job → Type 0
MakesNoMailbox (EmailRules uploads) job = AreOther job.steps × IsNoMailbox job.done
MakesNoMailbox (MailboxRules removes) job = Unit {0}
MakesNoMailbox (ImportRules uploads) job = AreOther job.steps × IsNoMailbox job.done
MakesNoMailbox (KnownSteps known) job = AreOther job.steps × IsNoMailbox job.done

-- a message is made by one of the item's own exchanges
pub made : MadeByOne → AreAnswers → (rules : Rules) {job : Job} {call : List Exchange} {before after : Mail} {life left : LinkLife} {client : ClientState}
    {events : List Event} (done : Done) (d : DoesItem job call before after life left client (Comes done) events) → MakesNothing job → MakesNoMailbox rules job
    → IsMadeBy rules (item_start job before) d.runs.exchanges done
made by answers rules {job = job} {call = call} {before = before} {life = life} (Made mark size) d nothing none =
    by job before d.runs.exchanges mark size nothing
    (answers (item_start job before) life d.runs.follows.after d.runs.exchanges d.runs.follows.so_far d.runs.follows.ran)
    (settled (item_at (item_start job before) d.runs.exchanges).stage d.runs.result (has_changed (ending_of call d.runs)) (Made mark size) d.ends_is)
made by answers (EmailRules uploads) {job = job} {call = call} {before = before} (MadeMailbox number) d nothing none =
    no_mailbox job before d.runs.exchanges (MadeMailbox number) none.0 none.1
    (settled (item_at (item_start job before) d.runs.exchanges).stage d.runs.result (has_changed (ending_of call d.runs)) (MadeMailbox number) d.ends_is)
made by answers (ImportRules uploads) {job = job} {call = call} {before = before} (MadeMailbox number) d nothing none =
    no_mailbox job before d.runs.exchanges (MadeMailbox number) none.0 none.1
    (settled (item_at (item_start job before) d.runs.exchanges).stage d.runs.result (has_changed (ending_of call d.runs)) (MadeMailbox number) d.ends_is)
made by answers (KnownSteps known) {job = job} {call = call} {before = before} (MadeMailbox number) d nothing none =
    no_mailbox job before d.runs.exchanges (MadeMailbox number) none.0 none.1
    (settled (item_at (item_start job before) d.runs.exchanges).stage d.runs.result (has_changed (ending_of call d.runs)) (MadeMailbox number) d.ends_is)
made by answers (MailboxRules removes) (MadeMailbox number) d nothing none = tt
made by answers (EmailRules uploads) (Changed number asked) d nothing none = tt
made by answers (MailboxRules removes) (Changed number asked) d nothing none = tt
made by answers (ImportRules uploads) (Changed number asked) d nothing none = tt
made by answers (KnownSteps known) (Changed number asked) d nothing none = tt
made by answers (EmailRules uploads) (Gone number) d nothing none = tt
made by answers (MailboxRules removes) (Gone number) d nothing none = tt
made by answers (ImportRules uploads) (Gone number) d nothing none = tt
made by answers (KnownSteps known) (Gone number) d nothing none = tt
made by answers (EmailRules uploads) (Not why) d nothing none = tt
made by answers (MailboxRules removes) (Not why) d nothing none = tt
made by answers (ImportRules uploads) (Not why) d nothing none = tt
made by answers (KnownSteps known) (Not why) d nothing none = tt
