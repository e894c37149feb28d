-- An item in the link life of its request, which may have ended before.
use Rattle.std.specs.Prelude.{◌≡◌, ◌≢◌, ◌||◌, ◌++◌, ℕ, Bool, false, List, [], ◌∷◌, fold, if◌then◌else◌, Result, Ok, Err}
use Rattle.gate_world.specs.Causes.{RoseBy}
use Rattle.gate_world.specs.declared.event.Event.{Event}
use Rattle.told_folder.specs.declared.exchange.Exchange.{Exchange}
use Rattle.told_mail.specs.Mail.{Mail}
use Rattle.told_mail.specs.Told.{Told}
use Rattle.told_mail.specs.Exchanges.{TellsKnown}
use Rattle.imap_exchange.specs.declared.link_end.LinkEnd.{LinkEnd}
use Rattle.imap_exchange.specs.declared.link_end.LinkEnd.TheVariants as end
use Rattle.imap_client.specs.LinkLife.{LinkLife, ClientState}
use Rattle.imap_client.specs.Plans.{Follows, ends_torn}
use Rattle.told_changes.specs.Told.{told, is_changing}
use Rattle.set_jobs.specs.declared.job.Job.{Job}
use Rattle.set_items.specs.Items.{item_start, item_plan, item_at}
use Rattle.set_items.specs.Ends.{ItemEnd, OutOfMemory, item_end, is_cut_off, any_change}
use Rattle.set_items.specs.Causes.{Ending}

-- The item's plan is followed in the life.
pub record RunsSteps (job : Job) (before : Mail) (life left : LinkLife) (client : ClientState) (events : List Event) : Type 0 where
  pub exchanges : List Exchange
  pub result : Result (Unit {0}) LinkEnd
  pub follows : Follows (item_plan (item_start job before)) life left exchanges client result events

-- what it was that ended the call, where it did, after these exchanges of the call
abbrev pub ending_of : {job : Job} {before : Mail} {life left : LinkLife} {client : ClientState} {events : List Event} → List Exchange
    → RunsSteps job before life left client events → Ending
ending_of {job = job} {before = before} {life = life} {left = left} call r = record {
  before = call;
  mail = before;
  own = r.exchanges;
  due = item_plan (item_start job before) r.exchanges;
  life = record { begun = life; reached = r.follows.after; left = left; last = r.follows.last };
  torn = ends_torn r.follows.ends;
}

-- whether a changing command of the call was OK, before the item or in it, or may have been obeyed
abbrev pub has_changed : Ending → Bool
has_changed e = any_change e.before || (any_change e.own || is_cut_off e.due e.torn)

-- The item's steps are done after these exchanges of the call: the mail is what completed exchanges told, unless memory ran out; the item ends by the
-- stage that it came to, and by what was changed.
pub record DoesItem (job : Job) (call : List Exchange) (before after : Mail) (life left : LinkLife) (client : ClientState) (ends : ItemEnd) (events : List Event)
    : Type 0 where
  pub runs : RunsSteps job before life left client events
  pub told_is : runs.result ≢ Err end.Memory → after ≡ fold told before runs.exchanges
  pub ends_is : ends ≡ item_end (item_at (item_start job before) runs.exchanges).stage runs.result (has_changed (ending_of call runs))

-- ---- faults of the link

-- one where the life was lost; and where the plan ended by itself though the life had ended, so that its last answer was a refusal
abbrev pub faults_by : Result (Unit {0}) LinkEnd → Bool → ℕ
faults_by (Ok _) up = if up then 0 else 1
faults_by (Err end.Lost) up = 1
faults_by (Err _) up = 0

-- how often the link failed in an item: whether the life went on before it and after it, and how its plan ended
abbrev pub fault_in : Bool → Bool → Result (Unit {0}) LinkEnd → ℕ
fault_in was up result = if was then faults_by result up else 0

-- ---- what the call knows after it

-- each of these exchanges is of a command that reads, and tells what is known already, where those before it told theirs
abbrev pub AllReadKnown : Mail → List Exchange → Type 0
AllReadKnown m [] = Unit {0}
AllReadKnown m (x ∷ xs) = (is_changing x.command ≡ false) × TellsKnown m x × AllReadKnown (told m x) xs

-- An item is done, after these exchanges of the call: what is told of the mail with the count of its changes, whether a changing command of the
-- call was OK by then, and the count of the link's faults before and after it.
pub record IsItemDone (job : Job) (call : List Exchange) (before after : Told) (life left : LinkLife) (client : ClientState) (ends : ItemEnd) (changed : Bool)
    (was now : ℕ) (events : List Event) : Type 0 where
  pub does : DoesItem job call before.mail after.mail life left client ends events
  pub changed_is : ends ≢ OutOfMemory → changed ≡ any_change (call ++ does.runs.exchanges)
  pub known : ends ≢ OutOfMemory → AllReadKnown before.mail does.runs.exchanges → after.changes ≡ before.changes
  pub rose : RoseBy (fault_in life.goes_on left.goes_on does.runs.result) was now
