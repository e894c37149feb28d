-- The items of a changing call, one after another in what is left of its request's link life, and what each came to (RFC 8620 section 5.3).
use Rattle.std.specs.Prelude.{◌≡◌, ◌≢◌, ◌++◌, ◌+◌, ◌&&◌, ℕ, List, [], ◌∷◌, map, Option, Some, None, Result, Ok, Err}
use Rattle.gate_world.specs.declared.event.Event.{Event}
use Rattle.gate_world.specs.declared.event.Event.TheVariants.{Clock, Word}
use Rattle.told_folder.specs.declared.exchange.Exchange.{Exchange}
use Rattle.told_mail.specs.Mail.{Mail}
use Rattle.imap_client.specs.LinkLife.{LinkLife, ClientState, selected, special_use}
use Rattle.jmap_core.specs.CreatedIds.{Ids}
use Rattle.mail_state.specs.History.{MailHistory}
use Rattle.set_jobs.specs.declared.done.Done.{Done}
use Rattle.set_jobs.specs.declared.done.Done.TheVariants.{MadeMailbox, Not}
use Rattle.set_jobs.specs.declared.done.SetError.{SetError}
use Rattle.set_jobs.specs.declared.job.Job.{Job}
use Rattle.set_order.specs.Ordered.{Item, Create}
use Rattle.set_given.specs.Given.{Given, MadeFolders}
use Rattle.set_methods.specs.Checks.{Drawn, NeedsDraw, Prepares, Rules}
use Rattle.set_items.specs.declared.item.ItemEnd.{ItemEnd}
use Rattle.set_items.specs.declared.item.ItemEnd.TheVariants.{Comes, OutOfMemory}
use Rattle.set_items.specs.Talks.{DoesItem, fault_in}

-- ---- a call

-- A call: what has become of the mail as it begins, the ids that its request created before it, the creation ids of what it is to make, and what its
-- items have to pass before a command is sent for them.
pub record SetCall : Type 0 where
  pub history : MailHistory
  pub created : Ids
  pub making : List (List ℕ)
  pub rules : Rules

-- A call so far: the mail that is told, what is left of the link life, what was exchanged in it for the call, the folders that were made, and how many
-- faults of the link are blamed.
pub record CallState : Type 0 where
  pub mail : Mail
  pub life : LinkLife
  pub exchanges : List Exchange
  pub made : MadeFolders
  pub lost : ℕ

-- a call that begins over this mail, in what is left of this life
abbrev pub call_begun : Mail → LinkLife → CallState
call_begun m life = record { mail = m; life = life; exchanges = []; made = []; lost = 0 }

-- what an item is checked over at this point of the call
abbrev pub given_at : SetCall → CallState → Given
given_at c s = record {
  history = c.history;
  mail = s.mail;
  selected = selected s.life;
  special_use = s.life.goes_on && special_use s.life;
  created = c.created;
  making = c.making;
  made = s.made;
}

-- the steps of an item, or why it is refused, at this point of the call, by what was drawn for it
abbrev pub IsPrepared : SetCall → CallState → Item → Option Drawn → Result Job SetError → Type 0
IsPrepared c s item drawn came = Prepares c.rules (given_at c s) item drawn came

-- the moment, and then the word
abbrev pub drawing : Option Drawn → List Event
drawing None = []
drawing (Some drawn) = Clock drawn.now ∷ Word drawn.word ∷ []

-- ---- one item

-- a folder that an item made is named by its creation id from then on
abbrev pub made_with : MadeFolders → Item → ItemEnd → MadeFolders
made_with made (Create key ms) (Comes (MadeMailbox number)) = (key, number) ∷ made
made_with made _ _ = made

-- The item's steps are done, after the exchanges of the call before it.
pub record StepsItem (item : Item) (job : Job) (before : CallState) (ends : ItemEnd) (events : List Event) (after : CallState) : Type 0 where
  pub client : ClientState
  pub does : DoesItem job before.exchanges before.mail after.mail before.life after.life client ends events
  pub exchanges_are : after.exchanges ≡ before.exchanges ++ does.runs.exchanges
  pub made_is : after.made ≡ made_with before.made item ends
  pub lost_is : after.lost ≡ before.lost + fault_in before.life.goes_on after.life.goes_on does.runs.result

-- An item came to this: it is refused by its checks, or by what is made of it, without a command; or its steps are done. What is drawn for it is drawn once,
-- before its first command.
pub data TakesItem (c : SetCall) (item : Item) (before : CallState) (done : Done) (events : List Event) (after : CallState) : Type 0 where
  Refused : (drawn : Option Drawn) (e : SetError) → IsPrepared c before item drawn (Err e) → done ≡ Not e → events ≡ drawing drawn → after ≡ before
      → TakesItem c item before done events after
  Stepped : (drawn : Option Drawn) (job : Job) (doing : List Event) → IsPrepared c before item drawn (Ok job) → StepsItem item job before (Comes done) doing after
      → events ≡ drawing drawn ++ doing → TakesItem c item before done events after

-- An item's steps end the call.
pub record StopsAt (c : SetCall) (item : Item) (before : CallState) (ends : ItemEnd) (events : List Event) (after : CallState) : Type 0 where
  pub drawn : Option Drawn
  pub job : Job
  pub doing : List Event
  pub is_prepared : IsPrepared c before item drawn (Ok job)
  pub steps : StepsItem item job before ends doing after
  pub events_are : events ≡ drawing drawn ++ doing
  pub not_done : (done : Done) → ends ≢ Comes done

-- ---- items in order

pub record NextItem (c : SetCall) (mid : CallState) : Type 0 where
  pub item : Item
  pub done : Done
  pub events : List Event
  pub after : CallState
  pub takes : TakesItem c item mid done events after

-- These items came to this, one after another.
pub data DoesItems (c : SetCall) (before : CallState) : List (Item × Done) → List Event → CallState → Type 0 where
  NoItems : DoesItems c before [] [] before
  MoreItems : {done : List (Item × Done)} {events : List Event} {mid : CallState} (next : NextItem c mid) → DoesItems c before done events mid
      → DoesItems c before (done ++ (next.item, next.done) ∷ []) (events ++ next.events) next.after

abbrev pub items_of : List (Item × Done) → List Item
items_of done = map (λ (e : Item × Done). e.0) done

-- Nothing was drawn; or a moment and a word were, for the first of these items, which had passed its checks.
abbrev pub IsDrawnFor : SetCall → CallState → List Item → Option Drawn → Type 0
IsDrawnFor c s items None = Unit {0}
IsDrawnFor c s [] (Some drawn) = ⊥
IsDrawnFor c s (item ∷ items) (Some drawn) = NeedsDraw c.rules (given_at c s) item

-- All items of a list were done; or one of them ended the call, after those before it; or memory ran out after some of them, before a command was sent for the
-- next one.
pub data RunsItems (c : SetCall) (items : List Item) (before : CallState) (result : Result (List (Item × Done)) ItemEnd) (events : List Event) (after : CallState)
    : Type 0 where
  AllDone : (done : List (Item × Done)) → DoesItems c before done events after → items_of done ≡ items → result ≡ Ok done
      → RunsItems c items before result events after
  Stopped : (done : List (Item × Done)) (item : Item) (later : List Item) (mid : CallState) (so_far last : List Event) (ends : ItemEnd)
      → DoesItems c before done so_far mid → StopsAt c item mid ends last after → items_of done ++ item ∷ later ≡ items → events ≡ so_far ++ last
      → result ≡ Err ends → RunsItems c items before result events after
  Wanting : (done : List (Item × Done)) (later : List Item) (so_far : List Event) (drawn : Option Drawn) → DoesItems c before done so_far after
      → IsDrawnFor c after later drawn → items_of done ++ later ≡ items → events ≡ so_far ++ drawing drawn → result ≡ Err OutOfMemory
      → RunsItems c items before result events after
