-- What laws say of the items of a call.
use Rattle.std.specs.Prelude.{◌≡◌, ◌≤◌, ℕ, ◌+◌, ◌++◌, List, [], ◌∷◌, Option, Ok}
use Rattle.gate_world.specs.declared.event.Event.{Event}
use Rattle.jmap_arguments.specs.declared.method_error.MethodError.{MethodError}
use Rattle.set_jobs.specs.declared.done.Done.{Done}
use Rattle.set_jobs.specs.declared.job.Job.{Job}
use Rattle.set_order.specs.Ordered.{Item, Create}
use Rattle.set_given.specs.Given.{Given}
use Rattle.set_methods.specs.Checks.{Drawn, Prepares}
use Rattle.set_items.specs.Causes.{Ending}
use Rattle.set_items.specs.Commands.{BeginsHeld, IsFit, appends_of}
use Rattle.set_items.specs.declared.item.ItemEnd.TheVariants.{Ends}
use Rattle.set_items.specs.Talks.{ending_of}
use Rattle.set_calls.specs.Calls.{SetCall, CallState, DoesItems, StopsAt, items_of}

-- The steps of one of the call's items ended it with this error, after the items before it, and these were the events; this is so of how they ended.
pub record IsEndedBy (Why : Ending → Type 0) (e : MethodError) (c : SetCall) (items : List Item) (before after : CallState) (events : List Event) : Type 0 where
  pub done : List (Item × Done)
  pub earlier : List Event
  pub mid : CallState
  pub course : DoesItems c before done earlier mid
  pub item : Item
  pub later : List Item
  pub last : List Event
  pub stop : StopsAt c item mid (Ends e) last after
  pub whole : items_of done ++ item ∷ later ≡ items
  pub events_are : events ≡ earlier ++ last
  pub why : Why (ending_of mid.exchanges stop.steps.does.runs)

-- each job that an item is has the steps that it may have, over the mail that it is checked over
abbrev pub ChecksFit : SetCall → Type 0
ChecksFit c = (g : Given) (item : Item) (drawn : Option Drawn) (job : Job) → Prepares c.rules g item drawn (Ok job) → IsFit job × BeginsHeld g.mail job

abbrev pub creation_count : Item → ℕ
creation_count (Create key ms) = 1
creation_count _ = 0

-- how many of the items are to make something
abbrev pub creations_in : List Item → ℕ
creations_in [] = 0
creations_in (i ∷ is) = creation_count i + creations_in is

-- an item that is to make something has one APPEND at most, and no other one has any
abbrev pub ChecksAppend : SetCall → Type 0
ChecksAppend c = (g : Given) (item : Item) (drawn : Option Drawn) (job : Job) → Prepares c.rules g item drawn (Ok job)
    → appends_of job.steps ≤ creation_count item
