-- What the code's call stands for, and where the code is in it.
use Rattle.std.specs.Prelude.{◌≡◌, ◌≢◌, ◌+◌, ◌++◌, ◌⊎◌, ℕ, Bool, IfOk, OnErr, List, [], ◌∷◌, fold, map, Option, Result, Ok, Err, Vec}
use Rattle.std.specs.declared.alloc.AllocError.{AllocError}
use Rattle.std.specs.declared.alloc.Global.{Global}
use Rattle.gate_world.specs.Causes.{RoseBy}
use Rattle.gate_world.specs.declared.event.Event.{Event}
use Rattle.told_folder.specs.declared.exchange.Exchange.{Exchange}
use Rattle.told_mail.specs.Mail.{Mail}
use Rattle.told_mail.specs.Told.{Told}
use Rattle.told_changes.specs.Told.{told}
use Rattle.imap_client.specs.LinkLife.{ClientState, Stands}
use Rattle.mail_state.specs.State.{IsStateOf}
use Rattle.set_jobs.specs.declared.done.Done.{Done}
use Rattle.set_jobs.specs.declared.done.SetError.{SetError}
use Rattle.set_jobs.specs.declared.job.Job.{Job}
use Rattle.set_order.specs.Ordered as spec
use Rattle.set_order.specs.declared.item.Item.{Item}
use Rattle.set_order.specs.reading.Creating.{HasKeys}
use Rattle.set_order.specs.reading.Items.{item_data}
use Rattle.set_given.specs.declared.made.MadeFolders.{MadeFolders}
use Rattle.set_given.specs.reading.Makings.{IsMade}
use Rattle.set_items.specs.declared.item.ItemEnd.{ItemEnd}
use Rattle.set_items.specs.declared.item.ItemEnd.TheVariants.{Comes, Ends, OutOfMemory}
use Rattle.set_items.specs.Ends.{any_change}
use Rattle.set_items.specs.Talks.{AllReadKnown}
use Rattle.set_methods.specs.Checks.{Drawn}
use Rattle.set_methods.specs.reading.Choosing.{rules_of}
use Rattle.set_calls.specs.Calls.{SetCall, CallState, IsDrawnFor, IsPrepared, TakesItem, StopsAt, drawing}
use Rattle.set_calls.specs.declared.call.Call.{Call}
use Rattle.set_calls.specs.declared.call.CallEnd.{CallEnd}
use Rattle.set_calls.specs.declared.call.CallEnd.TheVariants as ends

abbrev pub call_end : CallEnd → ItemEnd
call_end (ends.Fails e) = Ends e
call_end ends.Memory = OutOfMemory

-- how an item ended that came to this, or to this end of the call
abbrev pub came_end : Result Done CallEnd → ItemEnd
came_end (Ok done) = Comes done
came_end (Err e) = call_end e

abbrev pub done_data : Item × Done → spec.Item × Done
done_data e = (item_data e.0, e.1)

abbrev pub came_data : Result (Vec (Item × Done) Global) CallEnd → Result (List (spec.Item × Done)) ItemEnd
came_data (Ok done) = Ok (map done_data done.items)
came_data (Err e) = Err (call_end e)

-- what the one item of a call came to
abbrev pub one_came : spec.Item → Result Done CallEnd → Result (List (spec.Item × Done)) ItemEnd
one_came item (Ok done) = Ok ((item, done) ∷ [])
one_came item (Err e) = Err (call_end e)

pub record IsCall (code : Call) (c : SetCall) : Type 0 where
  pub state : IsStateOf c.history code.state.now
  pub created : c.created ≡ code.created.now
  pub making : HasKeys code.making.now c.making
  pub rules : c.rules ≡ rules_of code.checks

-- The client stands in what is left of the life, this mail is told, these folders were made, and something was changed or wasn't.
pub record IsAt (client : ClientState) (mail : Mail) (made : MadeFolders) (changed : Bool) (s : CallState) : Type 0 where
  pub stands : Stands client s.life
  pub mail_is : s.mail ≡ mail
  pub made_is : IsMade made s.made
  pub changed_is : any_change s.exchanges ≡ changed

-- The same after an item, but for the folders that were made: what was exchanged for it is told, and counts as a change only where it tells more than was
-- known; the link's count rose as is blamed for it.
pub record Leaves (client : ClientState) (mirror told_now : Told) (changed : Bool) (came : Result Done CallEnd) (was now : ℕ) (before after : CallState) : Type 0 where
  pub stands : Stands client after.life
  pub mail_is : after.mail ≡ told_now.mail
  pub changed_is : IfOk came (λ done. any_change after.exchanges ≡ changed)
  pub own : List Exchange
  pub own_is : after.exchanges ≡ before.exchanges ++ own
  pub told_is : came ≢ Err ends.Memory → after.mail ≡ fold told before.mail own
  pub counted : came ≢ Err ends.Memory → AllReadKnown before.mail own → told_now.changes ≡ mirror.changes
  pub lost : ℕ
  pub lost_is : after.lost ≡ before.lost + lost
  pub rose : RoseBy lost was now

-- What an item came to before a command was sent for it; or there was no memory for that.
pub record IsPreparedSo (c : SetCall) (s : CallState) (item : spec.Item) (came : Result (Result Job SetError) AllocError) (events : List Event) : Type 0 where
  pub drawn : Option Drawn
  pub events_are : events ≡ drawing drawn
  pub is : IfOk came (λ made. IsPrepared c s item drawn made)
  pub lacks : OnErr came (IsDrawnFor c s (item ∷ []) drawn)

-- There was no memory before a command was sent for an item.
pub record LacksItem (c : SetCall) (item : spec.Item) (before : CallState) (events : List Event) (after : CallState) : Type 0 where
  pub drawn : Option Drawn
  pub draws : IsDrawnFor c before (item ∷ []) drawn
  pub events_are : events ≡ drawing drawn
  pub same : after ≡ before

-- An item came to something; or it ended the call, or there was no memory before a command was sent for it.
abbrev pub ItemCame : SetCall → spec.Item → CallState → Result Done CallEnd → List Event → CallState → Type 0
ItemCame c item before (Ok done) events after = TakesItem c item before done events after
ItemCame c item before (Err e) events after =
    StopsAt c item before (call_end e) events after ⊎ ((e ≡ ends.Memory) × LacksItem c item before events after)
