-- What the items of a call told is what all tells that was exchanged for it.
use Rattle.std.proofs.Common.{◌≡◌, ◌≢◌, ◌∙◌, List, fold, Result, Err, refl, sym, ap, subst}
use Rattle.std.proofs.lemmas.List.Sums.{fold-append}
use Rattle.gate_world.specs.declared.event.Event.{Event}
use Rattle.told_folder.specs.declared.exchange.Exchange.{Exchange}
use Rattle.told_mail.specs.Mail.{Mail}
use Rattle.told_changes.specs.Told.{told}
use Rattle.imap_exchange.specs.declared.link_end.LinkEnd.{LinkEnd}
use Rattle.imap_client.specs.LinkLife.{LinkLife}
use Rattle.set_jobs.specs.declared.done.Done.{Done}
use Rattle.set_jobs.specs.declared.job.Job.{Job}
use Rattle.set_order.specs.Ordered.{Item}
use Rattle.set_items.specs.declared.item.ItemEnd.{ItemEnd}
use Rattle.set_items.specs.declared.item.ItemEnd.TheVariants.{OutOfMemory}
use Rattle.set_items.specs.Ends.{item_end}
use Rattle.set_items.specs.Items.{item_at, item_start}
use Rattle.set_items.specs.Talks.{ending_of, has_changed}
use Rattle.set_calls.specs.Calls.{SetCall, CallState, StepsItem, TakesItem, Refused, Stepped, DoesItems, NoItems, MoreItems, RunsItems, AllDone, Stopped, Wanting, call_begun}
use Rattle.gate_changes.specs.Items.{ItemsCame}

-- this mail is what was told for the call, from this mail on
abbrev TellsFrom : Mail → CallState → Type 0
TellsFrom m s = s.mail ≡ fold told m s.exchanges

module _ (m : Mail) where
  steps_tell : {item : Item} {job : Job} {before after : CallState} {ends : ItemEnd} {events : List Event} (steps : StepsItem item job before ends events after)
      → ends ≢ OutOfMemory → TellsFrom m before → TellsFrom m after
  steps_tell {job = job} {before = before} steps well tells =
      let runs = steps.does.runs in
      let end_by : Result (Unit {0}) LinkEnd → ItemEnd =
      λ r. item_end (item_at (item_start job before.mail) runs.exchanges).stage r (has_changed (ending_of before.exchanges runs)) in
      steps.does.told_is (λ is. well (steps.does.ends_is ∙ ap end_by is))
      ∙ (ap (λ (n : Mail). fold told n steps.does.runs.exchanges) tells
      ∙ (sym (fold-append told m before.exchanges steps.does.runs.exchanges)
      ∙ ap (λ (xs : List Exchange). fold told m xs) (sym steps.exchanges_are)))

  takes_tell : {c : SetCall} {item : Item} {before after : CallState} {done : Done} {events : List Event} → TakesItem c item before done events after → TellsFrom m before
      → TellsFrom m after
  takes_tell (Refused drawn e is done events_are after_is) tells = subst (λ (s : CallState). TellsFrom m s) (sym after_is) tells
  takes_tell (Stepped drawn job doing is steps events_are) tells = steps_tell steps (λ same. cc) tells

  items_tell : {c : SetCall} {life : LinkLife} {done : List (Item × Done)} {events : List Event} {after : CallState} → DoesItems c (call_begun m life) done events after
      → TellsFrom m after
  items_tell NoItems = refl
  items_tell (MoreItems next does) = takes_tell next.takes (items_tell does)

  -- all that was exchanged for a call, unless memory ran out
  pub runs_tell : {c : SetCall} {items : List Item} {life : LinkLife} {came : ItemsCame} {events : List Event} {after : CallState}
      → RunsItems c items (call_begun m life) came events after → came ≢ Err OutOfMemory → after.mail ≡ fold told m after.exchanges
  runs_tell (AllDone done does all is) well = items_tell does
  runs_tell (Stopped done item later mid so_far last ends does stop all whole is) well =
      steps_tell stop.steps (λ same. well (is ∙ ap (λ (e : ItemEnd). Err e) same)) (items_tell does)
  runs_tell (Wanting done later so_far drawn does draws all whole is) well = absurd (well is)
