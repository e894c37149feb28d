-- What ended a call is how the steps of its last item ended.
use Rattle.std.proofs.Common.{◌≡◌, List, Option, Ok, Err, subst}
use Rattle.gate_world.specs.declared.event.Event.{Event}
use Rattle.jmap_arguments.specs.declared.method_error.MethodError.{MethodError}
use Rattle.set_jobs.specs.declared.job.Job.{Job}
use Rattle.set_order.specs.Ordered.{Item}
use Rattle.set_items.specs.Causes.{Ending}
use Rattle.set_items.specs.declared.item.ItemEnd.{ItemEnd}
use Rattle.set_items.specs.declared.item.ItemEnd.TheVariants.{Ends}
use Rattle.set_items.specs.Talks.{ending_of}
use Rattle.set_calls.specs.Calls.{SetCall, CallState, RunsItems, AllDone, Stopped, Wanting, StepsItem, StopsAt, IsPrepared}
use Rattle.set_methods.specs.Checks.{Drawn}
use Rattle.set_calls.specs.Promises.{IsEndedBy}

-- why the steps of an item that was checked end the call with this error
abbrev pub EndsWhere : (Ending → Type 0) → SetCall → MethodError → Type 0
EndsWhere Why c e = (item : Item) (mid after : CallState) (drawn : Option Drawn) (job : Job) (events : List Event) → IsPrepared c mid item drawn (Ok job)
    → (steps : StepsItem item job mid (Ends e) events after) → Why (ending_of mid.exchanges steps.does.runs)

pub ended : (Why : Ending → Type 0) (c : SetCall) (e : MethodError) → EndsWhere Why c e → (items : List Item) (before after : CallState) (events : List Event)
    → RunsItems c items before (Err (Ends e)) events after → IsEndedBy Why e c items before after events
ended Why c e so items before after events (AllDone done course all ok) = absurd (cc ok)
ended Why c e so items before after events (Wanting done later so_far drawn course draws whole all is) = absurd (cc is)
ended Why c e so items before after events (Stopped done item later mid so_far last ends course stop whole all is) =
    let same : ends ≡ Ends e = cc is in
    let mine : StopsAt c item mid (Ends e) last after = subst (λ (x : ItemEnd). StopsAt c item mid x last after) same stop in
    record {
      done = done;
      earlier = so_far;
      mid = mid;
      course = course;
      item = item;
      later = later;
      last = last;
      stop = mine;
      whole = whole;
      events_are = all;
      why = so item mid after mine.drawn mine.job mine.doing mine.is_prepared mine.steps;
    }
