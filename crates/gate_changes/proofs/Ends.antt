-- A call whose item ended it failed in part, or the store wasn't there.
use Rattle.std.proofs.Common.{◌≡◌, ◌⊎◌, ◌∙◌, ℕ, Bool, true, false, List, [], ◌∷◌, Result, Ok, Err, if◌then◌else◌, refl, sym, ap, subst, inl, inr}
use Rattle.gate_world.specs.declared.event.Event.{Event}
use Rattle.imap_exchange.specs.declared.link_end.LinkEnd.{LinkEnd}
use Rattle.imap_exchange.specs.declared.link_end.LinkEnd.TheVariants as end
use Rattle.jmap_arguments.specs.declared.method_error.MethodError.{MethodError}
use Rattle.jmap_arguments.specs.declared.method_error.MethodError.TheVariants.{ServerUnavailable, ServerPartialFail}
use Rattle.email_bodies.specs.Asking.{BodyAsk}
use Rattle.gate_machine.specs.Progress.{Progress}
use Rattle.set_jobs.specs.declared.done.Done.{Done}
use Rattle.set_order.specs.Ordered.{Item}
use Rattle.set_items.specs.declared.item.ItemEnd.{ItemEnd}
use Rattle.set_items.specs.declared.item.ItemEnd.TheVariants.{Comes, Ends, OutOfMemory}
use Rattle.set_items.specs.Ends.{broken_end, done_end, item_end}
use Rattle.set_items.specs.declared.stage.ItemStage.{ItemStage}
use Rattle.set_items.specs.declared.stage.ItemStage.TheVariants.{Settled}
use Rattle.set_calls.specs.Calls.{SetCall, CallState, RunsItems, AllDone, Stopped, Wanting, call_begun}
use Rattle.gate_changes.specs.Changing.{DoesCourse, InRow, OneByOne, GoesToCommit}
use Rattle.gate_changes.specs.Importing.{TakesImport, BodyLost, Taken, NoRoom, DoesImports, NoImports, OutBefore, ImportDone, ImportEnds, before_these, ends_after, one_came, with_known}
use Rattle.gate_changes.specs.Items.{ItemsCame}

abbrev pub IsEither : MethodError → Type 0
IsEither e = (e ≡ ServerPartialFail) ⊎ (e ≡ ServerUnavailable)

done_either : (s : ItemStage) (e : MethodError) → done_end s ≡ Ends e → IsEither e
done_either (Settled done) e is = absurd (cc)
done_either _ e is = inl (cc)

broken_by : (changed : Bool) (e : MethodError) → Ends (if changed then ServerPartialFail else ServerUnavailable) ≡ Ends e → IsEither e
broken_by true e is = inl (cc)
broken_by false e is = inr (cc)

broken_either : (l : LinkEnd) (changed : Bool) (e : MethodError) → broken_end l changed ≡ Ends e → IsEither e
broken_either end.Memory changed e is = absurd (cc)
broken_either _ changed e is = broken_by changed e is

item_either : (s : ItemStage) (result : Result (Unit {0}) LinkEnd) (changed : Bool) (e : MethodError) → item_end s result changed ≡ Ends e → IsEither e
item_either s (Ok u) changed e is = done_either s e is
item_either s (Err l) changed e is = broken_either l changed e is

-- the error that items end a call with
pub ends_either : {call : SetCall} {items : List Item} {before after : CallState} {events : List Event} (e : MethodError)
    → RunsItems call items before (Err (Ends e)) events after → IsEither e
ends_either e (AllDone done does all is) = absurd (cc)
ends_either e (Stopped done item later mid so_far last ends does stop all whole is) =
    let same : ends ≡ Ends e = cc in item_either _ _ _ e (sym stop.steps.does.ends_is ∙ same)
ends_either e (Wanting done later so_far drawn does draws all whole is) = absurd (cc)

after_either : (made : Bool) (ends : ItemEnd) (e : MethodError) → ((f : MethodError) → ends ≡ Ends f → IsEither f) → ends_after made ends ≡ Ends e → IsEither e
after_either true (Ends ServerUnavailable) e either is = inl (let same : ServerPartialFail ≡ e = cc in sym same)
after_either true (Ends f) e either is = either e is
after_either true (Comes done) e either is = either e is
after_either true OutOfMemory e either is = either e is
after_either false ends e either is = either e is

import_either : {call : SetCall} {uploads : List (List ℕ)} {item : Item} {p q : Progress} {tried : List BodyAsk} {ends : ItemEnd} {events : List Event}
    → TakesImport call uploads item p tried ends events q → (e : MethodError) → ends ≡ Ends e → IsEither e
import_either (BodyLost prepares) e is = inr (let same : ServerUnavailable ≡ e = cc in sym same)
import_either {call = call} {item = item} (Taken {doing = doing} {mid = mid} {after = after} made ends prepares done) e is =
    ends_either e (subst (λ (r : ItemsCame). RunsItems (with_known call made) (item ∷ []) (call_begun done.known.told.mail done.life) r doing done.now) (ap (one_came item) is) done.runs)
import_either (NoRoom lacks) e is = absurd (cc)

push_ends : (x : Item × Done) (came : ItemsCame) (e : MethodError) → before_these x came ≡ Err (Ends e) → came ≡ Err (Ends e)
push_ends x (Ok done) e is = absurd (cc)
push_ends x (Err ends) e is = is

imports_either : {call : SetCall} {uploads : List (List ℕ)} {made : Bool} {items : List Item} {p q : Progress} {came : ItemsCame} {events : List Event}
    → DoesImports call uploads made p items came events q → (e : MethodError) → came ≡ Err (Ends e) → IsEither e
imports_either (NoImports here) e is = absurd (cc)
imports_either (OutBefore here) e is = absurd (cc)
imports_either (ImportDone {came = came} item done takes rest) e is = imports_either rest e (push_ends (item, done) came e is)
imports_either {made = made} (ImportEnds item ends not takes) e is =
    after_either made ends e (import_either takes) (let same : ends_after made ends ≡ Ends e = cc in same)

pub course_either : {call : SetCall} {items : List Item} {p q : Progress} {events : List Event} (e : MethodError) → DoesCourse call items p (Err (Ends e)) events q → IsEither e
course_either e (InRow row done) = ends_either e done.runs
course_either e (OneByOne uploads rules imports) = imports_either imports e refl

-- one that goes to the commit
pub unavailable_only : (e : MethodError) → GoesToCommit (Err (Ends e)) → e ≡ ServerUnavailable
unavailable_only ServerUnavailable goes = λ i. ServerUnavailable
unavailable_only _ goes = absurd goes
