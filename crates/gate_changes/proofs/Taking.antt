-- An import as the code takes it.
use Rattle.std.proofs.Common.{◌≡◌, ◌≢◌, ◌∙◌, ◌++◌, inl, inr, ℕ, ℤ, List, [], ◌∷◌, Option, Some, None, Result, Ok, Err, refl, sym, ap, subst}
use Rattle.gate_world.specs.Causes.{Faults}
use Rattle.gate_world.specs.declared.event.Event.{Event}
use Rattle.gate_world.specs.declared.event.Event.TheVariants.{Clock}
use Rattle.email_bodies.specs.Asking.{BodyAsk}
use Rattle.email_bodies.specs.declared.error.BodyError.{BodyError}
use Rattle.email_bodies.specs.declared.error.BodyError.TheVariants as body
use Rattle.email_bodies.specs.declared.source.MessagePlace.{MessagePlace}
use Rattle.email_import.specs.Messages.{import_job}
use Rattle.email_import.specs.declared.ready.ReadyImport.{ReadyImport}
use Rattle.imap_client.specs.LinkLife.{ClientState, LinkLife}
use Rattle.jmap_arguments.specs.declared.method_error.MethodError.TheVariants.{ServerUnavailable}
use Rattle.gate_machine.specs.Fetching.{AsksBody, IsKept, IsTold, Ends as Ended, HasEnded, AsksBodies, NoBodies, MoreBodies}
use Rattle.gate_machine.specs.Progress.{CameTo, Progress}
use Rattle.gate_machine.specs.declared.machine.Machine.{Machine}
use Rattle.gate_machine.specs.declared.mail_status.MailStatus.TheVariants.{Stands}
use Rattle.gate_machine.proofs.Asking.{bodies_stay}
use Rattle.set_jobs.specs.declared.done.Done.{Done}
use Rattle.set_jobs.specs.declared.done.SetError.{SetError}
use Rattle.set_jobs.specs.declared.job.Job.{Job}
use Rattle.set_order.specs.Ordered.{Item}
use Rattle.set_items.specs.declared.item.ItemEnd.{ItemEnd}
use Rattle.set_items.specs.declared.item.ItemEnd.TheVariants.{Comes, Ends, OutOfMemory}
use Rattle.set_calls.specs.Calls.{SetCall}
use Rattle.set_calls.specs.declared.call.CallEnd.{CallEnd}
use Rattle.set_calls.specs.declared.call.CallEnd.TheVariants as ends
use Rattle.set_calls.specs.reading.Calling.{one_came}
use Rattle.gate_changes.specs.Importing.{IsServing, PreparesImport, RefusedAtOnce, Sought, TakesImport, BodyLost, Taken, NoRoom, WhenMade, with_known}
use Rattle.gate_changes.specs.Items.{DoesItemsOver, ItemsCame}
use Rattle.gate_changes.specs.reading.Asking.{IsOver}
use Rattle.gate_changes.specs.reading.Imports.{ImportCame, SeeksTo, end_of}

-- ---- over the same history, in what is left of the life

body_life : {message : MessagePlace} {p q : Progress} {body : Option (List ℕ)} {events : List Event} (l : LinkLife) → p.left ≡ Some l → AsksBody message p body events q
    → (m : LinkLife) × (q.left ≡ Some m)
body_life l is (IsKept octets kept body_is none q_is) = (l, ap (λ (x : Progress). x.left) q_is ∙ is)
body_life l is (IsTold octets asks body_is q_is) = (asks.left, ap (λ (x : Progress). x.left) q_is)
body_life l is (Ended e asks other body_is q_is) = (asks.left, ap (λ (x : Progress). x.left) q_is)
body_life l is (HasEnded kept ended body_is none q_is) = (l, ap (λ (x : Progress). x.left) q_is ∙ is)

bodies_life : {p q : Progress} {asks : List BodyAsk} {events : List Event} (l : LinkLife) → p.left ≡ Some l → AsksBodies p asks events q → (m : LinkLife) × (q.left ≡ Some m)
bodies_life l is NoBodies = (l, is)
bodies_life l is (MoreBodies next bodies) = let before = bodies_life l is bodies in body_life before.0 before.1 next.asks

bodies_over : {call : SetCall} {p q : Progress} {asks : List BodyAsk} {events : List Event} → AsksBodies p asks events q → IsOver call p → IsOver call q
bodies_over asked over =
    let k = bodies_stay over.known over.ready asked in
    let l = bodies_life over.life over.in_life asked in
    record { known = k.known; life = l.0; ready = k.ready; in_life = l.1; served = over.served ∙ sym k.history }

pub prepares_over : {call : SetCall} {uploads : List (List ℕ)} {item : Item} {p q : Progress} {asks : List BodyAsk} {made : Option (Result Job SetError)} {events : List Event}
    → PreparesImport call uploads item p asks made events q → IsOver call p → IsOver call q
prepares_over (RefusedAtOnce here e is) over = over
prepares_over (Sought here i found is finds asked makes) over = bodies_over asked over

items_over : {call : SetCall} {made : Result Job SetError} {items : List Item} {p q : Progress} {came : ItemsCame} {events : List Event}
    → DoesItemsOver (with_known call made) items p came events q → IsOver call q
items_over does =
    record {
      known = record does.known { told = does.told };
      life = does.now.life;
      ready = ap (λ (x : Progress). x.machine.known) does.after_is;
      in_life = ap (λ (x : Progress). x.left) does.after_is;
      served = does.served;
    }

-- after an import the next one is over the same history
pub import_over : {call : SetCall} {uploads : List (List ℕ)} {item : Item} {p q : Progress} {asks : List BodyAsk} {ends : ItemEnd} {events : List Event}
    → TakesImport call uploads item p asks ends events q → ends ≢ OutOfMemory → IsOver call p → IsOver call q
import_over (BodyLost prepares) there over = prepares_over prepares over
import_over (Taken made ends prepares does) there over = items_over does
import_over (NoRoom lacks) there over = absurd (there refl)

pub serves : {call : SetCall} {p : Progress} → IsOver call p → p.standing ≡ Stands → IsServing call p
serves over stands = record { known = over.known; life = over.life; stands = stands; ready = over.ready; in_life = over.in_life; served = over.served }

-- the steps are done of the same call
pub over_known : {call : SetCall} {p : Progress} (made : Result Job SetError) → IsOver call p → IsOver (with_known call made) p
over_known made over = record { known = over.known; life = over.life; ready = over.ready; in_life = over.in_life; served = over.served }

-- ---- an import

module _ {call : SetCall} {uploads : List (List ℕ)} {item : Item} {before mid : Progress} {asks : List BodyAsk} {preparing : List Event} where
  -- its steps were done, or it was refused
  pub was_taken : {after : Progress} {doing : List Event} (made : Result Job SetError) (came : Result Done CallEnd) (machine : Machine) (client : ClientState) (was now : Faults)
      → PreparesImport call uploads item before asks (Some made) preparing mid → DoesItemsOver (with_known call made) (item ∷ []) mid (one_came item came) doing after
      → CameTo machine client Stands was now after → ImportCame call uploads item before came machine client was now (preparing ++ doing)
  was_taken {after = after} made (Ok done) machine client was now prepares does at = (asks, after, Taken made (Comes done) prepares does, at)
  was_taken {after = after} made (Err (ends.Fails e)) machine client was now prepares does at = (asks, after, Taken made (Ends e) prepares does, at)
  was_taken {after = after} made (Err ends.Memory) machine client was now prepares does at =
      (after, inl (asks, Taken made OutOfMemory prepares does), record { in_life = at.in_life; bears = at.bears })

  -- memory ran out once it was prepared
  pub no_room : (job : Job) (machine : Machine) (client : ClientState) (was now : Faults) → PreparesImport call uploads item before asks (Some (Ok job)) preparing mid
      → CameTo machine client Stands was now mid → ImportCame call uploads item before (Err ends.Memory) machine client was now preparing
  no_room job machine client was now prepares at = (mid, inr (inl (WhenMade job prepares)), record { in_life = at.in_life; bears = at.bears })

  -- its body didn't come
  was_lost : (machine : Machine) (client : ClientState) (was now : Faults) → PreparesImport call uploads item before asks None preparing mid
      → CameTo machine client Stands was now mid → ImportCame call uploads item before (Err (ends.Fails ServerUnavailable)) machine client was now preparing
  was_lost machine client was now prepares at = (asks, mid, BodyLost prepares, at)

-- its octets aren't there
pub was_not : (call : SetCall) (uploads : List (List ℕ)) (item : Item) (before : Progress) (machine : Machine) (client : ClientState) (was now : Faults) (es : List Event) (why : BodyError)
    → SeeksTo call uploads item before (Err why) machine client was now es → ImportCame call uploads item before (Err (end_of why)) machine client was now es
was_not call uploads item before machine client was now es body.Ended (asks, mid, prepares, at) = was_lost machine client was now prepares at
was_not call uploads item before machine client was now es body.Memory (mid, short, left) = (mid, inr short, left)

-- whose message is there, with the moment that is drawn
pub at_moment : {call : SetCall} {uploads : List (List ℕ)} {item : Item} {before mid : Progress} {asks : List BodyAsk} (asking drawing : List Event) (i : ReadyImport) (message : List ℕ)
    (moment : ℤ) (job : Job) → ((now : ℤ) → PreparesImport call uploads item before asks (Some (Ok (import_job i now message))) (asking ++ Clock now ∷ []) mid)
    → job ≡ import_job i moment message → drawing ≡ Clock moment ∷ [] → PreparesImport call uploads item before asks (Some (Ok job)) (asking ++ drawing) mid
at_moment {call = call} {uploads = uploads} {item = item} {before = before} {mid = mid} {asks = asks} asking drawing i message moment job ready job_is drawn =
    subst (λ (j : Job). PreparesImport call uploads item before asks (Some (Ok j)) (asking ++ drawing) mid) (sym job_is)
    (subst (λ (l : List Event). PreparesImport call uploads item before asks (Some (Ok (import_job i moment message))) (asking ++ l) mid) (sym drawn) (ready moment))
