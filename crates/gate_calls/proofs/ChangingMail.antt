-- A method that changes the mail of a request, where that is served.
use Rattle.std.proofs.Common.{◌≡◌, ◌≢◌, ◌∙◌, ◌⊎◌, ℕ, Bool, true, false, List, [], Option, Some, None, Result, Ok, Err, refl, sym, ap, subst, inl, inr}
use Rattle.std.specs.Prelude.{IsSome}
use Rattle.gate_world.specs.Causes.{Faults}
use Rattle.gate_world.specs.Tape.{Adds}
use Rattle.gate_world.specs.declared.event.Event.{Event}
use Rattle.gate_world.proofs.Joins.{none, widen}
use Rattle.serde_json.specs.declared.value.Value.{Value}
use Rattle.serde_json.specs.Data.{Data}
use Rattle.serde_json.specs.View.{view}
use Rattle.email_bodies.specs.Asking.{BodyAsk}
use Rattle.email_bodies.specs.declared.source.MessagePlace.{MessagePlace}
use Rattle.imap_client.specs.LinkLife.{LinkLife}
use Rattle.jmap_arguments.specs.declared.method_error.MethodError.{MethodError}
use Rattle.jmap_arguments.specs.declared.method_error.MethodError.TheVariants.{Memory}
use Rattle.jmap_core.specs.CreatedIds.{Ids}
use Rattle.mail_state.specs.History.{MailHistory}
use Rattle.set_arguments.specs.Arguments.{SetAsked, set_asked}
use Rattle.set_arguments.specs.declared.set_method.SetMethod.{SetMethod}
use Rattle.set_jobs.specs.declared.done.SetError.{SetError}
use Rattle.set_jobs.specs.declared.job.Job.{Job}
use Rattle.set_order.specs.Ordered.{Item}
use Rattle.set_items.specs.declared.item.ItemEnd.{ItemEnd}
use Rattle.set_items.specs.declared.item.ItemEnd.TheVariants as item_end
use Rattle.set_calls.specs.Calls.{SetCall}
use Rattle.gate_machine.specs.Beginning as settling
use Rattle.gate_machine.specs.Beginning.{Settles}
use Rattle.gate_machine.specs.Kept.{KeptMail}
use Rattle.gate_machine.specs.Progress.{CameTo, Progress}
use Rattle.gate_machine.specs.declared.mail_status.MailFailure.TheVariants.{Broken, Spent}
use Rattle.gate_machine.specs.declared.mail_status.MailStatus.TheVariants.{Stands, Unserved, OutOfMemory}
use Rattle.gate_machine.proofs.Stages.{held_ready}
use Rattle.gate_changes.specs.Answering as answering
use Rattle.gate_changes.specs.Answering.{ChangesAsked, DoesChange, ItemChecks}
use Rattle.gate_changes.specs.Changing as changing
use Rattle.gate_changes.specs.Changing.{DoesCourse}
use Rattle.gate_changes.specs.Importing.{IsServing, PreparesImport, RefusedAtOnce, Sought, TakesImport, BodyLost, Taken, NoRoom, DoesImports, NoImports, OutBefore, ImportDone, ImportEnds}
use Rattle.gate_changes.specs.Items.{DoesItemsOver, ItemsCame}
use Rattle.gate_changes.specs.reading.Answers.{AnswersTo, IsServed, answer_data}
use Rattle.gate_calls.specs.Calling.{CallsState, asks_of}
use Rattle.gate_calls.specs.ItemChecks.{item_checks}
use Rattle.gate_calls.specs.Mailings.{Mailing, mail_at, mailing_by}
use Rattle.gate_calls.specs.Methods.{RepliesTo}
use Rattle.gate_calls.specs.declared.method.Method.{Method}
use Rattle.gate_machine.specs.Fetching as fetching
use Rattle.gate_machine.specs.Fetching.{AllAsked, AsksBodies, AsksBody, NoBodies}
use Rattle.gate_machine.specs.Holding.{HoldsMachine}
use Rattle.email_bodies.proofs.Due.{none_due}
use Rattle.email_get.specs.Asked.{FailsAfter}
use Rattle.jmap_arguments.specs.Outcome.{Meets}
use Rattle.gate_calls.specs.RequestMail as request
use Rattle.gate_calls.specs.RequestMail.{DoesMethod, IsAt, RequestAnswers, RequestLacks, RequestMoment}
use Rattle.gate_calls.specs.Sources.{Gives}
use Rattle.gate_calls.specs.declared.method.Method.TheVariants.{Set}
use Rattle.gate_calls.proofs.Meaning.{is_memory}
use Rattle.gate_calls.proofs.OneChange.{goes_there, rest_well, still_out}
use Rattle.gate_calls.proofs.Working.{leaves_none}

-- ---- the link life

some_known : (o : Option KeptMail) → IsSome o → (a : KeptMail) × (o ≡ Some a)
some_known None is = absurd (let never : false ≡ true = is in cc)
some_known (Some a) is = (a, refl)

some_life : (o : Option LinkLife) → IsSome o → (life : LinkLife) × (o ≡ Some life)
some_life None is = absurd (let never : false ≡ true = is in cc)
some_life (Some life) is = (life, refl)

-- what is served where the mail is
served : {s : RequestMoment} {was : Faults} {p : Progress} → s.status ≡ Stands → IsSome s.machine.known → IsAt s was p
    → (h : MailHistory) × (mail_at p ≡ Ok h) × IsServed h p
served {s} {p = p} stands known here =
    let kept = some_known s.machine.known known in
    let k = held_ready p.machine s.machine kept.0 here.came.held kept.1 in
    let life = some_life p.left (here.has_life stands) in (
      k.0.history,
      (λ i. mailing_by ((here.came.standing_is ∙ stands) i) (k.1 i)),
      record { known = k.0; life = life.0; ready = k.1; in_life = life.1; served = refl },
    )

settled_life : {mid after : Progress} → Settles mid [] after → after.standing ≡ Stands → IsSome mid.left → IsSome after.left
settled_life (settling.Same k stands ready same none is) stood life = subst (λ (x : Progress). IsSome x.left) (sym is) life
settled_life (settling.Moves new next goes has none is) stood life = subst (λ (x : Progress). IsSome x.left) (sym is) life
settled_life (settling.Spends new spent none is) stood life =
    absurd (let both : Unserved Spent ≡ Stands = sym (ap (λ (p : Progress). p.standing) is) ∙ stood in cc)
settled_life (settling.Lacks stands none is) stood life = absurd (let both : OutOfMemory ≡ Stands = sym (ap (λ (p : Progress). p.standing) is) ∙ stood in cc)

broken_stood : (p q : Progress) → p ≡ changing.broken_off q → p.standing ≡ Stands → ⊥
broken_stood p q is stood = let both : Unserved Broken ≡ Stands = sym (ap (λ (x : Progress). x.standing) is) ∙ stood in cc

-- of items there is a life still
body_life : {message : MessagePlace} {p q : Progress} {body : Option (List ℕ)} {events : List Event} → AsksBody message p body events q → IsSome p.left → IsSome q.left
body_life (fetching.IsKept octets kept body_is none is) life = subst (λ (x : Progress). IsSome x.left) (sym is) life
body_life (fetching.IsTold octets asks body_is is) life = subst (λ (x : Progress). IsSome x.left) (sym is) refl
body_life (fetching.Ends e asks other body_is is) life = subst (λ (x : Progress). IsSome x.left) (sym is) refl
body_life (fetching.HasEnded kept ended body_is none is) life = subst (λ (x : Progress). IsSome x.left) (sym is) life

bodies_life : {p q : Progress} {asks : List BodyAsk} {events : List Event} → AsksBodies p asks events q → IsSome p.left → IsSome q.left
bodies_life fetching.NoBodies life = life
bodies_life (fetching.MoreBodies next bodies) life = body_life next.asks (bodies_life bodies life)

serving_life : {call : SetCall} {p : Progress} → IsServing call p → IsSome p.left
serving_life here = subst (λ (o : Option LinkLife). IsSome o) (sym here.in_life) refl

row_life : {call : SetCall} {items : List Item} {p q : Progress} {came : ItemsCame} {events : List Event} → DoesItemsOver call items p came events q → IsSome q.left
row_life does = subst (λ (x : Progress). IsSome x.left) (sym does.after_is) refl

prepared_life : {call : SetCall} {uploads : List (List ℕ)} {item : Item} {p q : Progress} {asks : List BodyAsk} {made : Option (Result Job SetError)} {events : List Event}
    → PreparesImport call uploads item p asks made events q → IsSome q.left
prepared_life (RefusedAtOnce here e is) = serving_life here
prepared_life (Sought here i found is finds asked makes) = bodies_life asked (serving_life here)

import_life : {call : SetCall} {uploads : List (List ℕ)} {item : Item} {p q : Progress} {asks : List BodyAsk} {ends : ItemEnd} {events : List Event}
    → TakesImport call uploads item p asks ends events q → ends ≢ item_end.OutOfMemory → IsSome q.left
import_life (BodyLost prepares) there = prepared_life prepares
import_life (Taken steps ends prepares does) there = row_life does
import_life (NoRoom lacks) there = absurd (there refl)

imports_life : {call : SetCall} {uploads : List (List ℕ)} {made : Bool} {items : List Item} {p q : Progress} {came : ItemsCame} {events : List Event}
    → DoesImports call uploads made p items came events q → came ≢ Err item_end.OutOfMemory → IsSome q.left
imports_life (NoImports here) there = serving_life here
imports_life (OutBefore here) there = absurd (there refl)
imports_life (ImportDone {came = came} item done takes rest) there = imports_life rest (rest_well (item, done) came there)
imports_life {made = made} (ImportEnds item ends not takes) there = import_life takes (λ is. there (still_out made ends is))

course_life : {call : SetCall} {items : List Item} {p q : Progress} {came : ItemsCame} {events : List Event} → DoesCourse call items p came events q → came ≢ Err item_end.OutOfMemory
    → IsSome q.left
course_life (changing.InRow row does) there = row_life does
course_life (changing.OneByOne uploads rules imports) there = imports_life imports there

change_life : {uploads : List (List ℕ)} {m : SetMethod} {a : SetAsked} {h : MailHistory} {s t : CallsState} {r : Result Data MethodError} {es : List Event} → ChangesAsked (item_checks uploads) m a h s r es t
    → t.progress.standing ≡ Stands → IsSome s.progress.left → IsSome t.progress.left
change_life (answering.Mismatch is r_is none same) stood life = subst (λ (x : CallsState). IsSome x.progress.left) (sym same) life
change_life (answering.Changes items came is those (changing.Committed came' mid does goes settles stands r_is) answers) stood life =
    settled_life settles stood (course_life does (goes_there came' goes))
change_life {t = t} (answering.Changes items came is those (changing.SpentBy came' mid spent doing ending does goes settles spent_is hangs whole after_is r_is) answers) stood life =
    absurd (broken_stood t.progress spent after_is stood)
change_life {t = t} (answering.Changes items came is those (changing.FailedInPart mid doing ending does hangs whole after_is r_is) answers) stood life =
    absurd (broken_stood t.progress mid after_is stood)

-- ---- where the mail can't be told

module _ (uploads : List (List ℕ)) (s : RequestMoment) (m : Method) (d : Data) (e : MethodError)
    (untold : (p : Progress) → HoldsMachine p.machine s.machine → p.standing ≡ s.status → mail_at p ≡ Err e) where
  answers_untold : (r : Result Data MethodError) → RepliesTo m (record { mail = Err e; uploads = uploads }) d [] r → RequestAnswers uploads s m d r s
  answers_untold r replies =
      record {
        run = none s.tape _ (λ p was here. (
          [],
          p,
          request.ReadsMail [] (subst (λ (mail : Mailing). RepliesTo m (record { mail = mail; uploads = uploads }) d [] r) (sym (untold p here.came.held here.came.standing_is)) replies)
              NoBodies refl refl,
          here,
        ));
        leaves = leaves_none s;
      }

  lacks_untold : RequestLacks uploads s m d s
  lacks_untold =
      record {
        run = none s.tape _ (λ p was here. (
          p,
          request.LacksReading [] (AllAsked NoBodies) (none_due (FailsAfter (RepliesTo m (record { mail = mail_at p; uploads = uploads }) d))),
          here.came.in_life,
          here.came.bears,
        ));
        leaves = leaves_none s;
      }

  pub replies_untold : (came : Result Value MethodError) → Meets Memory view came (RepliesTo m (record { mail = Err e; uploads = uploads }) d [])
      → Gives (λ r. RequestAnswers uploads s m d r s) (RequestLacks uploads s m d s) came
  replies_untold (Ok value) meets = answers_untold (Ok (view value)) meets
  replies_untold (Err f) (inl out) = inl (out, lacks_untold)
  replies_untold (Err f) (inr meets) = inr (answers_untold (Err f) meets)

-- ---- a call that is refused by its arguments

pub refused : (uploads : List (List ℕ)) (s : RequestMoment) (m : SetMethod) (d : Data) (e : MethodError) → s.status ≡ Stands → IsSome s.machine.known
    → (e ≡ Memory) ⊎ (set_asked m d ≡ Err e) → Gives (λ r. RequestAnswers uploads s (Set m) d r s) (RequestLacks uploads s (Set m) d s) (Err e)
refused uploads s m d e stands known (inl out) =
    inl (
      out,
      record {
        run = none s.tape _ (λ p was here.
            let serves = served stands known here in
            (p, request.LacksChanging m serves.0 refl serves.1 (answering.Unread refl refl), here.came.in_life, here.came.bears));
        leaves = leaves_none s;
      },
    )
refused uploads s m d e stands known (inr is) =
    inr (record {
      run = none s.tape _ (λ p was here.
          let serves = served stands known here in
          ([], p, request.ChangesMail m serves.0 refl serves.1 (answering.Refused e is refl refl refl) refl, here));
      leaves = leaves_none s;
    })

-- ---- what a call asks is done

module _ (uploads : List (List ℕ)) (before after : RequestMoment) (m : SetMethod) (a : SetAsked) (d : Data) (asked : set_asked m d ≡ Ok a) (stands : before.status ≡ Stands)
    (known : IsSome before.machine.known) (leaves : request.LeavesOutside before after) where
  -- what is known of the code that does it
  abbrev pub Runs : Result Value MethodError → Type 0
  Runs came =
      Adds before.tape after.tape (λ es. (all : ItemChecks) (h : MailHistory) (start : CallsState) (was : Faults) → all m a ≡ item_checks uploads m a
      → start.created ≡ before.created → IsServed h start.progress → CameTo before.machine before.client Stands was before.faults start.progress
      → AnswersTo all m a h start came after.created after.machine after.client after.status was after.faults es)

  stood : {p : Progress} {was : Faults} → IsAt before was p → CameTo before.machine before.client Stands was before.faults p
  stood here = record { held = here.came.held; standing_is = here.came.standing_is ∙ stands; in_life = here.came.in_life; bears = here.came.bears }

  changes : (r : Result Data MethodError) (came : Result Value MethodError) → answer_data came ≡ r → came ≢ Err Memory → Runs came
      → RequestAnswers uploads before (Set m) d r after
  changes r came came_is there run =
      record {
        run = widen _ run (λ es runs p was here.
            let serves = served stands known here in
            let start : CallsState = record { progress = p; created = before.created } in
            let so = (runs (item_checks uploads) serves.0 start was refl refl serves.2 (stood here)).answered there in
            let does : ChangesAsked (item_checks uploads) m a serves.0 start r es so.after =
            subst (λ (x : Result Data MethodError). ChangesAsked (item_checks uploads) m a serves.0 start x es so.after) came_is so.changes in
            let change : DoesChange (item_checks uploads) m d (Ok serves.0) start r es so.after = answering.Asked a serves.0 asked refl does in
            let method : DoesMethod uploads (Set m) d start (asks_of change) r es (record { progress = so.after.progress; created = so.after.created }) =
            request.ChangesMail m serves.0 refl serves.1 change refl in (
              asks_of change,
              so.after.progress,
              subst (λ (ids : Ids). DoesMethod uploads (Set m) d start (asks_of change) r es (record { progress = so.after.progress; created = ids })) (sym so.created_is)
                  method,
              record {
                came = so.at;
                has_life = λ still. change_life does (so.at.standing_is ∙ still) (here.has_life stands);
              },
            ));
        leaves = leaves;
      }

  lacks : (came : Result Value MethodError) → came ≡ Err Memory → Runs came → RequestLacks uploads before (Set m) d after
  lacks came out run =
      record {
        run = widen _ run (λ es runs p was here.
            let serves = served stands known here in
            let start : CallsState = record { progress = p; created = before.created } in
            let so = (runs (item_checks uploads) serves.0 start was refl refl serves.2 (stood here)).lacks out in (
              so.after,
              request.LacksChanging m serves.0 refl serves.1 (answering.LacksIn a serves.0 asked refl so.lacks),
              so.at.in_life,
              so.at.bears,
            ));
        leaves = leaves;
      }

  pub changed : (came : Result Value MethodError) → Runs came
      → Gives (λ r. RequestAnswers uploads before (Set m) d r after) (RequestLacks uploads before (Set m) d after) came
  changed (Ok value) run = changes (Ok (view value)) (Ok value) refl (λ is. cc) run
  changed (Err e) run = elim (is_memory e) [
    | inl out ↦ inl (out, lacks (Err e) (ap (λ (x : MethodError). let r : Result Value MethodError = Err x in r) out) run)
    | inr other ↦ inr (changes (Err e) (Err e) refl (λ is. other (let same : (let r : Result Value MethodError = Err e in r) ≡ Err Memory = is in cc)) run)
  ]
