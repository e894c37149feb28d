-- Why calls that change mail end with an error.
use Rattle.std.proofs.Common.{◌≡◌, ◌≢◌, ◌⊎◌, ◌∙◌, ◌++◌, ◌||◌, ℕ, Bool, true, false, List, [], ◌∷◌, Some, Result, Ok, Err, refl, sym, ap, subst, inl, inr}
use Rattle.gate_world.specs.declared.event.Event.{Event}
use Rattle.told_mail.specs.Mail.{Mail}
use Rattle.imap_client.specs.LinkLife.{LinkLife}
use Rattle.jmap_arguments.specs.declared.method_error.MethodError.{MethodError}
use Rattle.jmap_arguments.specs.declared.method_error.MethodError.TheVariants.{ServerFail, ServerPartialFail, ServerUnavailable}
use Rattle.set_jobs.specs.declared.done.Done.{Done}
use Rattle.set_order.specs.Ordered.{Item}
use Rattle.set_items.specs.Causes.{Ending}
use Rattle.set_items.specs.declared.item.ItemEnd.TheVariants.{Comes, Ends, OutOfMemory}
use Rattle.set_calls.specs.Calls.{SetCall, CallState, RunsItems, call_begun}
use Rattle.set_calls.specs.Promises.{IsEndedBy}
use Rattle.gate_machine.specs.Beginning.{Settles, Same, Moves, Spends, Lacks}
use Rattle.gate_machine.specs.History.{KnownMail, IsSpent}
use Rattle.gate_machine.specs.Progress.{Progress}
use Rattle.gate_machine.specs.declared.mail_status.MailFailure.TheVariants.{Spent}
use Rattle.gate_machine.specs.declared.mail_status.MailStatus.TheVariants as standing
use Rattle.gate_changes.specs.Changing.{DoesCourse, InRow, OneByOne, ChangesMail, Committed, SpentBy, FailedInPart, GoesToCommit, where_committed}
use Rattle.gate_changes.specs.Items.{DoesItemsOver, ItemsCame}
use Rattle.email_bodies.specs.Asking.{BodyAsk}
use Rattle.set_jobs.specs.declared.done.SetError.{SetError}
use Rattle.set_jobs.specs.declared.job.Job.{Job}
use Rattle.set_items.specs.Causes.{FailedPartly, WasUnavailable}
use Rattle.set_items.specs.Ends.{error_where}
use Rattle.set_items.specs.declared.item.ItemEnd.{ItemEnd}
use Rattle.set_calls.specs.Promises.{ChecksFit}
use Rattle.gate_changes.specs.Importing.{IsServing, PreparesImport, RefusedAtOnce, Sought, TakesImport, BodyLost, Taken, NoRoom, DoesImports, NoImports, OutBefore, ImportDone, ImportEnds}
use Rattle.gate_changes.specs.Importing.{before_these, ends_after, is_made, with_known}
use Rattle.gate_changes.proofs.Ends.{ends_either}
use Rattle.call_laws.specs.Ended.{HasNoPlaces, ImportFails, StepsFail, StoreGone, BodyGone, IsEndedIn, IsEndedSo, EndedByImport, any_made}
use Rattle.call_laws.proofs.Fit.{ImportsFit, steps_fit}

-- what is proved of items in order
abbrev pub EndsSo : (Ending → Type 0) → MethodError → SetCall → Type 0
EndsSo Why e call = (items : List Item) (m : Mail) (life : LinkLife) (after : CallState) (events : List Event)
    → RunsItems call items (call_begun m life) (Err (Ends e)) events after → IsEndedBy Why e call items (call_begun m life) after events

pub over_items : {Why : Ending → Type 0} {e : MethodError} {call : SetCall} {items : List Item} {before after : Progress} {doing : List Event} → EndsSo Why e call
    → DoesItemsOver call items before (Err (Ends e)) doing after → IsEndedIn Why e call items before
over_items {items = items} {doing = doing} so does = record {
  known = does.known;
  life = does.life;
  now = does.now;
  doing = doing;
  ready = does.ready;
  in_life = does.in_life;
  ended = so items does.known.told.mail does.life does.now doing does.runs;
}

-- the items came to this end
ended_as : (came : ItemsCame) (e : MethodError) → GoesToCommit came → ◌≡◌ {A = Result (List (Item × Done)) MethodError} (Err e) (where_committed came)
    → (e ≡ ServerUnavailable) × (came ≡ Err (Ends ServerUnavailable))
ended_as (Ok done) e goes is = absurd (cc)
ended_as (Err (Comes done)) e goes is = absurd goes
ended_as (Err OutOfMemory) e goes is = absurd goes
ended_as (Err (Ends ServerUnavailable)) e goes is = (cc, refl)
ended_as (Err (Ends other)) e goes is = absurd goes

-- ---- imports

-- what is proved of the items of any call whose items have the steps that they may have
pub record StepsLaws : Type 0 where
  pub partly : {c : SetCall} → ChecksFit c → EndsSo FailedPartly ServerPartialFail c
  pub unavailable : {c : SetCall} → ChecksFit c → EndsSo WasUnavailable ServerUnavailable c
  pub imports : ImportsFit

serving : {call : SetCall} {uploads : List (List ℕ)} {item : Item} {p q : Progress} {asks : List BodyAsk} {ends : ItemEnd} {events : List Event}
    → TakesImport call uploads item p asks ends events q → ends ≢ OutOfMemory → IsServing call p
serving (BodyLost (Sought here i found is finds asked makes)) there = here
serving (Taken made ends (RefusedAtOnce here e is) does) there = here
serving (Taken made ends (Sought here i found is finds asked makes) does) there = here
serving (NoRoom lacks) there = absurd (there refl)

-- where the store wasn't there for it
where_is : (made : Bool) (e : MethodError) → ends_after made (Ends ServerUnavailable) ≡ Ends e → e ≡ error_where made
where_is true e is = let same : ServerPartialFail ≡ e = cc in sym same
where_is false e is = let same : ServerUnavailable ≡ e = cc in sym same

-- its steps failed in part
part_is : (made : Bool) (e : MethodError) → ends_after made (Ends ServerPartialFail) ≡ Ends e → e ≡ ServerPartialFail
part_is true e is = let same : ServerPartialFail ≡ e = cc in sym same
part_is false e is = let same : ServerPartialFail ≡ e = cc in sym same

never_out : (made : Bool) (e : MethodError) → ends_after made OutOfMemory ≡ Ends e → ⊥
never_out true e is = cc
never_out false e is = cc

not_out : (made : Bool) (e : MethodError) (ends : ItemEnd) → ends_after made ends ≡ Ends e → ends ≢ OutOfMemory
not_out made e ends is out = never_out made e (ap (ends_after made) (sym out) ∙ is)

no_more_made : (made : Bool) → (made || false) ≡ made
no_more_made true = refl
no_more_made false = refl

made_both : (a b c : Bool) → ((a || b) || c) ≡ (a || (b || c))
made_both true b c = refl
made_both false b c = refl

rest_ends : (x : Item × Done) (came : ItemsCame) (e : MethodError) → before_these x came ≡ Err (Ends e) → came ≡ Err (Ends e)
rest_ends x (Ok done) e is = absurd (cc)
rest_ends x (Err ends) e is = is

module _ (laws : StepsLaws) where
  -- the steps ended it with this error
  steps_end : {call : SetCall} {uploads : List (List ℕ)} {item : Item} {p mid q : Progress} {asks : List BodyAsk} {steps : Result Job SetError} {preparing doing : List Event}
      (made : Bool) (f e : MethodError) → PreparesImport call uploads item p asks (Some steps) preparing mid
      → DoesItemsOver (with_known call steps) (item ∷ []) mid (Err (Ends f)) doing q → ends_after made (Ends f) ≡ Ends e → ImportFails call uploads made item p e
  steps_end {call = call} {uploads = uploads} {item = item} {p = p} {mid = mid} {q = q} {steps = steps} {doing = doing} made f e prepares does is = elim (ends_either f does.runs) [
    | inl part ↦
        subst (ImportFails call uploads made item p) (sym (part_is made e (ap (λ (x : MethodError). ends_after made (Ends x)) (sym part) ∙ is)))
        (StepsFail steps prepares (over_items (laws.partly (steps_fit laws.imports prepares))
        (subst (λ (x : MethodError). DoesItemsOver (with_known call steps) (item ∷ []) mid (Err (Ends x)) doing q) part does)))
    | inr gone ↦
        subst (ImportFails call uploads made item p) (sym (where_is made e (ap (λ (x : MethodError). ends_after made (Ends x)) (sym gone) ∙ is)))
        (StoreGone steps prepares (over_items (laws.unavailable (steps_fit laws.imports prepares))
        (subst (λ (x : MethodError). DoesItemsOver (with_known call steps) (item ∷ []) mid (Err (Ends x)) doing q) gone does)))
  ]

  import_fails : {call : SetCall} {uploads : List (List ℕ)} {item : Item} {p q : Progress} {asks : List BodyAsk} {ends : ItemEnd} {events : List Event} (made : Bool) (e : MethodError)
      → TakesImport call uploads item p asks ends events q → ((done : Done) → ends ≢ Comes done) → ends_after made ends ≡ Ends e → ImportFails call uploads made item p e
  import_fails {call = call} {uploads = uploads} {item = item} {p = p} made e (BodyLost prepares) not is =
      subst (ImportFails call uploads made item p) (sym (where_is made e is)) (BodyGone prepares)
  import_fails made e (Taken steps (Ends f) prepares does) not is = steps_end made f e prepares does is
  import_fails made e (Taken steps (Comes done) prepares does) not is = absurd (not done refl)
  import_fails made e (Taken steps OutOfMemory prepares does) not is = absurd (never_out made e is)
  import_fails made e (NoRoom lacks) not is = absurd (never_out made e is)

  imports_fail : {call : SetCall} {uploads : List (List ℕ)} {made : Bool} {items : List Item} {p q : Progress} {came : ItemsCame} {events : List Event} (e : MethodError)
      → DoesImports call uploads made p items came events q → came ≡ Err (Ends e) → EndedByImport uploads e call made items p
  imports_fail e (NoImports here) is = absurd (cc)
  imports_fail e (OutBefore here) is = absurd (cc)
  imports_fail {call = call} {uploads = uploads} {made = made} {items = items} e (ImportDone {items = rest_items} {came = came} item done takes rest) is =
      let so = imports_fail e rest (rest_ends (item, done) came e is) in
      record {
        earlier = item ∷ so.earlier;
        item = so.item;
        later = so.later;
        whole = ap (λ (l : List Item). item ∷ l) so.whole;
        done = (item, done) ∷ so.done;
        doing = _ ++ so.doing;
        mid = so.mid;
        course = ImportDone item done takes so.course;
        fails = subst (λ (b : Bool). ImportFails call uploads b so.item so.mid e) (made_both made (is_made done) (any_made so.done)) so.fails;
      }
  imports_fail {call = call} {uploads = uploads} {made = made} {p = p} e (ImportEnds {items = later} item ends not takes) is =
      let same : ends_after made ends ≡ Ends e = cc in
      record {
        earlier = [];
        item = item;
        later = later;
        whole = refl;
        done = [];
        doing = [];
        mid = p;
        course = NoImports (serving takes (not_out made e ends same));
        fails = subst (λ (b : Bool). ImportFails call uploads b item p e) (sym (no_more_made made)) (import_fails made e takes not same);
      }

  pub course_fails : {Why : Ending → Type 0} {call : SetCall} {items : List Item} {p q : Progress} {events : List Event} (e : MethodError) → EndsSo Why e call
      → DoesCourse call items p (Err (Ends e)) events q → IsEndedSo Why e call items p
  course_fails e so (InRow row does) = inl (over_items so does)
  course_fails e so (OneByOne uploads rules imports) = inr (record { uploads = uploads; are_imports = rules; ended = imports_fail e imports refl })

  pub partly : {Why : Ending → Type 0} (call : SetCall) (items : List Item) (before : Progress) (events : List Event) (after : Progress) → EndsSo Why ServerPartialFail call
      → ChangesMail call items before (Err ServerPartialFail) events after → IsEndedSo Why ServerPartialFail call items before
  partly call items before events after so (Committed came mid does goes settles stands is) =
      absurd (let no = (ended_as came ServerPartialFail goes is).0 in cc)
  partly call items before events after so (SpentBy came mid spent doing ending does goes settles is hangs whole after_is result_is) = absurd (cc)
  partly call items before events after so (FailedInPart mid doing ending does hangs whole after_is is) = course_fails ServerPartialFail so does

  pub unavailable : {Why : Ending → Type 0} (call : SetCall) (items : List Item) (before : Progress) (events : List Event) (after : Progress) → EndsSo Why ServerUnavailable call
      → ChangesMail call items before (Err ServerUnavailable) events after → IsEndedSo Why ServerUnavailable call items before
  unavailable call items before events after so (Committed came mid does goes settles stands is) =
      course_fails ServerUnavailable so (subst (λ (c : ItemsCame). DoesCourse call items before c events mid) (ended_as came ServerUnavailable goes is).1 does)
  unavailable call items before events after so (SpentBy came mid spent doing ending does goes settles is hangs whole after_is result_is) = absurd (cc)
  unavailable call items before events after so (FailedInPart mid doing ending does hangs whole after_is is) = absurd (cc)

-- a commit for which a place would pass the last one
spends : (mid spent : Progress) (events : List Event) → Settles mid events spent → spent.standing ≡ standing.Unserved Spent
    → (k : KnownMail) × (mid.machine.known ≡ Some k) × IsSpent k
spends mid spent events (Same k stands ready same none is) not =
    absurd (let so : standing.Stands ≡ standing.Unserved Spent = sym stands ∙ (ap (λ (p : Progress). p.standing) (sym is) ∙ not) in cc)
spends mid spent events (Moves new next goes room none is) not =
    absurd (let so : standing.Stands ≡ standing.Unserved Spent = sym new.stands ∙ (ap (λ (p : Progress). p.standing) (sym is) ∙ not) in cc)
spends mid spent events (Spends new is_spent none is) not = (new.known, new.ready, is_spent)
spends mid spent events (Lacks stands none is) not =
    absurd (let so : standing.OutOfMemory ≡ standing.Unserved Spent = ap (λ (p : Progress). p.standing) (sym is) ∙ not in cc)

pub fail : (call : SetCall) (items : List Item) (before : Progress) (events : List Event) (after : Progress)
    → ChangesMail call items before (Err ServerFail) events after → HasNoPlaces call items before
fail call items before events after (Committed came mid does goes settles stands is) = absurd (let no = (ended_as came ServerFail goes is).0 in cc)
fail call items before events after (SpentBy came mid spent doing ending does goes settles is hangs whole after_is result_is) =
    let so = spends mid spent [] settles is in
    record { came = came; doing = doing; mid = mid; known = so.0; does = does; ready = so.1; spent = so.2 }
fail call items before events after (FailedInPart mid doing ending does hangs whole after_is is) = absurd (cc)

error_same : {A : Type 0} (a b : MethodError) → ◌≡◌ {A = Result A MethodError} (Err a) (Err b) → a ≡ b
error_same a b is = cc

pub others : (call : SetCall) (items : List Item) (before : Progress) (e : MethodError) (events : List Event) (after : Progress)
    → ChangesMail call items before (Err e) events after → (e ≡ ServerPartialFail) ⊎ (e ≡ ServerUnavailable) ⊎ (e ≡ ServerFail)
others call items before e events after (Committed came mid does goes settles stands is) = inr (inl (ended_as came e goes is).0)
others call items before e events after (SpentBy came mid spent doing ending does goes settles is hangs whole after_is result_is) =
    inr (inr (error_same e ServerFail result_is))
others call items before e events after (FailedInPart mid doing ending does hangs whole after_is is) = inl (error_same e ServerPartialFail is)
