-- What a changing call leaves of what the machine knows.
use Rattle.std.proofs.Common.{◌≡◌, ◌≢◌, ◌⊎◌, ◌∙◌, ◌++◌, inl, inr, ℕ, Bool, false, List, [], Option, Some, None, Result, Ok, Err, refl, sym, ap, subst}
use Rattle.std.proofs.lemmas.List.{append-nil}
use Rattle.gate_world.specs.declared.event.Event.{Event}
use Rattle.email_bodies.specs.Asking.{BodyAsk}
use Rattle.imap_client.specs.LinkLife.{LinkLife}
use Rattle.jmap_arguments.specs.declared.method_error.MethodError.{MethodError}
use Rattle.gate_machine.specs.Beginning.{Settles, Same, Moves, Spends, Lacks}
use Rattle.gate_machine.specs.Going.{MachineGoesOn}
use Rattle.gate_machine.specs.History.{KnownMail, served_anew}
use Rattle.gate_machine.specs.KeptBodies.{CallsTell, IsAmong, KeepsBody}
use Rattle.gate_machine.specs.Machine.{MachineState}
use Rattle.gate_machine.specs.Progress.{Progress, is_up}
use Rattle.gate_machine.specs.ServedFolders.{TellsServedFolders}
use Rattle.gate_machine.specs.Sources.{KnowsExchanges}
use Rattle.gate_machine.specs.declared.mail_status.MailFailure.TheVariants as failure
use Rattle.gate_machine.specs.declared.mail_status.MailStatus.TheVariants as standing
use Rattle.gate_machine.specs.Fetching.{CallsAsk, AllAsked}
use Rattle.gate_machine.proofs.Going.{goes_after, goes_both, goes_calls, goes_still, goes_by_events, goes_known, goes_nowhere, goes_settled}
use Rattle.gate_machine.proofs.ServedFolders.{HaveMessages, settled_tells}
use Rattle.gate_machine.proofs.Sources.{heard, knows_nothing, knows_same, knows_settled, knows_this}
use Rattle.set_jobs.specs.declared.done.Done.{Done}
use Rattle.set_jobs.specs.declared.done.SetError.{SetError}
use Rattle.set_jobs.specs.declared.job.Job.{Job}
use Rattle.set_order.specs.Ordered.{Item}
use Rattle.set_items.specs.declared.item.ItemEnd.{ItemEnd}
use Rattle.set_items.specs.declared.item.ItemEnd.TheVariants.{Comes, Ends, OutOfMemory}
use Rattle.set_calls.specs.Calls.{SetCall}
use Rattle.gate_changes.specs.Changing.{DoesCourse, InRow, OneByOne, GoesToCommit, ChangesMail, Committed, SpentBy, FailedInPart, LacksChange, InItems, InCommit, hung}
use Rattle.gate_changes.specs.Items.{DoesItemsOver, ItemsCame}
use Rattle.gate_changes.proofs.Doing.{one_known}
use Rattle.gate_changes.specs.Importing.{PreparesImport, RefusedAtOnce, Sought, LacksRoom, Seeking, WhenMade, TakesImport, BodyLost, Taken, NoRoom}
use Rattle.gate_changes.specs.Importing.{DoesImports, NoImports, OutBefore, ImportDone, ImportEnds}
use Rattle.gate_changes.specs.ToldBodies.{ChangeTells, CourseTells, ImportTells, ImportsTell, LacksChangeTells, LacksTell, PreparesTell}
use Rattle.gate_changes.proofs.Telling.{runs_tell}
use Rattle.gate_changes.proofs.Through.{Any, Well, course_through, well_done, well_end, well_rest}

-- what goes to the commit isn't a call for which there was no memory
pub goes_well : (came : ItemsCame) → GoesToCommit came → came ≢ Err OutOfMemory
goes_well (Ok done) goes = λ is. cc
goes_well (Err (Comes done)) goes = λ is. cc
goes_well (Err (Ends e)) goes = λ is. cc
goes_well (Err OutOfMemory) goes = λ is. absurd goes

machine_is : (p q : Progress) → q ≡ p → q.machine ≡ p.machine
machine_is p q is = ap (λ (x : Progress). x.machine) is

-- ---- what is known comes of exchanges

does_know : {call : SetCall} {items : List Item} {before after : Progress} {came : ItemsCame} {events : List Event} → DoesItemsOver call items before came events after
    → came ≢ Err OutOfMemory → KnowsExchanges before.machine → KnowsExchanges after.machine
does_know {after = after} d well knows =
    knows_this after.machine (record d.known { told = d.told }) (ap (λ (p : Progress). p.machine.known) d.after_is)
    (heard d.known d.told d.now.exchanges (knows d.known d.ready) (d.told_is ∙ runs_tell d.known.told.mail d.runs well))

-- what is proved of bodies that are asked
abbrev pub AsksKnow : Type 0
AsksKnow = (p : Progress) (tried : List BodyAsk) (events : List Event) (q : Progress) → CallsAsk p tried events q → KnowsExchanges p.machine → KnowsExchanges q.machine

course_knows : AsksKnow → {call : SetCall} {items : List Item} {before after : Progress} {came : ItemsCame} {events : List Event} → DoesCourse call items before came events after
    → came ≢ Err OutOfMemory → KnowsExchanges before.machine → KnowsExchanges after.machine
course_knows law does well =
    course_through (λ p es q. KnowsExchanges p.machine → KnowsExchanges q.machine) (λ p knows. knows) (λ p now knows. knows) law Well well_done well_rest well_end
    (λ call items p came events q fits d. does_know d fits) (λ p q r es fs one two knows. two (one knows)) well does

pub changes_know : AsksKnow → (call : SetCall) (items : List Item) (before : Progress) (result : Result (List (Item × Done)) MethodError) (events : List Event) (after : Progress)
    → ChangesMail call items before result events after → KnowsExchanges before.machine → KnowsExchanges after.machine
changes_know law call items before result events after (Committed came mid does goes settles stands is) knows =
    knows_settled settles (course_knows law does (goes_well came goes) knows)
changes_know law call items before result events after (SpentBy came mid spent doing ending does goes settles why hangs whole is error) knows =
    knows_same spent.machine after.machine (machine_is _ after is) (knows_settled settles (course_knows law does (goes_well came goes) knows))
changes_know law call items before result events after (FailedInPart mid doing ending does hangs whole is error) knows =
    knows_same mid.machine after.machine (machine_is _ after is) (course_knows law does (λ same. cc) knows)

pub lacks_know : AsksKnow → (call : SetCall) (items : List Item) (before : Progress) (events : List Event) (after : Progress) → LacksChange call items before events after
    → KnowsExchanges before.machine → KnowsExchanges after.machine
lacks_know law call items before events after (InItems mid does is) knows = knows_nothing after.machine (ap (λ (p : Progress). p.machine.known) is)
lacks_know law call items before events after (InCommit came mid does goes settles why) knows = knows_settled settles (course_knows law does (goes_well came goes) knows)

-- ---- the history goes on

does_go : {call : SetCall} {items : List Item} {before after : Progress} {came : ItemsCame} {events : List Event} → DoesItemsOver call items before came events after
    → MachineGoesOn before.machine events after.machine
does_go {before = before} {after = after} {events = events} d =
    goes_known before.machine after.machine d.known (record d.known { told = d.told }) events d.ready (ap (λ (p : Progress). p.machine.known) d.after_is) refl

course_goes : {call : SetCall} {items : List Item} {before after : Progress} {came : ItemsCame} {events : List Event} → DoesCourse call items before came events after
    → MachineGoesOn before.machine events after.machine
course_goes =
    course_through (λ p es q. MachineGoesOn p.machine es q.machine) (λ p. goes_still p.machine p.machine [] refl) (λ p now. goes_still p.machine p.machine _ refl) goes_calls Any
    (λ item done. tt) (λ e came fits. tt) (λ item made ends fits. tt) (λ call items p came events q fits d. does_go d)
    (λ p q r es fs. goes_both p.machine q.machine r.machine es fs) tt

-- with the commit
commits_go : {call : SetCall} {items : List Item} {before mid after : Progress} {came : ItemsCame} {events : List Event} → DoesCourse call items before came events mid
    → Settles mid [] after → MachineGoesOn before.machine events after.machine
commits_go {before = before} {mid = mid} {after = after} {events = events} does settles =
    goes_by_events before.machine after.machine (events ++ []) events (sym (append-nil events))
    (goes_both before.machine mid.machine after.machine events [] (course_goes does) (goes_settled settles))

-- and what ended the life after it
ends_go : (before p after : Progress) (doing ending events : List Event) → MachineGoesOn before.machine doing p.machine → events ≡ doing ++ ending
    → after.machine ≡ p.machine → MachineGoesOn before.machine events after.machine
ends_go before p after doing ending events goes whole same =
    goes_by_events before.machine after.machine (doing ++ ending) events whole
    (subst (λ (m : MachineState). MachineGoesOn before.machine (doing ++ ending) m) (sym same) (goes_after before.machine p.machine doing ending goes))

pub changes_go : (call : SetCall) (items : List Item) (before : Progress) (result : Result (List (Item × Done)) MethodError) (events : List Event) (after : Progress)
    → ChangesMail call items before result events after → MachineGoesOn before.machine events after.machine
changes_go call items before result events after (Committed came mid does goes settles stands is) = commits_go does settles
changes_go call items before result events after (SpentBy came mid spent doing ending does goes settles why hangs whole is error) =
    ends_go before spent after doing ending events (commits_go does settles) whole (machine_is _ after is)
changes_go call items before result events after (FailedInPart mid doing ending does hangs whole is error) =
    ends_go before mid after doing ending events (course_goes does) whole (machine_is _ after is)

pub lacks_go : (call : SetCall) (items : List Item) (before : Progress) (events : List Event) (after : Progress) → LacksChange call items before events after
    → MachineGoesOn before.machine events after.machine
lacks_go call items before events after (InItems mid does is) = goes_nowhere before.machine after.machine events (ap (λ (p : Progress). p.machine.known) is)
lacks_go call items before events after (InCommit came mid does goes settles why) = commits_go does settles

-- ---- the folders of served Emails

pub changes_tell : AsksKnow → HaveMessages → (call : SetCall) (items : List Item) (before : Progress) (result : Result (List (Item × Done)) MethodError) (events : List Event)
    (after : Progress) → ChangesMail call items before result events after → KnowsExchanges before.machine → after.standing ≡ standing.Stands
    → TellsServedFolders after.machine
changes_tell know law call items before result events after (Committed came mid does goes settles stands is) knows now =
    settled_tells law settles (course_knows know does (goes_well came goes) knows) stands
changes_tell know law call items before result events after (SpentBy came mid spent doing ending does goes settles why hangs whole is error) knows now =
    absurd (cc (sym (ap (λ (p : Progress). p.standing) is) ∙ now))
changes_tell know law call items before result events after (FailedInPart mid doing ending does hangs whole is error) knows now =
    absurd (cc (sym (ap (λ (p : Progress). p.standing) is) ∙ now))

-- ---- what breaks off

hung_down : (left : Option LinkLife) → is_up (hung left) ≡ false
hung_down None = refl
hung_down (Some life) = refl

pub breaks_off : (call : SetCall) (items : List Item) (before : Progress) (result : Result (List (Item × Done)) MethodError) (events : List Event) (after : Progress)
    → ChangesMail call items before result events after → after.standing ≢ standing.Stands
    → (after.standing ≡ standing.Unserved failure.Broken) × (is_up after.left ≡ false)
breaks_off call items before result events after (Committed came mid does goes settles stands is) other = absurd (other stands)
breaks_off call items before result events after (SpentBy came mid spent doing ending does goes settles why hangs whole is error) other = (
  ap (λ (p : Progress). p.standing) is,
  ap (λ (p : Progress). is_up p.left) is ∙ hung_down spent.left,
)
breaks_off call items before result events after (FailedInPart mid doing ending does hangs whole is error) other = (
  ap (λ (p : Progress). p.standing) is,
  ap (λ (p : Progress). is_up p.left) is ∙ hung_down mid.left,
)

-- ---- bodies that are kept

known_keeps : (m n : MachineState) (k l : KnownMail) (b : ℕ × List ℕ) → m.known ≡ Some k → n.known ≡ Some l → l.bodies ≡ k.bodies → KeepsBody n b → KeepsBody m b
known_keeps m n k l b was now same keeps =
    let is : keeps.0 ≡ l = one_known keeps.0 l (sym keeps.1 ∙ now) in
    (k, was, subst (λ (bs : List (ℕ × List ℕ)). IsAmong b bs) (ap (λ (j : KnownMail). j.bodies) is ∙ same) keeps.2)

none_keeps : (m n : MachineState) (b : ℕ × List ℕ) → n.known ≡ None → KeepsBody n b → KeepsBody m b
none_keeps m n b none keeps = absurd (cc (sym keeps.1 ∙ none))

same_keeps : (m n : MachineState) (b : ℕ × List ℕ) → n ≡ m → KeepsBody n b → KeepsBody m b
same_keeps m n b is keeps = subst (λ (x : MachineState). KeepsBody x b) is keeps

settled_keeps : (before after : Progress) (events : List Event) (b : ℕ × List ℕ) → Settles before events after → KeepsBody after.machine b → KeepsBody before.machine b
settled_keeps before after events b (Same k stands known same none is) keeps = same_keeps before.machine after.machine b (machine_is before after is) keeps
settled_keeps before after events b (Moves new next goes room none is) keeps =
    known_keeps before.machine after.machine new.known (served_anew new.known next) b new.ready (ap (λ (p : Progress). p.machine.known) is) refl keeps
settled_keeps before after events b (Spends new spent none is) keeps = none_keeps before.machine after.machine b (ap (λ (p : Progress). p.machine.known) is) keeps
settled_keeps before after events b (Lacks stands none is) keeps = none_keeps before.machine after.machine b (ap (λ (p : Progress). p.machine.known) is) keeps

does_keep : (call : SetCall) (items : List Item) (before after : Progress) (came : ItemsCame) (events : List Event) (b : ℕ × List ℕ)
    → DoesItemsOver call items before came events after → KeepsBody after.machine b → KeepsBody before.machine b
does_keep call items before after came events b d keeps =
    known_keeps before.machine after.machine d.known (record d.known { told = d.told }) b d.ready (ap (λ (p : Progress). p.machine.known) d.after_is) refl keeps

-- a part leaves what there was, or what a fetch of it told
abbrev Keeps : (p q : Progress) → ℕ × List ℕ → Type 0 → Type 0
Keeps p q b Tells = KeepsBody q.machine b → KeepsBody p.machine b ⊎ Tells

-- what is proved of bodies that are asked
abbrev pub AsksKeep : Type 0
AsksKeep = (before : Progress) (asks : List BodyAsk) (events : List Event) (after : Progress) (calls : CallsAsk before asks events after) (b : ℕ × List ℕ)
    → KeepsBody after.machine b → KeepsBody before.machine b ⊎ CallsTell calls b

module _ (calls_kept : AsksKeep) where
  prepares_keep : {call : SetCall} {uploads : List (List ℕ)} {item : Item} {p q : Progress} {tried : List BodyAsk} {made : Option (Result Job SetError)} {events : List Event} (b : ℕ × List ℕ)
      (prepares : PreparesImport call uploads item p tried made events q) → Keeps p q b (PreparesTell prepares b)
  prepares_keep b (RefusedAtOnce here e is) keeps = inl keeps
  prepares_keep {p = p} {q = q} b (Sought here i found is finds asked makes) keeps = calls_kept p _ _ q (AllAsked asked) b keeps

  lacks_keeps : {call : SetCall} {uploads : List (List ℕ)} {item : Item} {p q : Progress} {events : List Event} (b : ℕ × List ℕ) (lacks : LacksRoom call uploads item p events q)
      → Keeps p q b (LacksTell lacks b)
  lacks_keeps {p = p} {q = q} b (Seeking here i tried is asked due) keeps = calls_kept p _ _ q asked b keeps
  lacks_keeps b (WhenMade job prepares) keeps = prepares_keep b prepares keeps

  import_keeps : {call : SetCall} {uploads : List (List ℕ)} {item : Item} {p q : Progress} {tried : List BodyAsk} {ends : ItemEnd} {events : List Event} (b : ℕ × List ℕ)
      (takes : TakesImport call uploads item p tried ends events q) → Keeps p q b (ImportTells takes b)
  import_keeps b (BodyLost prepares) keeps = prepares_keep b prepares keeps
  import_keeps {q = q} b (Taken {doing = doing} {mid = mid} made ends prepares done) keeps = prepares_keep b prepares (does_keep _ _ mid q _ doing b done keeps)
  import_keeps b (NoRoom lacks) keeps = lacks_keeps b lacks keeps

  imports_keep : {call : SetCall} {uploads : List (List ℕ)} {made : Bool} {items : List Item} {p q : Progress} {came : ItemsCame} {events : List Event} (b : ℕ × List ℕ)
      (imports : DoesImports call uploads made p items came events q) → Keeps p q b (ImportsTell imports b)
  imports_keep b (NoImports here) keeps = inl keeps
  imports_keep b (OutBefore here) keeps = inl keeps
  imports_keep b (ImportDone item done takes rest) keeps = elim (imports_keep b rest keeps) [
    | inr told ↦ inr (inr told)
    | inl mid ↦ elim (import_keeps b takes mid) [ inl first ↦ inl first | inr told ↦ inr (inl told) ]
  ]
  imports_keep b (ImportEnds item ends not takes) keeps = import_keeps b takes keeps

  course_keeps : {call : SetCall} {items : List Item} {p q : Progress} {came : ItemsCame} {events : List Event} (b : ℕ × List ℕ) (does : DoesCourse call items p came events q)
      → Keeps p q b (CourseTells does b)
  course_keeps {call = call} {items = items} {p = p} {q = q} {came = came} {events = events} b (InRow row done) keeps = inl (does_keep call items p q came events b done keeps)
  course_keeps b (OneByOne uploads rules imports) keeps = imports_keep b imports keeps

  pub changes_keep : (call : SetCall) (items : List Item) (before : Progress) (result : Result (List (Item × Done)) MethodError) (events : List Event) (after : Progress)
      (does : ChangesMail call items before result events after) → (b : ℕ × List ℕ) → KeepsBody after.machine b → KeepsBody before.machine b ⊎ ChangeTells does b
  changes_keep call items before result events after (Committed came mid does goes settles stands is) b keeps =
      course_keeps b does (settled_keeps mid after [] b settles keeps)
  changes_keep call items before result events after (SpentBy came mid spent doing ending does goes settles why hangs whole is error) b keeps =
      course_keeps b does (settled_keeps mid spent [] b settles (same_keeps spent.machine after.machine b (machine_is _ after is) keeps))
  changes_keep call items before result events after (FailedInPart mid doing ending does hangs whole is error) b keeps =
      course_keeps b does (same_keeps mid.machine after.machine b (machine_is _ after is) keeps)

  pub lacks_keep : (call : SetCall) (items : List Item) (before : Progress) (events : List Event) (after : Progress) (lacks : LacksChange call items before events after)
      → (b : ℕ × List ℕ) → KeepsBody after.machine b → KeepsBody before.machine b ⊎ LacksChangeTells lacks b
  lacks_keep call items before events after (InItems mid does is) b keeps = inl (none_keeps before.machine after.machine b (ap (λ (p : Progress). p.machine.known) is) keeps)
  lacks_keep call items before events after (InCommit came mid does goes settles why) b keeps =
      course_keeps b does (settled_keeps mid after [] b settles keeps)
