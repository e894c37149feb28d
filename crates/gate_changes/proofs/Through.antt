-- What holds of nothing, of bodies that are asked, of a moment that is drawn, of items over what the machine knows, and of one part after another, holds of the
-- course of a call.
use Rattle.std.proofs.Common.{◌≡◌, ◌≢◌, ◌++◌, ℕ, ℤ, Bool, true, false, List, [], ◌∷◌, Option, Result, Ok, Err, refl}
use Rattle.gate_world.specs.declared.event.Event.{Event}
use Rattle.gate_world.specs.declared.event.Event.TheVariants.{Clock}
use Rattle.email_bodies.specs.Asking.{BodyAsk}
use Rattle.gate_machine.specs.Fetching.{CallsAsk, AllAsked}
use Rattle.gate_machine.specs.Progress.{Progress}
use Rattle.gate_machine.specs.declared.mail_status.MailStatus.TheVariants.{Stands}
use Rattle.set_jobs.specs.declared.done.Done.{Done}
use Rattle.set_jobs.specs.declared.done.SetError.{SetError}
use Rattle.set_jobs.specs.declared.job.Job.{Job}
use Rattle.set_order.specs.Ordered.{Item}
use Rattle.set_calls.specs.Calls.{SetCall}
use Rattle.set_items.specs.declared.item.ItemEnd.{ItemEnd}
use Rattle.set_items.specs.declared.item.ItemEnd.TheVariants.{Comes, Ends, OutOfMemory}
use Rattle.email_import.specs.declared.ready.ReadyImport.{ReadyImport}
use Rattle.email_bodies.specs.declared.error.BodyError.{BodyError}
use Rattle.gate_changes.specs.Items.{DoesItemsOver, ItemsCame}
use Rattle.gate_changes.specs.Importing.{MakesSteps, NoBody, NoMessage, AtMoment, PreparesImport, RefusedAtOnce, Sought, LacksRoom, Seeking, WhenMade, TakesImport, BodyLost, Taken, NoRoom}
use Rattle.gate_changes.specs.Importing.{DoesImports, NoImports, OutBefore, ImportDone, ImportEnds, before_these, ends_after, one_came}
use Rattle.gate_changes.specs.Changing.{DoesCourse, InRow, OneByOne}

module _ (R : Progress → List Event → Progress → Type 0) (nothing : (p : Progress) → R p [] p)
    (moment : (p : Progress) (now : ℤ) → R p (Clock now ∷ []) p)
    (asks : (p : Progress) (tried : List BodyAsk) (events : List Event) (q : Progress) → CallsAsk p tried events q → R p events q)
    (Fits : ItemsCame → Type 0) (fits_done : (item : Item) (done : Done) → Fits (one_came item (Comes done)))
    (fits_rest : (e : Item × Done) (came : ItemsCame) → Fits (before_these e came) → Fits came)
    (fits_end : (item : Item) (made : Bool) (ends : ItemEnd) → Fits (Err (ends_after made ends)) → Fits (one_came item ends))
    (does : (call : SetCall) (items : List Item) (p : Progress) (came : ItemsCame) (events : List Event) (q : Progress) → Fits came → DoesItemsOver call items p came events q → R p events q)
    (both : (p q r : Progress) (es fs : List Event) → R p es q → R q fs r → R p (es ++ fs) r) where
  makes_through : {i : ReadyImport} {found : Result (Result (List ℕ) SetError) BodyError} {made : Option (Result Job SetError)} {drawing : List Event} (p : Progress)
      → MakesSteps i found made drawing → R p drawing p
  makes_through p (NoBody e) = nothing p
  makes_through p (NoMessage e) = nothing p
  makes_through p (AtMoment message now) = moment p now

  prepares_through : {call : SetCall} {uploads : List (List ℕ)} {item : Item} {p q : Progress} {tried : List BodyAsk} {made : Option (Result Job SetError)} {events : List Event}
      → PreparesImport call uploads item p tried made events q → R p events q
  prepares_through {p = p} (RefusedAtOnce here e is) = nothing p
  prepares_through {p = p} {q = q} (Sought {asks = tried} {asking = asking} {drawing = drawing} here i found is finds asked makes) =
      both p q q asking drawing (asks p tried asking q (AllAsked asked)) (makes_through q makes)

  lacks_through : {call : SetCall} {uploads : List (List ℕ)} {item : Item} {p q : Progress} {events : List Event} → LacksRoom call uploads item p events q → R p events q
  lacks_through {p = p} {q = q} {events = events} (Seeking here i tried is asked due) = asks p tried events q asked
  lacks_through (WhenMade job prepares) = prepares_through prepares

  pub import_through : {call : SetCall} {uploads : List (List ℕ)} {item : Item} {p q : Progress} {tried : List BodyAsk} {ends : ItemEnd} {events : List Event}
      → Fits (one_came item ends) → TakesImport call uploads item p tried ends events q → R p events q
  import_through fits (BodyLost prepares) = prepares_through prepares
  import_through {p = p} {q = q} fits (Taken {preparing = preparing} {doing = doing} {mid = mid} made ends prepares done) =
      both p mid q preparing doing (prepares_through prepares) (does _ _ mid _ doing q fits done)
  import_through fits (NoRoom lacks) = lacks_through lacks

  pub imports_through : {call : SetCall} {uploads : List (List ℕ)} {made : Bool} {items : List Item} {p q : Progress} {came : ItemsCame} {events : List Event}
      → Fits came → DoesImports call uploads made p items came events q → R p events q
  imports_through {p = p} fits (NoImports here) = nothing p
  imports_through {p = p} fits (OutBefore here) = nothing p
  imports_through {p = p} {q = q} fits (ImportDone {mid = mid} {came = came} {first = first} {later = later} item done takes rest) =
      both p mid q first later (import_through (fits_done item done) takes) (imports_through (fits_rest (item, done) came fits) rest)
  imports_through {made = made} fits (ImportEnds item ends not takes) = import_through (fits_end item made ends fits) takes

  pub course_through : {call : SetCall} {items : List Item} {p q : Progress} {came : ItemsCame} {events : List Event} → Fits came → DoesCourse call items p came events q → R p events q
  course_through {call = call} {items = items} {p = p} {q = q} {came = came} {events = events} fits (InRow row done) = does call items p came events q fits done
  course_through fits (OneByOne uploads rules imports) = imports_through fits imports

-- ---- items for which there was memory

abbrev pub Any : ItemsCame → Type 0
Any came = Unit {0}

abbrev pub Well : ItemsCame → Type 0
Well came = came ≢ Err OutOfMemory

pub well_done : (item : Item) (done : Done) → Well (one_came item (Comes done))
well_done item done is = cc

pub well_rest : (e : Item × Done) (came : ItemsCame) → Well (before_these e came) → Well came
well_rest e (Ok done) well is = cc
well_rest e (Err ends) well is = well is

still_memory : (made : Bool) → (let r : ItemsCame = Err (ends_after made OutOfMemory) in r) ≡ Err OutOfMemory
still_memory true = refl
still_memory false = refl

pub well_end : (item : Item) (made : Bool) (ends : ItemEnd) → Well (Err (ends_after made ends)) → Well (one_came item ends)
well_end item made (Comes done) well is = cc
well_end item made (Ends e) well is = cc
well_end item made OutOfMemory well is = well (still_memory made)

-- ---- where it begins

prepares_begin : {call : SetCall} {uploads : List (List ℕ)} {item : Item} {p q : Progress} {tried : List BodyAsk} {made : Option (Result Job SetError)} {events : List Event}
    → PreparesImport call uploads item p tried made events q → p.standing ≡ Stands
prepares_begin (RefusedAtOnce here e is) = here.stands
prepares_begin (Sought here i found is finds asked makes) = here.stands

lacks_begin : {call : SetCall} {uploads : List (List ℕ)} {item : Item} {p q : Progress} {events : List Event} → LacksRoom call uploads item p events q → p.standing ≡ Stands
lacks_begin (Seeking here i tried is asked due) = here.stands
lacks_begin (WhenMade job prepares) = prepares_begin prepares

pub import_begins : {call : SetCall} {uploads : List (List ℕ)} {item : Item} {p q : Progress} {tried : List BodyAsk} {ends : ItemEnd} {events : List Event}
    → TakesImport call uploads item p tried ends events q → p.standing ≡ Stands
import_begins (BodyLost prepares) = prepares_begin prepares
import_begins (Taken made ends prepares done) = prepares_begin prepares
import_begins (NoRoom lacks) = lacks_begin lacks

pub imports_begin : {call : SetCall} {uploads : List (List ℕ)} {made : Bool} {items : List Item} {p q : Progress} {came : ItemsCame} {events : List Event}
    → DoesImports call uploads made p items came events q → p.standing ≡ Stands
imports_begin (NoImports here) = here.stands
imports_begin (OutBefore here) = here.stands
imports_begin (ImportDone item done takes rest) = import_begins takes
imports_begin (ImportEnds item ends not takes) = import_begins takes

pub course_begins : {call : SetCall} {items : List Item} {p q : Progress} {came : ItemsCame} {events : List Event} → DoesCourse call items p came events q → p.standing ≡ Stands
course_begins (InRow row done) = done.stands
course_begins (OneByOne uploads rules imports) = imports_begin imports
