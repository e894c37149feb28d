-- The steps of the items of calls.
use Rattle.std.proofs.Common.{arith, ◌≡◌, ◌≤◌, ℕ, ℤ, Bool, List, Option, Some, None, Result, Ok, Err, ap, subst, sym}
use Rattle.serde_json.specs.Data.{Members}
use Rattle.told_mail.specs.Mail.{Mail}
use Rattle.set_arguments.specs.Arguments.{SetAsked}
use Rattle.set_arguments.specs.declared.set_method.SetMethod.{SetMethod}
use Rattle.set_arguments.specs.declared.set_method.SetMethod.TheVariants.{EmailSet, MailboxSet, EmailImport}
use Rattle.set_jobs.specs.declared.done.SetError.{SetError}
use Rattle.set_jobs.specs.declared.job.Job.{Job}
use Rattle.set_order.specs.Ordered.{Item, Create, Circle, Update, Destroy}
use Rattle.set_given.specs.Given.{Given}
use Rattle.email_checks.specs.Emails.{update_email, destroy_email}
use Rattle.email_creation.specs.Appends.{Written}
use Rattle.email_creation.specs.declared.ready.ReadyCreation.{ReadyCreation}
use Rattle.mailbox_checks.specs.Create.{create_mailbox}
use Rattle.mailbox_checks.specs.Destroy.{destroy_mailbox}
use Rattle.mailbox_checks.specs.Update.{update_mailbox}
use Rattle.set_items.specs.Commands.{BeginsHeld, IsFit}
use Rattle.set_methods.specs.Checks.{Drawn, Makes, Prepares, check_other, check_mailbox, with_steps}
use Rattle.set_methods.specs.declared.checks.Passed.TheVariants.{Drawing, Steps}
use Rattle.gate_world.specs.declared.event.Event.{Event}
use Rattle.email_bodies.specs.Asking.{BodyAsk}
use Rattle.email_bodies.specs.declared.error.BodyError.{BodyError}
use Rattle.email_import.specs.Messages.{import_job}
use Rattle.email_import.specs.declared.ready.ReadyImport.{ReadyImport}
use Rattle.gate_machine.specs.Progress.{Progress}
use Rattle.set_calls.specs.Calls.{SetCall}
use Rattle.set_calls.specs.Promises.{ChecksFit}
use Rattle.gate_changes.specs.Importing.{MakesSteps, NoBody, NoMessage, AtMoment, PreparesImport, RefusedAtOnce, Sought, with_known}
use Rattle.gate_calls.specs.ItemChecks.{item_checks}

no_job : {Y : Type 0} (e : SetError) (job : Job) → ◌≡◌ {A = Result Job SetError} (Err e) (Ok job) → Y
no_job e job is = absurd (cc)

-- what holds of each job that an item of either method is
pub record HoldsOfJobs (P : SetMethod → Given → Item → Job → Type 0) : Type 0 where
  -- what is made of a creation of an Email
  pub email_create : (g : Given) (key : List ℕ) (ms : Members) (ready : ReadyCreation) (drawn : Drawn) (job : Job) → Makes ready drawn (Ok job) → P EmailSet g (Create key ms) job
  pub email_update : (g : Given) (text : List ℕ) (patch : Members) (job : Job) → update_email g text patch ≡ Ok job → P EmailSet g (Update text patch) job
  pub email_destroy : (g : Given) (text : List ℕ) (job : Job) → destroy_email g text ≡ Ok job → P EmailSet g (Destroy text) job
  pub mailbox_create : (g : Given) (key : List ℕ) (ms : Members) (job : Job) → create_mailbox g ms ≡ Ok job → P MailboxSet g (Create key ms) job
  pub mailbox_update : (g : Given) (text : List ℕ) (patch : Members) (job : Job) → update_mailbox g text patch ≡ Ok job → P MailboxSet g (Update text patch) job
  pub mailbox_destroy : (g : Given) (removes : Bool) (text : List ℕ) (job : Job) → destroy_mailbox g removes text ≡ Ok job → P MailboxSet g (Destroy text) job

mailbox_job : {P : SetMethod → Given → Item → Job → Type 0} → HoldsOfJobs P → (removes : Bool) (g : Given) (item : Item) (job : Job) → check_mailbox removes g item ≡ Ok job → P MailboxSet g item job
mailbox_job holds removes g (Create key ms) job is = holds.mailbox_create g key ms job is
mailbox_job holds removes g (Circle key) job is = no_job _ job is
mailbox_job holds removes g (Update text patch) job is = holds.mailbox_update g text patch job is
mailbox_job holds removes g (Destroy text) job is = holds.mailbox_destroy g removes text job is

passed : (job : Job) (came : Result Job SetError) → Ok (Steps job) ≡ with_steps came → came ≡ Ok job
passed job (Ok other) is = let same : Steps job ≡ Steps other = cc in let job_is : job ≡ other = cc in ap (λ (j : Job). Ok j) (sym job_is)
passed job (Err e) is = absurd (cc)

-- where steps are known nothing is drawn
not_drawn : {Y : Type 0} (ready : ReadyCreation) (came : Result Job SetError) → Ok (Drawing ready) ≡ with_steps came → Y
not_drawn ready (Ok job) is = absurd (let same : Drawing ready ≡ Steps job = cc in cc)
not_drawn ready (Err e) is = absurd (cc)

pub each_job : {P : SetMethod → Given → Item → Job → Type 0} → HoldsOfJobs P → (uploads : List (List ℕ)) (m : SetMethod) (a : SetAsked) (g : Given) (item : Item) (drawn : Option Drawn)
    (job : Job) → Prepares (item_checks uploads m a) g item drawn (Ok job) → P m g item job
each_job holds uploads EmailSet a g (Create key ms) None job is = absurd is
each_job holds uploads EmailSet a g (Circle key) None job is = no_job _ job (passed job (check_other g (Circle key)) is)
each_job holds uploads EmailSet a g (Update text patch) None job is = holds.email_update g text patch job (passed job (update_email g text patch) is)
each_job holds uploads EmailSet a g (Destroy text) None job is = holds.email_destroy g text job (passed job (destroy_email g text) is)
each_job holds uploads EmailSet a g (Create key ms) (Some drawn) job (ready, checks, made) = holds.email_create g key ms ready drawn job made
each_job holds uploads EmailSet a g (Circle key) (Some drawn) job (ready, checks, made) = not_drawn ready (check_other g (Circle key)) checks
each_job holds uploads EmailSet a g (Update text patch) (Some drawn) job (ready, checks, made) = not_drawn ready (update_email g text patch) checks
each_job holds uploads EmailSet a g (Destroy text) (Some drawn) job (ready, checks, made) = not_drawn ready (destroy_email g text) checks
each_job holds uploads MailboxSet a g item None job is = mailbox_job holds a.removes g item job (passed job (check_mailbox a.removes g item) is)
each_job holds uploads MailboxSet a g item (Some drawn) job (ready, checks, made) = not_drawn ready (check_mailbox a.removes g item) checks
each_job holds uploads EmailImport a g item None job is = absurd is
each_job holds uploads EmailImport a g item (Some drawn) job (ready, checks, made) = absurd checks

-- ---- imports

abbrev pub ImportsFit : Type 0
ImportsFit = (i : ReadyImport) (now : ℤ) (message : List ℕ) → IsFit (import_job i now message)

-- what is known of the steps of an import
known_job : (made : Result Job SetError) (job : Job) → Ok (Steps job) ≡ with_steps made → made ≡ Ok job
known_job made job is = passed job made is

makes_fit : ImportsFit → {i : ReadyImport} {found : Result (Result (List ℕ) SetError) BodyError} {made : Option (Result Job SetError)} {drawing : List Event} (m : Mail) (job : Job)
    → MakesSteps i found made drawing → made ≡ Some (Ok job) → IsFit job × BeginsHeld m job
makes_fit law m job (NoBody e) is = absurd (cc)
makes_fit law m job (NoMessage e) is = absurd (cc)
makes_fit law {i = i} m job (AtMoment message now) is =
    let same : import_job i now message ≡ job = cc in
    subst (λ (j : Job). IsFit j × BeginsHeld m j) same (law i now message, (tt, tt))

prepared_fit : ImportsFit → {call : SetCall} {uploads : List (List ℕ)} {item : Item} {p q : Progress} {asks : List BodyAsk} {made : Option (Result Job SetError)} {events : List Event}
    (m : Mail) (job : Job) → PreparesImport call uploads item p asks made events q → made ≡ Some (Ok job) → IsFit job × BeginsHeld m job
prepared_fit law m job (RefusedAtOnce here e is) same = absurd (cc)
prepared_fit law m job (Sought here i found is finds asked makes) same = makes_fit law m job makes same

pub steps_fit : ImportsFit → {call : SetCall} {uploads : List (List ℕ)} {item : Item} {p q : Progress} {asks : List BodyAsk} {made : Result Job SetError} {events : List Event}
    → PreparesImport call uploads item p asks (Some made) events q → ChecksFit (with_known call made)
steps_fit law {made = made} prepares g item None job is = prepared_fit law g.mail job prepares (ap (λ (r : Result Job SetError). Some r) (known_job made job is))
steps_fit law {made = made} prepares g item (Some drawn) job (ready, checks, so) = not_drawn ready made checks

-- a creation selects no folder
pub begins : (m : Mail) (ready : ReadyCreation) (drawn : Drawn) (job : Job) → Makes ready drawn (Ok job) → BeginsHeld m job
begins m ready drawn job (Written message is within) = (tt, tt)

pub at_most : (m n : ℕ) → m ≡ 0 → m ≤ n
at_most m n is = omega (arith, is)

pub one_at_most : (m : ℕ) → m ≡ 1 → m ≤ 1
one_at_most m is = omega (arith, is)
