-- The APPENDs of the job of an item.
use Rattle.std.proofs.Common.{arith, ◌≡◌, ◌≤◌, ℕ, ℤ, Bool, List, Option, Some, None, Result, Ok, Err, ap, refl, subst, sym, inl, inr}
use Rattle.serde_json.specs.Data.{Members}
use Rattle.told_folder.specs.declared.message.Folder.{Folder}
use Rattle.set_jobs.specs.declared.done.Done.{Done}
use Rattle.set_jobs.specs.declared.done.Done.TheVariants.{MadeMailbox, Changed, Gone}
use Rattle.set_jobs.specs.declared.done.SetError.{SetError}
use Rattle.set_jobs.specs.declared.job.Job.{Job}
use Rattle.set_jobs.specs.declared.step.Step.{Step}
use Rattle.set_jobs.specs.declared.step.Step.TheVariants as step
use Rattle.set_order.specs.Ordered.{Item, Create, Circle, Update, Destroy}
use Rattle.set_given.specs.Given.{EmailFound, Given, email_named, folder_named, folder_to_destroy}
use Rattle.set_patches.specs.Patches.{Patch, patch_in}
use Rattle.email_checks.specs.Emails.{destroy_email, destroy_email_as, update_email, update_email_as}
use Rattle.email_creation.specs.Appends.{DrawsCreation, Written}
use Rattle.email_creation.specs.declared.ready.ReadyCreation.{ReadyCreation}
use Rattle.email_laws.specs.Sent.{SendsDestroy, SendsWhatIsAsked}
use Rattle.mailbox_checks.specs.Create.{create_mailbox}
use Rattle.mailbox_checks.specs.Destroy.{destroy_mailbox, destroy_of}
use Rattle.mailbox_checks.specs.Update.{update_mailbox, update_of}
use Rattle.mailbox_laws.specs.Sent as mailbox
use Rattle.set_items.specs.Commands.{IsNotMade, MakesNothing, appends_of}
use Rattle.set_methods.specs.Checks.{Drawn, Prepares, Rules, EmailRules, MailboxRules, KnownSteps, check_mailbox, with_steps}
use Rattle.set_methods.specs.declared.checks.Passed.TheVariants.{Drawing, Steps}
use Rattle.set_arguments.specs.Arguments.{SetAsked}
use Rattle.set_arguments.specs.declared.set_method.SetMethod.{SetMethod}
use Rattle.set_arguments.specs.declared.set_method.SetMethod.TheVariants.{EmailSet, MailboxSet, EmailImport}
use Rattle.gate_world.specs.declared.event.Event.{Event}
use Rattle.email_bodies.specs.Asking.{BodyAsk}
use Rattle.email_bodies.specs.declared.error.BodyError.{BodyError}
use Rattle.email_import.specs.Messages.{import_job}
use Rattle.email_import.specs.declared.ready.ReadyImport.{ReadyImport}
use Rattle.gate_machine.specs.Progress.{Progress}
use Rattle.set_calls.specs.Calls.{SetCall}
use Rattle.gate_changes.specs.Importing.{ChecksItem, MakesSteps, NoBody, NoMessage, AtMoment, PreparesImport, RefusedAtOnce, Sought, given_over}
use Rattle.gate_calls.specs.ItemChecks.{item_checks}
use Rattle.append_laws.specs.Sent.{appends_allowed}
use Rattle.append_laws.proofs.Boxes.{AreOther, IsNoMailbox, IsOther, others}
use Rattle.append_laws.proofs.Made.{MakesNoMailbox}

-- what is proved of the jobs of items: how many APPENDs they have, and what they come to by themselves
pub record JobLaws : Type 0 where
  pub creation_appends : (c : ReadyCreation) (now : ℤ) (word : ℕ) (job : Job) → DrawsCreation c now word (Ok job) → appends_of job.steps ≡ 1
  pub creation_makes : (c : ReadyCreation) (now : ℤ) (word : ℕ) (job : Job) → DrawsCreation c now word (Ok job) → MakesNothing job
  pub email_update : (g : Given) (text : List ℕ) (patch : Members) (job : Job) → update_email g text patch ≡ Ok job → appends_of job.steps ≡ 0
  pub email_destroy : (g : Given) (text : List ℕ) (job : Job) → destroy_email g text ≡ Ok job → appends_of job.steps ≡ 0
  pub email_updates : (g : Given) (text : List ℕ) (patch : Members) (job : Job) (e : EmailFound) → email_named g text ≡ Some e → update_email g text patch ≡ Ok job
      → SendsWhatIsAsked g e (patch_in patch) job
  pub email_destroys : (g : Given) (text : List ℕ) (job : Job) (e : EmailFound) → email_named g text ≡ Some e → destroy_email g text ≡ Ok job → SendsDestroy g e job
  pub import_appends : (i : ReadyImport) (now : ℤ) (message : List ℕ) → appends_of (import_job i now message).steps ≡ 1
  pub import_makes : (i : ReadyImport) (now : ℤ) (message : List ℕ) → MakesNothing (import_job i now message)
  pub mailbox_create : (g : Given) (ms : Members) (job : Job) → create_mailbox g ms ≡ Ok job → appends_of job.steps ≡ 0
  pub mailbox_update : (g : Given) (text : List ℕ) (patch : Members) (job : Job) → update_mailbox g text patch ≡ Ok job → appends_of job.steps ≡ 0
  pub mailbox_destroy : (g : Given) (removes : Bool) (text : List ℕ) (job : Job) → destroy_mailbox g removes text ≡ Ok job → appends_of job.steps ≡ 0
  pub mailbox_creates : (g : Given) (ms : Members) (job : Job) → create_mailbox g ms ≡ Ok job → mailbox.SendsCreation g ms job
  pub mailbox_updates : (g : Given) (text : List ℕ) (patch : Members) (job : Job) (f : Folder) → folder_named g text ≡ Some f → update_mailbox g text patch ≡ Ok job
      → mailbox.SendsUpdate g f patch job
  pub mailbox_destroys : (g : Given) (removes : Bool) (text : List ℕ) (job : Job) (f : Folder) → folder_to_destroy g text ≡ Some f
      → destroy_mailbox g removes text ≡ Ok job → mailbox.SendsDestroy f job

-- a job that has as many as its item may send, and makes no message by itself; one of Email/set makes no Mailbox
abbrev pub IsAllowed : Rules → Item → Job → Type 0
IsAllowed rules item job = (appends_of job.steps ≤ appends_allowed rules item) × MakesNothing job × MakesNoMailbox rules job

-- ---- by what was checked

-- where steps are known they are those of the checks
passed : (job : Job) (came : Result Job SetError) → Ok (Steps job) ≡ with_steps came → came ≡ Ok job
passed job (Ok other) is = let same : Steps job ≡ Steps other = cc in let job_is : job ≡ other = cc in ap (λ (j : Job). Ok j) (sym job_is)
passed job (Err e) is = absurd (cc)

-- and nothing is drawn
not_drawn : {Y : Type 0} (ready : ReadyCreation) (came : Result Job SetError) → Ok (Drawing ready) ≡ with_steps came → Y
not_drawn ready (Ok job) is = absurd (let same : Drawing ready ≡ Steps job = cc in cc)
not_drawn ready (Err e) is = absurd (cc)

at_most : (m n : ℕ) → m ≡ n → m ≤ n
at_most m n is = omega (arith, is)

-- what updates and destroys of Emails do
select_other : (s t : Step) → s ≡ t → IsOther t → IsOther s
select_other s t is other = subst (λ (u : Step). IsOther u) (sym is) other

update_steps : (g : Given) (e : EmailFound) (parts : Patch) (job : Job) → SendsWhatIsAsked g e parts job → AreOther job.steps
update_steps g e parts job sends = others job.steps (λ s there. elim (sends.others s there) [
  | inl selects ↦ select_other s _ selects tt
  | inr changes ↦ select_other s (step.Change changes.0) changes.1 tt
])

destroy_steps : (g : Given) (e : EmailFound) (job : Job) → SendsDestroy g e job → AreOther job.steps
destroy_steps g e job sends = others job.steps (λ s there. elim ((sends.steps s).0 there) [
  | inl selects ↦ select_other s _ selects.1 tt
  | inr (inl deletes) ↦ select_other s _ deletes tt
  | inr (inr expunges) ↦ select_other s _ expunges tt
])

no_box : (job : Job) (done : Done) → job.done ≡ done → IsNoMailbox done → IsNoMailbox job.done
no_box job done is none = subst (λ (d : Done). IsNoMailbox d) (sym is) none

one_append : (c : ReadyCreation) (now : ℤ) (word : ℕ) (job : Job) → DrawsCreation c now word (Ok job) → AreOther job.steps × IsNoMailbox job.done
one_append c now word job (Written message is within) = ((tt, tt), tt)

changes : (job : Job) (n : ℕ) (asked : Option (List (List ℕ))) → job.done ≡ Changed n asked → MakesNothing job
changes job n asked is = subst (λ (d : Done). IsNotMade d) (sym is) tt

goes : (job : Job) (n : ℕ) → job.done ≡ Gone n → MakesNothing job
goes job n is = subst (λ (d : Done). IsNotMade d) (sym is) tt

makes_mailbox : (job : Job) (n : ℕ) → job.done ≡ MadeMailbox n → MakesNothing job
makes_mailbox job n is = subst (λ (d : Done). IsNotMade d) (sym is) tt

module _ (laws : JobLaws) where
  -- ---- what jobs come to by themselves

  email_changed : (uploads : List (List ℕ)) (g : Given) (text : List ℕ) (patch : Members) (job : Job) → update_email g text patch ≡ Ok job → (e : Option EmailFound)
      → email_named g text ≡ e → update_email_as g patch e ≡ Ok job → MakesNothing job × MakesNoMailbox (EmailRules uploads) job
  email_changed uploads g text patch job _ None _ found = absurd (cc)
  email_changed uploads g text patch job is (Some e) named found =
      let sends : SendsWhatIsAsked g e (patch_in patch) job = laws.email_updates g text patch job e named is in
      (changes job _ _ sends.done_is, (update_steps g e (patch_in patch) job sends, no_box job _ sends.done_is tt))

  email_gone : (uploads : List (List ℕ)) (g : Given) (text : List ℕ) (job : Job) → destroy_email g text ≡ Ok job → (e : Option EmailFound) → email_named g text ≡ e
      → destroy_email_as g e ≡ Ok job → MakesNothing job × MakesNoMailbox (EmailRules uploads) job
  email_gone uploads g text job _ None _ found = absurd (cc)
  email_gone uploads g text job is (Some e) named found =
      let sends : SendsDestroy g e job = laws.email_destroys g text job e named is in
      (goes job _ sends.done_is, (destroy_steps g e job sends, no_box job _ sends.done_is tt))

  mailbox_changed : (g : Given) (text : List ℕ) (patch : Members) (job : Job) → update_mailbox g text patch ≡ Ok job → (f : Option Folder) → folder_named g text ≡ f
      → update_of g patch f ≡ Ok job → MakesNothing job
  mailbox_changed g text patch job _ None _ found = absurd (cc)
  mailbox_changed g text patch job is (Some f) named found = changes job _ _ (laws.mailbox_updates g text patch job f named is).done_is

  mailbox_gone : (g : Given) (removes : Bool) (text : List ℕ) (job : Job) → destroy_mailbox g removes text ≡ Ok job → (f : Option Folder) → folder_to_destroy g text ≡ f
      → destroy_of g removes f ≡ Ok job → MakesNothing job
  mailbox_gone g removes text job _ None _ found = absurd (cc)
  mailbox_gone g removes text job is (Some f) named found = goes job _ (laws.mailbox_destroys g removes text job f named is).done_is

  -- ---- items

  creation_allowed : (uploads : List (List ℕ)) (key : List ℕ) (ms : Members) (ready : ReadyCreation) (drawn : Drawn) (job : Job)
      → DrawsCreation ready drawn.now drawn.word (Ok job) → IsAllowed (EmailRules uploads) (Create key ms) job
  creation_allowed uploads key ms ready drawn job draws = (
    at_most (appends_of job.steps) 1 (laws.creation_appends ready drawn.now drawn.word job draws),
    laws.creation_makes ready drawn.now drawn.word job draws,
    one_append ready drawn.now drawn.word job draws,
  )

  update_allowed : (uploads : List (List ℕ)) (g : Given) (text : List ℕ) (patch : Members) (job : Job) → update_email g text patch ≡ Ok job
      → IsAllowed (EmailRules uploads) (Update text patch) job
  update_allowed uploads g text patch job is =
      let makes = email_changed uploads g text patch job is (email_named g text) refl is in
      (at_most (appends_of job.steps) 0 (laws.email_update g text patch job is), makes.0, makes.1)

  destroy_allowed : (uploads : List (List ℕ)) (g : Given) (text : List ℕ) (job : Job) → destroy_email g text ≡ Ok job → IsAllowed (EmailRules uploads) (Destroy text) job
  destroy_allowed uploads g text job is =
      let makes = email_gone uploads g text job is (email_named g text) refl is in
      (at_most (appends_of job.steps) 0 (laws.email_destroy g text job is), makes.0, makes.1)

  mailbox_allowed : (removes : Bool) (g : Given) (item : Item) (job : Job) → check_mailbox removes g item ≡ Ok job → IsAllowed (MailboxRules removes) item job
  mailbox_allowed removes g (Create key ms) job is =
      (at_most (appends_of job.steps) 0 (laws.mailbox_create g ms job is), makes_mailbox job _ (laws.mailbox_creates g ms job is).done_is, tt)
  mailbox_allowed removes g (Circle key) job is = absurd (cc)
  mailbox_allowed removes g (Update text patch) job is =
      (at_most (appends_of job.steps) 0 (laws.mailbox_update g text patch job is), mailbox_changed g text patch job is (folder_named g text) refl is, tt)
  mailbox_allowed removes g (Destroy text) job is =
      (at_most (appends_of job.steps) 0 (laws.mailbox_destroy g removes text job is), mailbox_gone g removes text job is (folder_to_destroy g text) refl is, tt)

  import_allowed : (made : Result Job SetError) (key : List ℕ) (ms : Members) (i : ReadyImport) (now : ℤ) (message : List ℕ)
      → IsAllowed (KnownSteps made) (Create key ms) (import_job i now message)
  import_allowed made key ms i now message =
      (at_most (appends_of (import_job i now message).steps) 1 (laws.import_appends i now message), laws.import_makes i now message, ((tt, tt), tt))

  steps_allowed : {i : ReadyImport} {found : Result (Result (List ℕ) SetError) BodyError} {known : Option (Result Job SetError)} {drawing : List Event}
      (made : Result Job SetError) (key : List ℕ) (ms : Members) (job : Job) → MakesSteps i found known drawing → known ≡ Some made → made ≡ Ok job
      → IsAllowed (KnownSteps made) (Create key ms) job
  steps_allowed made key ms job (NoBody e) is so = absurd (cc)
  steps_allowed made key ms job (NoMessage e) is so = absurd (cc)
  steps_allowed {i = i} made key ms job (AtMoment message now) is so =
      let same : import_job i now message ≡ job = cc in
      subst (λ (j : Job). IsAllowed (KnownSteps made) (Create key ms) j) same (import_allowed made key ms i now message)

  -- only a creation passes as an import
  is_creation : (g : Given) (item : Item) (i : ReadyImport) → ChecksItem g item (Ok i) → (key : List ℕ) × (ms : Members) × (item ≡ Create key ms)
  is_creation g (Create key ms) i is = (key, ms, refl)
  is_creation g (Circle key) i is = absurd (cc)
  is_creation g (Update text patch) i is = absurd (cc)
  is_creation g (Destroy text) i is = absurd (cc)

  prepared_allowed : {call : SetCall} {uploads : List (List ℕ)} {item : Item} {p q : Progress} {asks : List BodyAsk} {known : Option (Result Job SetError)} {events : List Event}
      (made : Result Job SetError) (job : Job) → PreparesImport call uploads item p asks known events q → known ≡ Some made → made ≡ Ok job
      → IsAllowed (KnownSteps made) item job
  prepared_allowed made job (RefusedAtOnce here e is) known so = absurd (cc)
  prepared_allowed {item = item} made job (Sought here i found is finds asked makes) known so =
      let creation = is_creation (given_over here) item i is in
      subst (λ (x : Item). IsAllowed (KnownSteps made) x job) (sym creation.2) (steps_allowed made creation.0 creation.1 job makes known so)

  -- an import that is prepared has such a job
  pub known_allowed : {call : SetCall} {uploads : List (List ℕ)} {of : Item} {p q : Progress} {asks : List BodyAsk} {made : Result Job SetError} {events : List Event}
      → PreparesImport call uploads of p asks (Some made) events q → (g : Given) (item : Item) (drawn : Option Drawn) (job : Job) → item ≡ of
      → Prepares (KnownSteps made) g item drawn (Ok job) → IsAllowed (KnownSteps made) item job
  known_allowed {made = made} prepares g item None job same is =
      subst (λ (x : Item). IsAllowed (KnownSteps made) x job) (sym same) (prepared_allowed made job prepares refl (passed job made is))
  known_allowed {made = made} prepares g item (Some drawn) job same (ready, checks, draws) = not_drawn ready made checks

  -- each item that passes has such a job
  pub allowed : (uploads : List (List ℕ)) (m : SetMethod) (a : SetAsked) (g : Given) (item : Item) (drawn : Option Drawn) (job : Job)
      → Prepares (item_checks uploads m a) g item drawn (Ok job) → IsAllowed (item_checks uploads m a) item job
  allowed uploads EmailSet a g (Create key ms) None job is = absurd is
  allowed uploads EmailSet a g (Circle key) None job is = absurd (cc)
  allowed uploads EmailSet a g (Update text patch) None job is = update_allowed uploads g text patch job (passed job (update_email g text patch) is)
  allowed uploads EmailSet a g (Destroy text) None job is = destroy_allowed uploads g text job (passed job (destroy_email g text) is)
  allowed uploads EmailSet a g (Create key ms) (Some drawn) job (ready, checks, draws) = creation_allowed uploads key ms ready drawn job draws
  allowed uploads EmailSet a g (Circle key) (Some drawn) job (ready, checks, draws) = absurd (cc)
  allowed uploads EmailSet a g (Update text patch) (Some drawn) job (ready, checks, draws) = not_drawn ready (update_email g text patch) checks
  allowed uploads EmailSet a g (Destroy text) (Some drawn) job (ready, checks, draws) = not_drawn ready (destroy_email g text) checks
  allowed uploads MailboxSet a g item None job is = mailbox_allowed a.removes g item job (passed job (check_mailbox a.removes g item) is)
  allowed uploads MailboxSet a g item (Some drawn) job (ready, checks, draws) = not_drawn ready (check_mailbox a.removes g item) checks
  allowed uploads EmailImport a g item None job is = absurd is
  allowed uploads EmailImport a g item (Some drawn) job (ready, checks, draws) = absurd checks
