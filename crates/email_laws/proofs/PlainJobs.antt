-- The jobs of updates and destroys of Emails have such steps alone.
use Rattle.std.proofs.Common.{◌≡◌, ℕ, true, false, cond, List, [], ◌∷◌, ◌++◌, Option, Some, None, Result, Ok, Err, subst}
use Rattle.serde_json.specs.Data.{Members}
use Rattle.told_folder.specs.declared.message.Folder.{Folder}
use Rattle.told_mail.specs.Mail.{folder_in}
use Rattle.mail_maps.specs.Rights.{rights_of}
use Rattle.set_jobs.specs.declared.done.SetError.{SetError}
use Rattle.set_jobs.specs.declared.done.SetError.TheVariants as why
use Rattle.set_jobs.specs.declared.job.Job.{Job}
use Rattle.set_given.specs.Given.{Given, EmailFound, email_named}
use Rattle.set_patches.specs.Patches.{Patch, patch_in, wrong_properties}
use Rattle.email_checks.specs.Asked.{asked_folders, is_invalid_email_patch, is_right}
use Rattle.email_checks.specs.Steps.{EmailUpdate, is_forbidden, moves, selects, stores, update_job, update_steps}
use Rattle.email_checks.specs.Emails as emails
use Rattle.email_laws.proofs.PlainSteps.{ArePlain, after_select_plain, both_plain, deletes_plain, moves_plain, selects_plain, stores_plain}

-- where it is a job, its steps are plain
abbrev pub Plain : Result Job SetError → Type 0
Plain (Ok job) = ArePlain job.steps
Plain (Err error) = Unit {0}

steps_plain : (selected : Option (List ℕ)) (u : EmailUpdate) → ArePlain (update_steps selected u)
steps_plain selected u =
    after_select_plain selected u.folder u.mark (stores u.uid true u.sets ++ (stores u.uid false u.takes ++ moves u.uid u.folder u.target))
    (both_plain (stores u.uid true u.sets) (stores u.uid false u.takes ++ moves u.uid u.folder u.target) (stores_plain u.uid true u.sets)
    (both_plain (stores u.uid false u.takes) (moves u.uid u.folder u.target) (stores_plain u.uid false u.takes) (moves_plain u.uid u.folder u.target)))

unless_forbidden : (selected : Option (List ℕ)) (u : EmailUpdate) → Plain (emails.unless_forbidden selected u)
unless_forbidden selected u = elim (is_forbidden u) as (λ b. Plain (cond b (Err why.Forbidden) (Ok (update_job selected u)))) [
  | true ↦ tt
  | false ↦ steps_plain selected u
]

into : (g : Given) (e : EmailFound) (f : Folder) (parts : Patch) (r : Result ℕ SetError) → Plain (emails.update_into g e f parts r)
into g e f parts (Err error) = tt
into g e f parts (Ok n) = unless_forbidden g.selected (emails.update_of e f parts (folder_in g.mail.folders n))

unless_wrong : (ps : List (List ℕ)) (r : Result Job SetError) → Plain r → Plain (emails.unless_wrong ps r)
unless_wrong [] r plain = plain
unless_wrong (p ∷ ps) r plain = tt

valid : (g : Given) (e : EmailFound) (f : Folder) (parts : Patch) → Plain (emails.update_valid g e f parts)
valid g e f parts =
    unless_wrong (wrong_properties (is_right g) parts) (emails.update_right g e f parts) (into g e f parts (emails.one_folder (asked_folders g parts (f.number ∷ []))))

updated_in : (g : Given) (ms : Members) (e : EmailFound) (f : Folder) → Plain (emails.update_in g ms e f)
updated_in g ms e f = elim (is_invalid_email_patch ms) as (λ b. Plain (cond b (Err why.InvalidPatch) (emails.update_valid g e f (patch_in ms)))) [
  | true ↦ tt
  | false ↦ valid g e f (patch_in ms)
]

updated_found : (g : Given) (ms : Members) (e : EmailFound) (f : Option Folder) → Plain (emails.update_found g ms e f)
updated_found g ms e None = tt
updated_found g ms e (Some f) = updated_in g ms e f

updated_as : (g : Given) (ms : Members) (e : Option EmailFound) → Plain (emails.update_email_as g ms e)
updated_as g ms None = tt
updated_as g ms (Some e) = updated_found g ms e (folder_in g.mail.folders e.placed.folder)

destroyed_in : (selected : Option (List ℕ)) (e : EmailFound) (f : Folder) → Plain (emails.destroy_in selected e f)
destroyed_in selected e f = elim (rights_of f).may_remove_items as (λ b. Plain (cond b (Ok (emails.destroy_job selected e f)) (Err why.Forbidden))) [
  | true ↦ both_plain (selects selected f e.mark) _ (selects_plain selected f e.mark) (deletes_plain e.placed.message.uid)
  | false ↦ tt
]

destroyed_found : (g : Given) (e : EmailFound) (f : Option Folder) → Plain (emails.destroy_found g e f)
destroyed_found g e None = tt
destroyed_found g e (Some f) = destroyed_in g.selected e f

destroyed_as : (g : Given) (e : Option EmailFound) → Plain (emails.destroy_email_as g e)
destroyed_as g None = tt
destroyed_as g (Some e) = destroyed_found g e (folder_in g.mail.folders e.placed.folder)

-- the steps of a job that an item is are plain
pub updates_plain : (g : Given) (text : List ℕ) (ms : Members) (job : Job) → emails.update_email g text ms ≡ Ok job → ArePlain job.steps
updates_plain g text ms job is = subst Plain is (updated_as g ms (email_named g text))

pub destroys_plain : (g : Given) (text : List ℕ) (job : Job) → emails.destroy_email g text ≡ Ok job → ArePlain job.steps
destroys_plain g text job is = subst Plain is (destroyed_as g (email_named g text))
