-- Which jobs the items of Mailbox/set are.
use Rattle.std.proofs.Common.{◌≡◌, ◌&&◌, ◌∙◌, ℕ, Bool, true, false, not, cond, codes, List, [], ◌∷◌, Option, Some, None, unwrap_or, Result, Ok, Err, refl, sym, ap, subst}
use Rattle.serde_json.specs.Data.{Members}
use Rattle.serde_json.specs.Find.{get_member}
use Rattle.told_folder.specs.declared.message.Folder.{Folder}
use Rattle.mail_maps.specs.Rights.{rights_of}
use Rattle.mailbox_names.specs.Renames.{is_within}
use Rattle.mailbox_names.specs.Siblings.{has_child}
use Rattle.set_jobs.specs.declared.done.Done.TheVariants.{Gone}
use Rattle.set_jobs.specs.declared.done.SetError.{SetError}
use Rattle.set_jobs.specs.declared.done.SetError.TheVariants as why
use Rattle.set_jobs.specs.declared.job.Job.{Job}
use Rattle.set_given.specs.Given.{Given, folder_named, folder_to_destroy, folders_now}
use Rattle.set_patches.specs.Patches.{is_invalid_patch, patch_in, properties_in, wrong_properties}
use Rattle.mailbox_checks.specs.Create as create
use Rattle.mailbox_checks.specs.Create.{creation_of, is_name_wrong, lacks_child_right, name_or_empty}
use Rattle.mailbox_checks.specs.Destroy as destroy
use Rattle.mailbox_checks.specs.Destroy.{has_email}
use Rattle.mailbox_checks.specs.Properties.{ParentAsked, Top, Under, Nowhere, is_right_change, is_right_new, mailbox_objects, name_in, parent_of, unless_wrong, wrong_name, wrong_parent}
use Rattle.mailbox_checks.specs.Steps.{deletes}
use Rattle.mailbox_checks.specs.Update as update
use Rattle.mailbox_checks.specs.Update.{Place, cannot_be_renamed, is_renamed, lacks_rename_right, name_at, name_or, parent_or, parent_there, place_now, rename_job, subscription_job}

-- where it is a job, this holds of it
abbrev pub IfJob : (Job → Type 0) → Result Job SetError → Type 0
IfJob P (Ok job) = P job
IfJob P (Err error) = Unit {0}

unless_wrong_job : (P : Job → Type 0) (ps : List (List ℕ)) (r : Result Job SetError) → IfJob P r → IfJob P (unless_wrong ps r)
unless_wrong_job P [] r so = so
unless_wrong_job P (p ∷ ps) r so = tt

no_job : {Y : Type 0} (e : SetError) (job : Job) → ◌≡◌ {A = Result Job SetError} (Err e) (Ok job) → Y
no_job e job is = absurd (cc)

-- ---- updates

-- the job of an update by which the folder is to be in this place
abbrev pub job_by : Given → Folder → Members → Place → Bool → Job
job_by g f ms asked renames = cond renames (rename_job g.selected f ms (name_at asked)) (subscription_job f ms)

abbrev pub now_of : Given → Folder → Place
now_of g f = place_now (folders_now g) f

pub record IsUpdate (g : Given) (f : Folder) (ms : Members) (job : Job) : Type 0 where
  pub asked : Place
  pub parent_is : parent_or g (now_of g f).parent (get_member (codes "parentId") ms) ≡ parent_there asked.parent
  pub name_is : asked.name ≡ name_or (now_of g f).name (name_in ms)
  pub job_is : job ≡ job_by g f ms asked (is_renamed (now_of g f) asked)

module _ (g : Given) (ms : Members) (f : Folder) where
  abbrev IsSo : Result Job SetError → Type 0
  IsSo r = IfJob (IsUpdate g f ms) r

  abbrev ParentIs : ParentAsked → Type 0
  ParentIs p = parent_or g (now_of g f).parent (get_member (codes "parentId") ms) ≡ p

  abbrev place_of : Option Folder → Place
  place_of parent = record { parent = parent; name = name_or (now_of g f).name (name_in ms) }

  renamed_to : (parent : Option Folder) → ParentIs (parent_there parent) → is_renamed (now_of g f) (place_of parent) ≡ true
      → IsSo (update.rename_to g ms f (now_of g f) (place_of parent))
  renamed_to parent there is =
      elim (is_within f parent) as (λ a. IsSo (cond a (Err wrong_parent) (cond (cannot_be_renamed g f (place_of parent)) (Err wrong_name)
      (cond (lacks_rename_right f (now_of g f) (place_of parent)) (Err why.Forbidden) (Ok (rename_job g.selected f ms (name_at (place_of parent)))))))) [
        | true ↦ tt
        | false ↦ elim (cannot_be_renamed g f (place_of parent)) as (λ b. IsSo (cond b (Err wrong_name)
            (cond (lacks_rename_right f (now_of g f) (place_of parent)) (Err why.Forbidden) (Ok (rename_job g.selected f ms (name_at (place_of parent))))))) [
              | true ↦ tt
              | false ↦ elim (lacks_rename_right f (now_of g f) (place_of parent)) as (λ c. IsSo (cond c (Err why.Forbidden)
                  (Ok (rename_job g.selected f ms (name_at (place_of parent)))))) [
                    | true ↦ tt
                    | false ↦ record { asked = place_of parent; parent_is = there; name_is = refl; job_is = ap (job_by g f ms (place_of parent)) (sym is) }
                  ]
            ]
      ]

  under : (parent : Option Folder) → ParentIs (parent_there parent) → IsSo (update.update_under g ms f (now_of g f) parent)
  under parent there =
      elim (is_renamed (now_of g f) (place_of parent)) as (λ b. is_renamed (now_of g f) (place_of parent) ≡ b
      → IsSo (cond b (update.rename_to g ms f (now_of g f) (place_of parent)) (Ok (subscription_job f ms)))) [
        | true ↦ λ is. renamed_to parent there is
        | false ↦ λ is. record { asked = place_of parent; parent_is = there; name_is = refl; job_is = ap (job_by g f ms (place_of parent)) (sym is) }
      ] refl

  at : (p : ParentAsked) → ParentIs p → IsSo (update.update_at g ms f (now_of g f) p)
  at Top is = under None is
  at (Under parent) is = under (Some parent) is
  at Nowhere is = tt

  found : IsSo (update.update_found g ms f)
  found = elim (is_invalid_patch mailbox_objects ms) as (λ b. IsSo (cond b (Err why.InvalidPatch)
      (unless_wrong (wrong_properties (is_right_change g f) (patch_in ms)) (update.update_right g ms f)))) [
        | true ↦ tt
        | false ↦ unless_wrong_job (IsUpdate g f ms) (wrong_properties (is_right_change g f) (patch_in ms)) (update.update_right g ms f)
            (at (parent_or g (now_of g f).parent (get_member (codes "parentId") ms)) refl)
      ]

-- of the folder that is named
pub updates_are : (g : Given) (text : List ℕ) (ms : Members) (job : Job) (f : Folder) → folder_named g text ≡ Some f → update.update_mailbox g text ms ≡ Ok job
    → IsUpdate g f ms job
updates_are g text ms job f named is =
    let so : update.update_found g ms f ≡ Ok job = ap (λ (o : Option Folder). update.update_of g ms o) (sym named) ∙ is in
    subst (λ (r : Result Job SetError). IfJob (IsUpdate g f ms) r) so (found g ms f)

-- of some folder
pub some_update : (g : Given) (text : List ℕ) (ms : Members) (job : Job) → update.update_mailbox g text ms ≡ Ok job → (f : Folder) × IsUpdate g f ms job
some_update g text ms job is = by (folder_named g text) refl
  where
    by : (o : Option Folder) → folder_named g text ≡ o → (f : Folder) × IsUpdate g f ms job
    by None named = no_job why.NotFound job (ap (λ (o : Option Folder). update.update_of g ms o) (sym named) ∙ is)
    by (Some f) named = (f, updates_are g text ms job f named is)

-- ---- creations

pub record IsCreation (g : Given) (ms : Members) (job : Job) : Type 0 where
  pub parent : Option Folder
  pub parent_is : parent_of g ms ≡ parent_there parent
  pub name_is : name_in ms ≡ Some (name_or_empty ms)
  pub job_is : job ≡ creation_of g ms parent

-- the empty name is no Mailbox's
named_there : (fs : List Folder) (parent : Option Folder) (o : Option (List ℕ)) → is_name_wrong fs None parent (unwrap_or o []) ≡ false
    → o ≡ Some (unwrap_or o [])
named_there fs parent None is = absurd (let never : true ≡ false = is in cc)
named_there fs parent (Some name) is = refl

module _ (g : Given) (ms : Members) where
  created_under : (parent : Option Folder) → parent_of g ms ≡ parent_there parent → IfJob (IsCreation g ms) (create.create_under g ms parent)
  created_under parent there =
      elim (is_name_wrong (folders_now g) None parent (name_or_empty ms)) as (λ a. is_name_wrong (folders_now g) None parent (name_or_empty ms) ≡ a
      → IfJob (IsCreation g ms) (cond a (Err wrong_name) (cond (lacks_child_right parent) (Err why.Forbidden) (Ok (creation_of g ms parent))))) [
        | true ↦ λ wrong. tt
        | false ↦ λ right. elim (lacks_child_right parent) as (λ b. IfJob (IsCreation g ms) (cond b (Err why.Forbidden) (Ok (creation_of g ms parent)))) [
          | true ↦ tt
          | false ↦ record { parent = parent; parent_is = there; name_is = named_there (folders_now g) parent (name_in ms) right; job_is = refl }
        ]
      ] refl

  created_at : (p : ParentAsked) → parent_of g ms ≡ p → IfJob (IsCreation g ms) (create.create_at g ms p)
  created_at Top is = created_under None is
  created_at (Under parent) is = created_under (Some parent) is
  created_at Nowhere is = tt

pub creations_are : (g : Given) (ms : Members) (job : Job) → create.create_mailbox g ms ≡ Ok job → IsCreation g ms job
creations_are g ms job is =
    subst (λ (r : Result Job SetError). IfJob (IsCreation g ms) r) is
    (unless_wrong_job (IsCreation g ms) (wrong_properties (is_right_new g) (properties_in ms)) (create.create_at g ms (parent_of g ms)) (created_at g ms (parent_of g ms) refl))

-- ---- destroys

abbrev pub destroy_job : Given → Folder → Job
destroy_job g f = record { steps = deletes g.selected f.name; done = Gone f.number }

abbrev IsDestroy : Given → Folder → Job → Type 0
IsDestroy g f job = job ≡ destroy_job g f

destroyed : (g : Given) (removes : Bool) (f : Folder) → IfJob (IsDestroy g f) (destroy.destroy_found g removes f)
destroyed g removes f =
    elim (rights_of f).may_delete as (λ a. IfJob (IsDestroy g f) (cond (not a) (Err why.Forbidden) (cond (has_child (folders_now g) f) (Err why.MailboxHasChild)
    (cond (not removes && has_email g.mail.folders f.number) (Err why.MailboxHasEmail) (Ok (destroy_job g f)))))) [
      | false ↦ tt
      | true ↦ elim (has_child (folders_now g) f) as (λ b. IfJob (IsDestroy g f) (cond b (Err why.MailboxHasChild)
          (cond (not removes && has_email g.mail.folders f.number) (Err why.MailboxHasEmail) (Ok (destroy_job g f))))) [
            | true ↦ tt
            | false ↦ elim (not removes && has_email g.mail.folders f.number) as (λ c. IfJob (IsDestroy g f) (cond c (Err why.MailboxHasEmail) (Ok (destroy_job g f)))) [
              | true ↦ tt
              | false ↦ refl
            ]
          ]
    ]

pub destroys_are : (g : Given) (removes : Bool) (text : List ℕ) (job : Job) (f : Folder) → folder_to_destroy g text ≡ Some f
    → destroy.destroy_mailbox g removes text ≡ Ok job → job ≡ destroy_job g f
destroys_are g removes text job f named is =
    let so : destroy.destroy_found g removes f ≡ Ok job = ap (λ (o : Option Folder). destroy.destroy_of g removes o) (sym named) ∙ is in
    subst (λ (r : Result Job SetError). IfJob (IsDestroy g f) r) so (destroyed g removes f)

pub some_destroy : (g : Given) (removes : Bool) (text : List ℕ) (job : Job) → destroy.destroy_mailbox g removes text ≡ Ok job
    → (f : Folder) × (job ≡ destroy_job g f)
some_destroy g removes text job is = by (folder_to_destroy g text) refl
  where
    by : (o : Option Folder) → folder_to_destroy g text ≡ o → (f : Folder) × (job ≡ destroy_job g f)
    by None named = no_job why.NotFound job (ap (λ (o : Option Folder). destroy.destroy_of g removes o) (sym named) ∙ is)
    by (Some f) named = (f, destroys_are g removes text job f named is)
