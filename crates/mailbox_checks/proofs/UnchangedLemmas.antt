-- An update that names no property.
use Rattle.std.proofs.Common.{◌≡◌, ℕ, Bool, true, false, ◌||◌, not, List, [], ◌∷◌, ◌++◌, Option, Some, None, Result, Ok, Err, bytes_eq, if◌then◌else◌, refl, sym, ap, ◌∙◌}
use Rattle.std.proofs.lemmas.Slice.Eq.{bytes_eq-Decides}
use Rattle.serde_json.specs.Data.{no_members}
use Rattle.told_folder.specs.declared.message.Folder.{Folder}
use Rattle.mail_maps.specs.Hierarchy.{parent_in, parent_len}
use Rattle.mailbox_names.specs.Siblings.{same_folder}
use Rattle.set_jobs.specs.declared.done.SetError.{SetError}
use Rattle.set_jobs.specs.declared.job.Job.{Job}
use Rattle.set_given.specs.Given.{Given, folders_now, folder_named}
use Rattle.mailbox_checks.specs.Steps.{subscribes}
use Rattle.mailbox_checks.specs.Update.{Place, place_now, is_renamed, is_subscribed, subscription_job, update_to, update_at, update_found, update_of, update_mailbox, rename_to, parent_there}

self_name : (a : List ℕ) → bytes_eq a a ≡ true
self_name a = (bytes_eq-Decides a a).1 refl

self_folder : (o : Option Folder) → same_folder o o ≡ true
self_folder None = refl
self_folder (Some f) = self_name f.name

-- where a folder is it isn't renamed
pub not_renamed : (p : Place) → is_renamed p p ≡ false
not_renamed p = ap (λ b. not b || not (bytes_eq p.name p.name)) (self_folder p.parent) ∙ ap (λ b. not b) (self_name p.name)

same_subscription : (name : List ℕ) (b : Bool) → subscribes name b b ≡ []
same_subscription name true = refl
same_subscription name false = refl

stays : (g : Given) (f : Folder) (o : Option Folder) (name : List ℕ) → update_at g no_members f (record { parent = o; name = name }) (parent_there o) ≡ Ok (subscription_job f no_members)
stays g f None name =
    let p : Place = record { parent = None; name = name } in
    ap (λ b. if b then rename_to g no_members f p p else Ok (subscription_job f no_members)) (not_renamed p)
stays g f (Some parent) name =
    let p : Place = record { parent = Some parent; name = name } in
    ap (λ b. if b then rename_to g no_members f p p else Ok (subscription_job f no_members)) (not_renamed p)

ok_same : (a b : Job) → ◌≡◌ {A = Result Job SetError} (Ok a) (Ok b) → a ≡ b
ok_same a b e = cc

pub unchanged : (g : Given) (text : List ℕ) (job : Job) → update_mailbox g text no_members ≡ Ok job → job.steps ≡ []
unchanged g text job e = by (folder_named g text) e
  where
    by : (o : Option Folder) → update_of g no_members o ≡ Ok job → job.steps ≡ []
    by None f = absurd (cc)
    by (Some f) is =
        let now : Place = place_now (folders_now g) f in
        let same : subscription_job f no_members ≡ job = ok_same _ _ (sym (stays g f now.parent now.name) ∙ is) in
        ap (λ (j : Job). j.steps) (sym same) ∙ same_subscription f.name (is_subscribed f)
