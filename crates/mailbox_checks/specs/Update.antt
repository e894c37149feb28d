-- The updates of Mailbox/set: their checks in order, and their steps (RFC 8621 section 2.5, RFC 9051 sections 6.3.6 to 6.3.8).
use Rattle.std.specs.Prelude.{ℕ, ◌&&◌, ◌||◌, Bool, not, List, ◌++◌, drop, bytes_eq, codes, if◌then◌else◌, Option, Some, None, Result, Ok, Err}
use Rattle.serde_json.specs.Data.{Data, Members}
use Rattle.serde_json.specs.Find.{get_member}
use Rattle.told_folder.specs.declared.message.Folder.{Folder}
use Rattle.mail_maps.specs.Hierarchy.{parent_in, parent_len}
use Rattle.mail_maps.specs.Rights.{rights_of}
use Rattle.mail_maps.specs.Roles.{has_attribute}
use Rattle.mailbox_names.specs.FullNames.{full_name}
use Rattle.mailbox_names.specs.Siblings.{same_folder, is_served_as}
use Rattle.mailbox_names.specs.Renames.{is_within, clashes}
use Rattle.set_jobs.specs.declared.done.Done.TheVariants.{Changed}
use Rattle.set_jobs.specs.declared.done.SetError.{SetError}
use Rattle.set_jobs.specs.declared.done.SetError.TheVariants as why
use Rattle.set_jobs.specs.declared.job.Job.{Job}
use Rattle.set_jobs.specs.declared.step.Step.{Step}
use Rattle.set_given.specs.Given.{Given, folders_now, folder_named}
use Rattle.set_patches.specs.Patches.{patch_in, is_invalid_patch, wrong_properties}
use Rattle.mailbox_checks.specs.Properties.{is_right_change, mailbox_objects, wrong_name, wrong_parent, unless_wrong, ParentAsked, Top, Under, Nowhere, parent_as, name_in, subscription_in}
use Rattle.mailbox_checks.specs.Steps.{renames, subscribes, subscribes_anew}
use Rattle.mailbox_checks.specs.Create.{is_name_wrong, lacks_child_right}

-- ---- where a folder is to be

-- under this parent, by this name in it
pub record Place : Type 0 where
  pub parent : Option Folder
  pub name : List ℕ

-- where it is, with the octets of its name that the parent's leaves
abbrev pub place_now : List Folder → Folder → Place
place_now fs f = record { parent = parent_in fs f; name = drop (parent_len (parent_in fs f)) f.name }

-- a name by which it is served is no other one
abbrev pub name_or : List ℕ → Option (List ℕ) → List ℕ
name_or now None = now
name_or now (Some text) = if is_served_as now text then now else text

abbrev pub name_at : Place → List ℕ
name_at p = full_name p.parent p.name

abbrev pub is_moved : Place → Place → Bool
is_moved now asked = not (same_folder now.parent asked.parent)

-- another name, or another parent, is asked
abbrev pub is_renamed : Place → Place → Bool
is_renamed now asked = is_moved now asked || not (bytes_eq now.name asked.name)

-- ---- what is sent

abbrev pub is_subscribed : Folder → Bool
is_subscribed f = has_attribute (codes "\\subscribed") f

abbrev pub update_job : Folder → List Step → Job
update_job f steps = record { steps = steps; done = Changed f.number None }

-- it has this name then, and the subscription that is asked, or else the one that it had
abbrev pub rename_job : Option (List ℕ) → Folder → Members → List ℕ → Job
rename_job selected f ms to = update_job f (renames selected f.name to ++ subscribes_anew to (is_subscribed f) (subscription_in ms (is_subscribed f)))

-- its name stays
abbrev pub subscription_job : Folder → Members → Job
subscription_job f ms = update_job f (subscribes f.name (is_subscribed f) (subscription_in ms (is_subscribed f)))

-- ---- checks

-- its right is asked where it is renamed, and the new parent's where it moves
abbrev pub lacks_rename_right : Folder → Place → Place → Bool
lacks_rename_right f now asked = not (rights_of f).may_rename || (is_moved now asked && lacks_child_right asked.parent)

-- No name that is given is wrong, or that of a folder that stays.
abbrev pub cannot_be_renamed : Given → Folder → Place → Bool
cannot_be_renamed g f asked = is_name_wrong (folders_now g) (Some f) asked.parent asked.name || clashes f.name (name_at asked) g.mail.folders

abbrev pub rename_to : Given → Members → Folder → Place → Place → Result Job SetError
rename_to g ms f now asked =
    if is_within f asked.parent then Err wrong_parent
    else if cannot_be_renamed g f asked then Err wrong_name
    else if lacks_rename_right f now asked then Err why.Forbidden
    else Ok (rename_job g.selected f ms (name_at asked))

-- where name and parent are as they are nothing is renamed, and no right is asked
abbrev pub update_to : Given → Members → Folder → Place → Place → Result Job SetError
update_to g ms f now asked = if is_renamed now asked then rename_to g ms f now asked else Ok (subscription_job f ms)

abbrev pub update_under : Given → Members → Folder → Place → Option Folder → Result Job SetError
update_under g ms f now parent = update_to g ms f now (record { parent = parent; name = name_or now.name (name_in ms) })

abbrev pub update_at : Given → Members → Folder → Place → ParentAsked → Result Job SetError
update_at g ms f now Top = update_under g ms f now None
update_at g ms f now (Under parent) = update_under g ms f now (Some parent)
update_at g ms f now Nowhere = Err wrong_parent

abbrev pub parent_there : Option Folder → ParentAsked
parent_there None = Top
parent_there (Some p) = Under p

-- its own parent, where none is asked
abbrev pub parent_or : Given → Option Folder → Option Data → ParentAsked
parent_or g now None = parent_there now
parent_or g now d = parent_as g d

abbrev pub update_right : Given → Members → Folder → Result Job SetError
update_right g ms f =
    let now : Place = place_now (folders_now g) f in
    update_at g ms f now (parent_or g now.parent (get_member (codes "parentId") ms))

abbrev pub update_found : Given → Members → Folder → Result Job SetError
update_found g ms f =
    if is_invalid_patch mailbox_objects ms then Err why.InvalidPatch
    else unless_wrong (wrong_properties (is_right_change g f) (patch_in ms)) (update_right g ms f)

abbrev pub update_of : Given → Members → Option Folder → Result Job SetError
update_of g ms None = Err why.NotFound
update_of g ms (Some f) = update_found g ms f

-- an update of the Mailbox that this text names, by this patch: notFound, invalidPatch, invalidProperties, forbidden
abbrev pub update_mailbox : Given → List ℕ → Members → Result Job SetError
update_mailbox g text ms = update_of g ms (folder_named g text)
