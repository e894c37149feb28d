-- The creations of Mailbox/set: their checks in order, and their steps (RFC 8621 section 2.5, RFC 9051 section 6.3.4).
use Rattle.std.specs.Prelude.{ℕ, ◌||◌, Bool, false, not, List, [], if◌then◌else◌, unwrap_or, Option, Some, None, Result, Ok, Err}
use Rattle.serde_json.specs.Data.{Members}
use Rattle.told_folder.specs.declared.message.Folder.{Folder}
use Rattle.mail_maps.specs.Rights.{rights_of}
use Rattle.mailbox_names.specs.FitNames.{can_be_named}
use Rattle.mailbox_names.specs.FullNames.{full_name}
use Rattle.mailbox_names.specs.Siblings.{has_sibling}
use Rattle.set_jobs.specs.declared.done.Done.TheVariants.{MadeMailbox}
use Rattle.set_jobs.specs.declared.done.SetError.{SetError}
use Rattle.set_jobs.specs.declared.done.SetError.TheVariants as why
use Rattle.set_jobs.specs.declared.job.Job.{Job}
use Rattle.set_given.specs.Given.{Given, folders_now}
use Rattle.set_patches.specs.Patches.{properties_in, wrong_properties}
use Rattle.mailbox_checks.specs.Properties.{is_right_new, wrong_name, wrong_parent, unless_wrong, ParentAsked, Top, Under, Nowhere, parent_of, name_in, subscription_in}
use Rattle.mailbox_checks.specs.Steps.{creates}

-- This folder, or a new one, can't have the name under the parent.
abbrev pub is_name_wrong : List Folder → Option Folder → Option Folder → List ℕ → Bool
is_name_wrong fs this parent name = not (can_be_named fs parent name) || has_sibling fs this parent name

abbrev pub lacks_child_right : Option Folder → Bool
lacks_child_right None = false
lacks_child_right (Some parent) = not (rights_of parent).may_create_child

-- a name that isn't there is the empty one, which no Mailbox can have
abbrev pub name_or_empty : Members → List ℕ
name_or_empty ms = unwrap_or (name_in ms) []

-- its number is known once it is made
abbrev pub creation_of : Given → Members → Option Folder → Job
creation_of g ms parent = record {
  steps = creates (full_name parent (name_or_empty ms)) (subscription_in ms false) g.special_use;
  done = MadeMailbox 0;
}

abbrev pub create_under : Given → Members → Option Folder → Result Job SetError
create_under g ms parent =
    if is_name_wrong (folders_now g) None parent (name_or_empty ms) then Err wrong_name
    else if lacks_child_right parent then Err why.Forbidden
    else Ok (creation_of g ms parent)

abbrev pub create_at : Given → Members → ParentAsked → Result Job SetError
create_at g ms Top = create_under g ms None
create_at g ms (Under parent) = create_under g ms (Some parent)
create_at g ms Nowhere = Err wrong_parent

-- a creation of these properties: invalidProperties, forbidden
abbrev pub create_mailbox : Given → Members → Result Job SetError
create_mailbox g ms = unless_wrong (wrong_properties (is_right_new g) (properties_in ms)) (create_at g ms (parent_of g ms))
