-- The properties that an item of Mailbox/set may name, and their values (RFC 8621 sections 2 and 2.5, RFC 8620 section 5.3).
use Rattle.std.specs.Prelude.{ℕ, ◌==◌, ◌||◌, ◌&&◌, Bool, true, false, not, List, [], ◌∷◌, bytes_eq, codes, if◌then◌else◌, is_some, Option, Some, None, option_map, option_and_then, unwrap_or, Result, Err}
use Rattle.serde_json.specs.Data.{unsigned, Data, null, boolean, number, string, Members}
use Rattle.serde_json.specs.Find.{as_bool, as_str, get, get_member}
use Rattle.told_folder.specs.declared.message.Folder.{Folder}
use Rattle.change_list.specs.Advance.{row_at}
use Rattle.mail_maps.specs.Serve.{ServedMailbox}
use Rattle.read_methods.specs.Mailboxes.{mailbox_data, mailbox_properties}
use Rattle.set_jobs.specs.declared.done.SetError.{SetError}
use Rattle.set_jobs.specs.declared.done.SetError.TheVariants as why
use Rattle.set_jobs.specs.declared.job.Job.{Job}
use Rattle.set_patches.specs.Patches.{is_null}
use Rattle.set_patches.specs.declared.patches.Pointer.{Pointer}
use Rattle.set_patches.specs.declared.patches.Pointer.TheVariants.{Whole}
use Rattle.set_patches.specs.Values.{same_data}
use Rattle.set_given.specs.Given.{Given, was_served, folder_named}

-- ---- values that a client sets

abbrev pub is_text : Data → Bool
is_text (string s) = true
is_text _ = false

abbrev pub is_boolean : Data → Bool
is_boolean (boolean b) = true
is_boolean _ = false

abbrev pub is_zero : Data → Bool
is_zero (number (unsigned n)) = n == 0
is_zero _ = false

-- null, or what names a Mailbox
abbrev pub is_parent : Given → Data → Bool
is_parent g null = true
is_parent g (string text) = is_some (folder_named g text)
is_parent g _ = false

abbrev pub can_be_set : Given → List ℕ → Data → Bool
can_be_set g p d =
    if bytes_eq p (codes "name") then is_text d
    else if bytes_eq p (codes "parentId") then is_parent g d
    else if bytes_eq p (codes "isSubscribed") then is_boolean d
    else false

-- the role that a new Mailbox has is none, and its place among others is 0
abbrev pub can_be_made : Given → List ℕ → Data → Bool
can_be_made g p d =
    if bytes_eq p (codes "role") then is_null d
    else if bytes_eq p (codes "sortOrder") then is_zero d
    else can_be_set g p d

-- a property of a new Mailbox
abbrev pub is_right_new : Given → Pointer → Data → Bool
is_right_new g (Whole p) d = can_be_made g p d
is_right_new g _ d = false

-- ---- values that are sent back

-- the Mailbox as it was served as the call began
abbrev pub served_data : Given → ℕ → Option Data
served_data g n = option_map (λ (s : ServedMailbox). mailbox_data mailbox_properties (n, s)) (row_at g.history.mailboxes.now n)

abbrev pub is_value : Data → Option Data → Bool
is_value d None = false
is_value d (Some e) = same_data d e

-- the property had this value then
abbrev pub was_value : Given → Folder → List ℕ → Data → Bool
was_value g f p d = is_value d (option_and_then (get p) (served_data g f.number))

-- what a Mailbox that the call made has, and no client was told yet
abbrev pub was_made_with : Given → Folder → List ℕ → Data → Bool
was_made_with g f p d = not (was_served g f) && can_be_made g p d

-- a part of an update: each property may stand there with the value that was served
abbrev pub is_right_change : Given → Folder → Pointer → Data → Bool
is_right_change g f (Whole p) d = can_be_set g p d || was_made_with g f p d || was_value g f p d
is_right_change g f _ d = false

-- the one property that has members
abbrev pub mailbox_objects : List (List ℕ)
mailbox_objects = codes "myRights" ∷ []

-- ---- refusals

abbrev pub wrong_property : List ℕ → SetError
wrong_property p = why.InvalidProperties (p ∷ [])

abbrev pub wrong_name : SetError
wrong_name = wrong_property (codes "name")

abbrev pub wrong_parent : SetError
wrong_parent = wrong_property (codes "parentId")

abbrev pub unless_wrong : List (List ℕ) → Result Job SetError → Result Job SetError
unless_wrong [] otherwise = otherwise
unless_wrong (p ∷ ps) otherwise = Err (why.InvalidProperties (p ∷ ps))

-- ---- what is asked

-- the parent that is asked: none at the top level, or what no folder is
pub data ParentAsked : Type 0 where
  Top : ParentAsked
  Under : Folder → ParentAsked
  Nowhere : ParentAsked

abbrev pub parent_folder : Option Folder → ParentAsked
parent_folder None = Nowhere
parent_folder (Some f) = Under f

abbrev pub parent_as : Given → Option Data → ParentAsked
parent_as g None = Top
parent_as g (Some null) = Top
parent_as g (Some (string text)) = parent_folder (folder_named g text)
parent_as g (Some d) = Nowhere

abbrev pub name_in : Members → Option (List ℕ)
name_in ms = option_and_then as_str (get_member (codes "name") ms)

abbrev pub parent_of : Given → Members → ParentAsked
parent_of g ms = parent_as g (get_member (codes "parentId") ms)

-- the subscription that is asked, or this one where none is
abbrev pub subscription_in : Members → Bool → Bool
subscription_in ms otherwise = unwrap_or (option_and_then as_bool (get_member (codes "isSubscribed") ms)) otherwise
