-- What an item of Mailbox/set sends, by what is asked (RFC 8621 section 2.5, RFC 9051 sections 6.3.4 to 6.3.8).
use Rattle.std.specs.Prelude.{◌≡◌, ◌≢◌, ◌⊎◌, ◌↔◌, ℕ, Bool, true, false, List, Contains, codes, if◌then◌else◌, Option, Some, None}
use Rattle.imap_types.specs.declared.command.Command.{Command}
use Rattle.imap_types.specs.declared.command.Command.TheVariants as command
use Rattle.serde_json.specs.Data.{Data, Members}
use Rattle.serde_json.specs.Find.{get_member}
use Rattle.told_folder.specs.declared.message.Folder.{Folder}
use Rattle.mail_maps.specs.Hierarchy.{parent_in}
use Rattle.mailbox_names.specs.FullNames.{full_name}
use Rattle.mailbox_names.specs.Siblings.{is_served_as, same_folder}
use Rattle.set_given.specs.Given.{Given, folders_now}
use Rattle.set_jobs.specs.declared.done.Done.TheVariants.{Changed, Gone, MadeMailbox}
use Rattle.set_jobs.specs.declared.job.Job.{Job}
use Rattle.set_jobs.specs.declared.step.Step.{Step}
use Rattle.set_jobs.specs.declared.step.Step.TheVariants as step
use Rattle.mailbox_checks.specs.Properties.{name_in, parent_as, parent_of, subscription_in}
use Rattle.mailbox_checks.specs.Update.{is_subscribed, parent_there, place_now}

-- the command is sent for the item
abbrev pub Sends : Job → Command → Type 0
Sends job c = Contains job.steps (step.Change c)

-- ---- an update

-- the octets of the Mailbox's name in its parent
abbrev pub octets_now : Given → Folder → List ℕ
octets_now g f = (place_now (folders_now g) f).name

-- The parent that it is to have: the one that is asked, or else its own; none is the top level.
pub data IsParent (g : Given) (f : Folder) (ms : Members) (parent : Option Folder) : Type 0 where
  OwnParent : get_member (codes "parentId") ms ≡ None → parent ≡ parent_in (folders_now g) f → IsParent g f ms parent
  AskedParent : (value : Data) → get_member (codes "parentId") ms ≡ Some value → parent_as g (Some value) ≡ parent_there parent → IsParent g f ms parent

-- The name that it is to have there: the one that is asked, or else its own, as where the text that its own is served as is asked.
pub data IsName (g : Given) (f : Folder) (ms : Members) (name : List ℕ) : Type 0 where
  OwnName : name_in ms ≡ None → name ≡ octets_now g f → IsName g f ms name
  ServedName : (text : List ℕ) → name_in ms ≡ Some text → is_served_as (octets_now g f) text ≡ true → name ≡ octets_now g f → IsName g f ms name
  AskedName : name_in ms ≡ Some name → is_served_as (octets_now g f) name ≡ false → IsName g f ms name

-- The update of the Mailbox of a folder. RENAME is sent exactly where another parent or another name is asked. SUBSCRIBE or UNSUBSCRIBE of the name that
-- the folder has then is sent exactly where another subscription is asked, or where it had one and is renamed; there is nothing else, but for UNSELECT.
pub record SendsUpdate (g : Given) (f : Folder) (ms : Members) (job : Job) : Type 0 where
  pub parent : Option Folder
  pub name : List ℕ
  pub renames : Bool
  pub parent_is : IsParent g f ms parent
  pub name_is : IsName g f ms name
  pub renames_is : (renames ≡ true) ↔ ((same_folder (parent_in (folders_now g) f) parent ≡ false) ⊎ (octets_now g f ≢ name))
  pub renamed : (from to : List ℕ) → Sends job (command.Rename from to) ↔ ((renames ≡ true) × (from ≡ f.name) × (to ≡ full_name parent name))
  pub subscribed : (to : List ℕ) (on : Bool) → Sends job (command.Subscribe to on)
      ↔ ((to ≡ (if renames then full_name parent name else f.name)) × (on ≡ subscription_in ms (is_subscribed f))
      × ((on ≢ is_subscribed f) ⊎ ((renames ≡ true) × (is_subscribed f ≡ true))))
  pub others : (s : Step) → Contains job.steps s → (s ≡ step.Unselect) ⊎ ((c : Command) × (s ≡ step.Change c))
  pub commands : (c : Command) → Sends job c
      → ((from : List ℕ) × (to : List ℕ) × (c ≡ command.Rename from to)) ⊎ ((to : List ℕ) × (on : Bool) × (c ≡ command.Subscribe to on))
  pub done_is : job.done ≡ Changed f.number None

-- ---- a creation

-- A creation of these properties: CREATE of the name under the parent, SUBSCRIBE exactly where that is asked, and nothing else but a LIST and the SELECT of
-- the new folder.
pub record SendsCreation (g : Given) (ms : Members) (job : Job) : Type 0 where
  pub parent : Option Folder
  pub name : List ℕ
  pub parent_is : parent_of g ms ≡ parent_there parent
  pub name_is : name_in ms ≡ Some name
  pub created : (to : List ℕ) → Sends job (command.Create to) ↔ (to ≡ full_name parent name)
  pub subscribed : (to : List ℕ) (on : Bool) → Sends job (command.Subscribe to on)
      ↔ ((to ≡ full_name parent name) × (on ≡ true) × (subscription_in ms false ≡ true))
  pub selected : (to : List ℕ) → Contains job.steps (step.SelectMade to) ↔ (to ≡ full_name parent name)
  pub others : (s : Step) → Contains job.steps s
      → (s ≡ step.List (full_name parent name) g.special_use) ⊎ (s ≡ step.SelectMade (full_name parent name)) ⊎ ((c : Command) × (s ≡ step.Change c))
  pub commands : (c : Command) → Sends job c → ((to : List ℕ) × (c ≡ command.Create to)) ⊎ ((to : List ℕ) × (on : Bool) × (c ≡ command.Subscribe to on))
  pub done_is : job.done ≡ MadeMailbox 0

-- ---- a destroy

-- DELETE of the folder, and nothing else but for UNSELECT.
pub record SendsDestroy (f : Folder) (job : Job) : Type 0 where
  pub deleted : Sends job (command.Delete f.name)
  pub others : (s : Step) → Contains job.steps s → (s ≡ step.Unselect) ⊎ (s ≡ step.Change (command.Delete f.name))
  pub done_is : job.done ≡ Gone f.number
