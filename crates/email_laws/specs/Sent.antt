-- What an update and a destroy of an Email send, by what is asked (RFC 8621 section 4.6).
use Rattle.std.specs.Prelude.{◌≡◌, ◌≢◌, ◌⊎◌, ◌↔◌, ℕ, Bool, true, false, List, [], ◌∷◌, Contains, Option, Some, None}
use Rattle.imap_types.specs.declared.command.Command.{Command}
use Rattle.imap_types.specs.declared.command.Command.TheVariants as command
use Rattle.told_folder.specs.declared.message.Folder.{Folder}
use Rattle.told_mail.specs.Mail.{folder_in}
use Rattle.mail_maps.specs.Keywords.{has_name}
use Rattle.set_jobs.specs.declared.done.Done.TheVariants.{Changed, Gone}
use Rattle.set_jobs.specs.declared.job.Job.{Job}
use Rattle.set_jobs.specs.declared.step.Step.{Step}
use Rattle.set_jobs.specs.declared.step.Step.TheVariants as step
use Rattle.set_given.specs.Given.{Given, EmailFound}
use Rattle.set_patches.specs.Patches.{Patch}
use Rattle.email_checks.specs.Asked.{asked_folders, asked_keywords}
use Rattle.email_checks.specs.Emails.{held_keywords}
use Rattle.email_checks.specs.Keywords.{flag_of}
use Rattle.email_checks.specs.Steps.{is_selected}

-- ---- keywords

-- the keyword is to be set, as it is asked and isn't held; or taken, as it is held and isn't asked
abbrev pub IsToChange : Bool → List (List ℕ) → List (List ℕ) → List ℕ → Type 0
IsToChange true asked held k = Contains asked k × (has_name k held ≡ false)
IsToChange false asked held k = Contains held k × (has_name k asked ≡ false)

-- these are the flags of those keywords, and of no others
abbrev pub AreFlagsToChange : Bool → List (List ℕ) → List (List ℕ) → List (List ℕ) → Type 0
AreFlagsToChange add asked held flags = (x : List ℕ) → Contains flags x ↔ ((k : List ℕ) × IsToChange add asked held k × (x ≡ flag_of k))

-- ---- an update

-- The update of the Email that these parts ask: one folder is asked. The keywords that change are stored, those that are set and those that are taken each
-- in one STORE of the message; the message is moved exactly where the folder that is asked is another one; and there is nothing else, but for a SELECT.
pub record SendsWhatIsAsked (g : Given) (e : EmailFound) (parts : Patch) (job : Job) : Type 0 where
  pub folder : Folder
  pub number : ℕ
  pub there : folder_in g.mail.folders e.placed.folder ≡ Some folder
  pub asked : asked_folders g parts (folder.number ∷ []) ≡ number ∷ []
  pub stored : (uid : ℕ) (add : Bool) (flags : List (List ℕ)) → Contains job.steps (step.Change (command.Store uid add flags))
      → (uid ≡ e.placed.message.uid) × (flags ≢ [])
      × ((names : List (List ℕ)) × (asked_keywords parts None (held_keywords e) ≡ Some names) × AreFlagsToChange add names (held_keywords e) flags)
  pub changed : (names : List (List ℕ)) (add : Bool) (k : List ℕ) → asked_keywords parts None (held_keywords e) ≡ Some names
      → IsToChange add names (held_keywords e) k
      → (flags : List (List ℕ)) × Contains job.steps (step.Change (command.Store e.placed.message.uid add flags)) × Contains flags (flag_of k)
  pub moved : (uid : ℕ) (name : List ℕ) → Contains job.steps (step.Change (command.Move uid name))
      ↔ ((target : Folder) × (folder_in g.mail.folders number ≡ Some target) × (target.number ≢ folder.number) × (uid ≡ e.placed.message.uid)
      × (name ≡ target.name))
  pub others : (s : Step) → Contains job.steps s → (s ≡ step.Select folder.number e.mark) ⊎ ((c : Command) × (s ≡ step.Change c))
  pub commands : (c : Command) → Contains job.steps (step.Change c)
      → ((uid : ℕ) × (add : Bool) × (flags : List (List ℕ)) × (c ≡ command.Store uid add flags)) ⊎ ((uid : ℕ) × (name : List ℕ) × (c ≡ command.Move uid name))
  pub done_is : job.done ≡ Changed e.email (asked_keywords parts None (held_keywords e))

-- ---- a destroy

-- The folder is selected where it isn't; then STORE of `\Deleted` and EXPUNGE of the message.
pub record SendsDestroy (g : Given) (e : EmailFound) (job : Job) : Type 0 where
  pub folder : Folder
  pub there : folder_in g.mail.folders e.placed.folder ≡ Some folder
  pub steps : (s : Step) → Contains job.steps s
      ↔ (((is_selected g.selected folder.name ≡ false) × (s ≡ step.Select folder.number e.mark)) ⊎ (s ≡ step.Delete e.placed.message.uid)
      ⊎ (s ≡ step.Expunge e.placed.message.uid))
  pub done_is : job.done ≡ Gone e.email
