-- The items of Email/set: their checks in order, and what each is to do (RFC 8620 section 5.3, RFC 8621 section 4.6).
use Rattle.std.specs.Prelude.{ℕ, List, [], ◌∷◌, ◌++◌, codes, if◌then◌else◌, Option, Some, None, Result, Ok, Err}
use Rattle.serde_json.specs.Data.{Members}
use Rattle.told_folder.specs.declared.message.Folder.{Folder}
use Rattle.told_mail.specs.Mail.{folder_in}
use Rattle.mail_maps.specs.Keywords.{keywords_of}
use Rattle.mail_maps.specs.Rights.{rights_of}
use Rattle.set_jobs.specs.declared.done.Done.TheVariants.{Gone}
use Rattle.set_jobs.specs.declared.done.SetError.{SetError}
use Rattle.set_jobs.specs.declared.done.SetError.TheVariants as why
use Rattle.set_jobs.specs.declared.job.Job.{Job}
use Rattle.set_jobs.specs.declared.step.Step.TheVariants as step
use Rattle.set_given.specs.Given.{Given, EmailFound, email_named}
use Rattle.set_patches.specs.Patches.{Patch, patch_in, wrong_properties}
use Rattle.email_checks.specs.Keywords.{flags_missing}
use Rattle.email_checks.specs.Asked.{asked_folders, asked_keywords, is_invalid_email_patch, is_right}
use Rattle.email_checks.specs.Steps.{EmailUpdate, is_forbidden, selects, update_job}

-- ---- an update

-- the flags of keywords that aren't held yet, and of those that are to be held no more, where keywords were patched
abbrev pub flags_to_set : Option (List (List ℕ)) → List (List ℕ) → List (List ℕ)
flags_to_set None held = []
flags_to_set (Some asked) held = flags_missing asked held

abbrev pub flags_to_take : Option (List (List ℕ)) → List (List ℕ) → List (List ℕ)
flags_to_take None held = []
flags_to_take (Some asked) held = flags_missing held asked

abbrev pub update_with : EmailFound → Folder → List (List ℕ) → Option (List (List ℕ)) → Option Folder → EmailUpdate
update_with e f held asked target = record {
  email = e.email;
  mark = e.mark;
  uid = e.placed.message.uid;
  folder = f;
  sets = flags_to_set asked held;
  takes = flags_to_take asked held;
  asked = asked;
  target = target;
}

abbrev pub held_keywords : EmailFound → List (List ℕ)
held_keywords e = keywords_of e.placed.message.flags

-- the update by these parts, into this folder
abbrev pub update_of : EmailFound → Folder → Patch → Option Folder → EmailUpdate
update_of e f parts target = update_with e f (held_keywords e) (asked_keywords parts None (held_keywords e)) target

abbrev pub unless_forbidden : Option (List ℕ) → EmailUpdate → Result Job SetError
unless_forbidden selected u = if is_forbidden u then Err why.Forbidden else Ok (update_job selected u)

-- an Email is in a Mailbox at least, and here in no two
abbrev pub no_folder : SetError
no_folder = why.InvalidProperties (codes "mailboxIds" ∷ [])

abbrev pub one_folder : List ℕ → Result ℕ SetError
one_folder [] = Err no_folder
one_folder (n ∷ []) = Ok n
one_folder (n ∷ k ∷ ns) = Err why.TooManyMailboxes

abbrev pub update_into : Given → EmailFound → Folder → Patch → Result ℕ SetError → Result Job SetError
update_into g e f parts (Err error) = Err error
update_into g e f parts (Ok n) = unless_forbidden g.selected (update_of e f parts (folder_in g.mail.folders n))

abbrev pub update_right : Given → EmailFound → Folder → Patch → Result Job SetError
update_right g e f parts = update_into g e f parts (one_folder (asked_folders g parts (f.number ∷ [])))

abbrev pub unless_wrong : List (List ℕ) → Result Job SetError → Result Job SetError
unless_wrong [] otherwise = otherwise
unless_wrong (p ∷ ps) otherwise = Err (why.InvalidProperties (p ∷ ps))

abbrev pub update_valid : Given → EmailFound → Folder → Patch → Result Job SetError
update_valid g e f parts = unless_wrong (wrong_properties (is_right g) parts) (update_right g e f parts)

abbrev pub update_in : Given → Members → EmailFound → Folder → Result Job SetError
update_in g ms e f = if is_invalid_email_patch ms then Err why.InvalidPatch else update_valid g e f (patch_in ms)

abbrev pub update_found : Given → Members → EmailFound → Option Folder → Result Job SetError
update_found g ms e None = Err why.NotFound
update_found g ms e (Some f) = update_in g ms e f

abbrev pub update_email_as : Given → Members → Option EmailFound → Result Job SetError
update_email_as g ms None = Err why.NotFound
update_email_as g ms (Some e) = update_found g ms e (folder_in g.mail.folders e.placed.folder)

-- an update of the Email that this text names, by this patch: notFound, invalidPatch, invalidProperties, tooManyMailboxes, forbidden
abbrev pub update_email : Given → List ℕ → Members → Result Job SetError
update_email g text ms = update_email_as g ms (email_named g text)

-- ---- a destroy

-- STORE of `\Deleted`, then EXPUNGE of the message
abbrev pub destroy_job : Option (List ℕ) → EmailFound → Folder → Job
destroy_job selected e f = record {
  steps = selects selected f e.mark ++ (step.Delete e.placed.message.uid ∷ step.Expunge e.placed.message.uid ∷ []);
  done = Gone e.email;
}

abbrev pub destroy_in : Option (List ℕ) → EmailFound → Folder → Result Job SetError
destroy_in selected e f = if (rights_of f).may_remove_items then Ok (destroy_job selected e f) else Err why.Forbidden

abbrev pub destroy_found : Given → EmailFound → Option Folder → Result Job SetError
destroy_found g e None = Err why.NotFound
destroy_found g e (Some f) = destroy_in g.selected e f

abbrev pub destroy_email_as : Given → Option EmailFound → Result Job SetError
destroy_email_as g None = Err why.NotFound
destroy_email_as g (Some e) = destroy_found g e (folder_in g.mail.folders e.placed.folder)

-- a destroy of the Email that this text names: notFound, forbidden
abbrev pub destroy_email : Given → List ℕ → Result Job SetError
destroy_email g text = destroy_email_as g (email_named g text)
