-- What the code makes of what is asked and of what is read.
use Rattle.std.specs.Prelude.{ℕ, Bool, false, List, [], ◌∷◌, codes, if◌then◌else◌, Result, Ok, Err}
use Rattle.std.specs.Cmp.Lexicographic.{slice_cmp}
use Rattle.std.specs.Ordering.{nat_cmp, is_lt}
use Rattle.serde_json.specs.Data.{Members}
use Rattle.told_folder.specs.declared.message.Folder.{Folder}
use Rattle.mail_drafts.specs.declared.draft.Draft.{Draft}
use Rattle.set_jobs.specs.declared.done.SetError.{SetError}
use Rattle.set_jobs.specs.declared.done.SetError.TheVariants as why
use Rattle.email_checks.specs.Emails.{no_folder}
use Rattle.email_checks.specs.Steps.{can_be_moved_into}
use Rattle.email_creation.specs.Creations.{creation_of}
use Rattle.email_creation.specs.declared.mailboxes.MailboxAsked.{MailboxAsked}
use Rattle.email_creation.specs.declared.mailboxes.MailboxAsked.TheVariants.{One, Nowhere, Several}
use Rattle.email_creation.specs.declared.ready.ReadyCreation.{ReadyCreation}

-- mailboxIds is wrong, and stands before the property
abbrev pub is_wrong_before : MailboxAsked → List ℕ → Bool
is_wrong_before (One folder) property = false
is_wrong_before Nowhere property = is_lt (slice_cmp nat_cmp (codes "mailboxIds") property)
is_wrong_before Several property = false

-- where this is the first property that a draft can't have
abbrev pub first_wrong : MailboxAsked → List ℕ → SetError
first_wrong asked property = if is_wrong_before asked property then no_folder else why.InvalidProperties (property ∷ [])

-- where these uploads aren't kept
abbrev pub without_uploads : MailboxAsked → List (List ℕ) → SetError
without_uploads (One folder) ids = why.BlobNotFound ids
without_uploads Nowhere ids = no_folder
without_uploads Several ids = why.TooManyMailboxes

-- where there is a draft
abbrev pub into_folder : Members → Folder → Draft → Result ReadyCreation SetError
into_folder ms f d = if can_be_moved_into f then Ok (creation_of ms f d) else Err why.Forbidden

abbrev pub with_draft : Members → MailboxAsked → Draft → Result ReadyCreation SetError
with_draft ms (One folder) d = into_folder ms folder.now d
with_draft ms Nowhere d = Err no_folder
with_draft ms Several d = Err why.TooManyMailboxes
