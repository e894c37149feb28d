-- What the code makes of what is asked and of what is found.
use Rattle.std.specs.Prelude.{ℕ, List, [], ◌∷◌, codes, if◌then◌else◌, Option, Some, None, Result, Ok, Err}
use Rattle.std.specs.Cmp.Lexicographic.{slice_cmp}
use Rattle.std.specs.Ordering.{nat_cmp, is_lt}
use Rattle.serde_json.specs.Data.{Members}
use Rattle.set_jobs.specs.declared.done.SetError.{SetError}
use Rattle.set_jobs.specs.declared.done.SetError.TheVariants as why
use Rattle.email_import.specs.Imports.{import_of}
use Rattle.email_import.specs.declared.ready.ReadyImport.{ReadyImport}
use Rattle.email_creation.specs.declared.mailboxes.MailboxAsked.{MailboxAsked}
use Rattle.email_creation.specs.declared.mailboxes.MailboxAsked.TheVariants.{One, Nowhere, Several}

-- the lesser of a property and of the first member that is wrong, where there is one
abbrev pub first_of : Option (List ℕ) → List ℕ → List ℕ
first_of None property = property
first_of (Some key) property = if is_lt (slice_cmp nat_cmp key property) then key else property

abbrev pub wrong_property : List ℕ → Result ReadyImport SetError
wrong_property key = Err (why.InvalidProperties (key ∷ []))

-- where no member is wrong
abbrev pub into_mailbox : Members → List ℕ → MailboxAsked → Result ReadyImport SetError
into_mailbox ms blob (One folder) = Ok (import_of ms blob folder.now)
into_mailbox ms blob Nowhere = wrong_property (codes "mailboxIds")
into_mailbox ms blob Several = Err why.TooManyMailboxes

-- where this member is the first that is wrong
abbrev pub first_wrong : List ℕ → MailboxAsked → List ℕ
first_wrong key (One folder) = key
first_wrong key Nowhere = first_of (Some key) (codes "mailboxIds")
first_wrong key Several = key
