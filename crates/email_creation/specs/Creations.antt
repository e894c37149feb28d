-- The creations of Email/set: their checks in order (RFC 8620 section 5.3, RFC 8621 section 4.6).
use Rattle.std.specs.Prelude.{◌≡◌, ◌≢◌, ℕ, Bool, true, false, List, [], ◌∷◌, codes, Result, Ok, Err}
use Rattle.std.specs.Cmp.Lexicographic.{slice_cmp}
use Rattle.std.specs.declared.cmp.Ordering.TheVariants.{Greater}
use Rattle.std.specs.Ordering.{nat_cmp}
use Rattle.serde_json.specs.Data.{Members}
use Rattle.told_folder.specs.declared.message.Folder.{Folder}
use Rattle.mail_drafts.specs.declared.draft.Draft.{Draft}
use Rattle.draft_reading.specs.Properties.{IsRefused, NoneRefused}
use Rattle.draft_reading.specs.Readings.{IsDraftOf, IsWithout}
use Rattle.set_jobs.specs.declared.done.SetError.{SetError}
use Rattle.set_jobs.specs.declared.done.SetError.TheVariants as why
use Rattle.set_given.specs.Given.{Given}
use Rattle.email_checks.specs.Emails.{no_folder}
use Rattle.email_checks.specs.Steps.{can_be_moved_into}
use Rattle.email_creation.specs.Asked.{mailbox_asked, flags_asked, date_asked}
use Rattle.email_creation.specs.declared.ready.ReadyCreation.{ReadyCreation}

-- ---- properties that are wrong

-- a property that a draft can't have, or mailboxIds that name no Mailbox
pub data IsWrong (g : Given) (ms : Members) (key : List ℕ) : Type 0 where
  OfTheDraft : IsRefused ms key → IsWrong g ms key
  OfMailboxes : key ≡ codes "mailboxIds" → mailbox_asked g ms ≡ Err no_folder → IsWrong g ms key

-- the first of them, in the order of their names' octets
pub record IsFirstWrong (g : Given) (ms : Members) (key : List ℕ) : Type 0 where
  pub wrong : IsWrong g ms key
  pub first : (other : List ℕ) → IsWrong g ms other → slice_cmp nat_cmp key other ≢ Greater

-- ---- the checks

-- what is kept of a creation that passes its checks
abbrev pub creation_of : Members → Folder → Draft → ReadyCreation
creation_of ms f d = record { name = f.name; draft = d; flags = flags_asked ms; date = date_asked ms }

-- What these properties come to, over these uploads: invalidProperties, tooManyMailboxes, blobNotFound, forbidden, or a creation that passes.
pub data ChecksCreation (g : Given) (uploads : List (List ℕ)) (ms : Members) : Result ReadyCreation SetError → Type 0 where
  WrongProperty : (key : List ℕ) → IsFirstWrong g ms key → ChecksCreation g uploads ms (Err (why.InvalidProperties (key ∷ [])))
  SeveralMailboxes : NoneRefused ms → mailbox_asked g ms ≡ Err why.TooManyMailboxes → ChecksCreation g uploads ms (Err why.TooManyMailboxes)
  NoUploads : (f : Folder) (ids : List (List ℕ)) → mailbox_asked g ms ≡ Ok f → IsWithout uploads ms ids → ChecksCreation g uploads ms (Err (why.BlobNotFound ids))
  -- no Email can be put into the Mailbox
  MayNot : (f : Folder) (d : Draft) → mailbox_asked g ms ≡ Ok f → IsDraftOf uploads ms d → can_be_moved_into f ≡ false → ChecksCreation g uploads ms (Err why.Forbidden)
  Passes : (f : Folder) (d : Draft) → mailbox_asked g ms ≡ Ok f → IsDraftOf uploads ms d → can_be_moved_into f ≡ true → ChecksCreation g uploads ms (Ok (creation_of ms f d))
