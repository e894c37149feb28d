-- An import until its octets are sought: its checks in order, and what is kept of it (RFC 8621 section 4.8).
use Rattle.std.specs.Prelude.{◌≡◌, ℕ, List, [], ◌∷◌, Some, Result, Ok, Err}
use Rattle.serde_json.specs.Data.{Members}
use Rattle.told_folder.specs.declared.message.Folder.{Folder}
use Rattle.set_jobs.specs.declared.done.SetError.{SetError}
use Rattle.set_jobs.specs.declared.done.SetError.TheVariants as why
use Rattle.set_given.specs.Given.{Given}
use Rattle.email_checks.specs.Steps.{can_be_moved_into}
use Rattle.email_creation.specs.Asked.{mailbox_asked, flags_asked, date_asked}
use Rattle.email_import.specs.Asked.{AreNone, IsFirst, IsWrong, blob_asked}
use Rattle.email_import.specs.declared.ready.ReadyImport.{ReadyImport}

-- what is kept of an import of this blob into this folder
abbrev pub import_of : Members → List ℕ → Folder → ReadyImport
import_of ms blob f = record { blob = blob; name = f.name; takes = can_be_moved_into f; flags = flags_asked ms; date = date_asked ms }

-- What these properties come to before the blob is sought: invalidProperties, tooManyMailboxes, or an import.
pub data ChecksImport (g : Given) (ms : Members) : Result ReadyImport SetError → Type 0 where
  WrongProperty : (key : List ℕ) → IsFirst (IsWrong g ms) key → ChecksImport g ms (Err (why.InvalidProperties (key ∷ [])))
  SeveralMailboxes : AreNone (IsWrong g ms) → mailbox_asked g ms ≡ Err why.TooManyMailboxes → ChecksImport g ms (Err why.TooManyMailboxes)
  Asks : (blob : List ℕ) (f : Folder) → AreNone (IsWrong g ms) → blob_asked ms ≡ Some blob → mailbox_asked g ms ≡ Ok f → ChecksImport g ms (Ok (import_of ms blob f))
