-- What texts name as the code finds it.
use Rattle.std.specs.Prelude.{ℕ, ◌==◌, Bool, true, List, [], ◌∷◌, Option, None, Result, Ok, Err}
use Rattle.std.specs.Option.{option_map_or}
use Rattle.told_folder.specs.declared.message.Folder.{Folder}
use Rattle.set_jobs.specs.declared.done.SetError.{SetError}
use Rattle.set_jobs.specs.declared.done.SetError.TheVariants.{TooManyMailboxes}
use Rattle.set_given.specs.Given.{Given, folder_named}
use Rattle.email_checks.specs.Emails.{no_folder}
use Rattle.email_creation.specs.declared.mailboxes.MailboxAsked.{MailboxAsked}
use Rattle.email_creation.specs.declared.mailboxes.MailboxAsked.TheVariants.{One, Nowhere, Several}

-- what the first of them names
abbrev pub first_named : Given → List (List ℕ) → Option Folder
first_named g [] = None
first_named g (text ∷ texts) = folder_named g text

-- it names the Mailbox of this number, or none
abbrev pub names_no_other : Given → ℕ → List ℕ → Bool
names_no_other g number text = option_map_or (λ (f : Folder). f.number == number) (folder_named g text) true

abbrev pub asked_data : MailboxAsked → Result Folder SetError
asked_data (One folder) = Ok folder.now
asked_data Nowhere = Err no_folder
asked_data Several = Err TooManyMailboxes
