-- What an item of each method has to pass before a command is sent for it, and what its steps are made of (RFC 8621 sections 2.5, 4.6 and 4.8).
use Rattle.std.specs.Prelude.{◌≡◌, ℕ, ℤ, Bool, List, Option, Some, None, Result, Ok, Err}
use Rattle.serde_json.specs.Data.{Members}
use Rattle.set_jobs.specs.declared.done.SetError.{SetError}
use Rattle.set_jobs.specs.declared.done.SetError.TheVariants.{Forbidden}
use Rattle.set_jobs.specs.declared.job.Job.{Job}
use Rattle.set_order.specs.Ordered.{Item, Create, Circle, Update, Destroy}
use Rattle.set_given.specs.Given.{Given}
use Rattle.email_checks.specs.Emails.{update_email, destroy_email}
use Rattle.email_creation.specs.Appends.{DrawsCreation}
use Rattle.email_creation.specs.Creations.{ChecksCreation}
use Rattle.email_creation.specs.declared.ready.ReadyCreation.{ReadyCreation}
use Rattle.mailbox_checks.specs.Create.{create_mailbox}
use Rattle.mailbox_checks.specs.Destroy.{destroy_mailbox}
use Rattle.mailbox_checks.specs.Properties.{wrong_parent}
use Rattle.mailbox_checks.specs.Update.{update_mailbox}
use Rattle.set_methods.specs.declared.checks.Passed.{Passed}
use Rattle.set_methods.specs.declared.checks.Passed.TheVariants.{Steps, Drawing}

-- ---- checks

-- whose checks the items of a call have to pass: those of Email/set, over these uploads; those of Mailbox/set, by whether Emails may be removed with their
-- Mailbox; those of Email/import, whose blobs are sought among these uploads; or none, as the steps of its item are known, or why it is refused
pub data Rules : Type 0 where
  EmailRules : List (List ℕ) → Rules
  MailboxRules : Bool → Rules
  ImportRules : List (List ℕ) → Rules
  KnownSteps : Result Job SetError → Rules

-- an item of Email/set that isn't a creation; no Email waits for another
abbrev pub check_other : Given → Item → Result Job SetError
check_other g (Update text patch) = update_email g text patch
check_other g (Destroy text) = destroy_email g text
check_other g _ = Err Forbidden

-- a Mailbox that waits for itself has a wrong parent; whether Emails may be removed with their Mailbox is asked by the call
abbrev pub check_mailbox : Bool → Given → Item → Result Job SetError
check_mailbox removes g (Create key properties) = create_mailbox g properties
check_mailbox removes g (Circle key) = Err wrong_parent
check_mailbox removes g (Update text patch) = update_mailbox g text patch
check_mailbox removes g (Destroy text) = destroy_mailbox g removes text

-- its steps are known once it has passed
abbrev pub with_steps : Result Job SetError → Result Passed SetError
with_steps (Ok job) = Ok (Steps job)
with_steps (Err e) = Err e

-- a creation of an Email that passes is one whose steps are made of a moment and a word
abbrev pub ChecksNewEmail : Given → List (List ℕ) → Members → Result Passed SetError → Type 0
ChecksNewEmail g uploads ms (Err e) = ChecksCreation g uploads ms (Err e)
ChecksNewEmail g uploads ms (Ok (Steps job)) = ⊥
ChecksNewEmail g uploads ms (Ok (Drawing ready)) = ChecksCreation g uploads ms (Ok ready)

-- What an item comes to by its checks: it is refused; or it passes, and its steps are known, or are made of a moment and a word that are to be drawn. An import
-- comes to nothing by its checks alone: its octets are sought first.
abbrev pub Checks : Rules → Given → Item → Result Passed SetError → Type 0
Checks (EmailRules uploads) g (Create key ms) came = ChecksNewEmail g uploads ms came
Checks (EmailRules uploads) g item came = came ≡ with_steps (check_other g item)
Checks (MailboxRules removes) g item came = came ≡ with_steps (check_mailbox removes g item)
Checks (ImportRules uploads) g item came = ⊥
Checks (KnownSteps made) g item came = came ≡ with_steps made

-- the item passes its checks, and its steps are made of this
abbrev pub IsReady : Rules → Given → Item → ReadyCreation → Type 0
IsReady rules g item ready = Checks rules g item (Ok (Drawing ready))

-- the item passes its checks, and a moment and a word have to be drawn for its steps
abbrev pub NeedsDraw : Rules → Given → Item → Type 0
NeedsDraw rules g item = (ready : ReadyCreation) × IsReady rules g item ready

-- ---- what is drawn

-- a moment, in seconds since 1970-01-01T00:00:00Z, and a random word
pub record Drawn : Type 0 where
  pub now : ℤ
  pub word : ℕ

-- what is made of a creation that is ready: its steps, or a refusal
abbrev pub Makes : ReadyCreation → Drawn → Result Job SetError → Type 0
Makes ready drawn came = DrawsCreation ready drawn.now drawn.word came

-- What an item comes to before a command is sent for it, by what was drawn for it: its steps, or a refusal. Something is drawn only for one that passed its
-- checks.
abbrev pub Prepares : Rules → Given → Item → Option Drawn → Result Job SetError → Type 0
Prepares rules g item None (Err e) = Checks rules g item (Err e)
Prepares rules g item None (Ok job) = Checks rules g item (Ok (Steps job))
Prepares rules g item (Some drawn) came = (ready : ReadyCreation) × IsReady rules g item ready × Makes ready drawn came
