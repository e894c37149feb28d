-- The destroys of Mailbox/set: their checks in order, and their steps (RFC 8621 section 2.5, RFC 9051 section 6.3.5).
use Rattle.std.specs.Prelude.{ℕ, ◌==◌, ◌&&◌, Bool, not, List, if◌then◌else◌, Option, Some, None, Result, Ok, Err}
use Rattle.std.specs.List.{list_any}
use Rattle.told_folder.specs.declared.message.Folder.{Folder}
use Rattle.told_folder.specs.declared.message.NumberedFolder.{NumberedFolder}
use Rattle.mail_maps.specs.Rights.{rights_of}
use Rattle.mail_maps.specs.Visible.{Placed, visible}
use Rattle.mailbox_names.specs.Siblings.{has_child}
use Rattle.set_jobs.specs.declared.done.Done.TheVariants.{Gone}
use Rattle.set_jobs.specs.declared.done.SetError.{SetError}
use Rattle.set_jobs.specs.declared.done.SetError.TheVariants as why
use Rattle.set_jobs.specs.declared.job.Job.{Job}
use Rattle.set_given.specs.Given.{Given, folders_now, folder_to_destroy}
use Rattle.mailbox_checks.specs.Steps.{deletes}

-- an Email is in the folder of the number
abbrev pub has_email : List NumberedFolder → ℕ → Bool
has_email hs n = list_any (λ (p : Placed). p.folder == n) (visible hs)

abbrev pub destroy_found : Given → Bool → Folder → Result Job SetError
destroy_found g removes f =
    if not (rights_of f).may_delete then Err why.Forbidden
    else if has_child (folders_now g) f then Err why.MailboxHasChild
    else if not removes && has_email g.mail.folders f.number then Err why.MailboxHasEmail
    else Ok (record { steps = deletes g.selected f.name; done = Gone f.number })

abbrev pub destroy_of : Given → Bool → Option Folder → Result Job SetError
destroy_of g removes None = Err why.NotFound
destroy_of g removes (Some f) = destroy_found g removes f

-- a destroy of the Mailbox that this text names, also with its Emails where that is asked: notFound, forbidden, mailboxHasChild, mailboxHasEmail
abbrev pub destroy_mailbox : Given → Bool → List ℕ → Result Job SetError
destroy_mailbox g removes text = destroy_of g removes (folder_to_destroy g text)
