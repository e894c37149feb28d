-- An item of a changing call: commands one after another, and what the answers make of it (RFC 8620 section 5.3).
use Rattle.std.specs.Prelude.{◌≡◌, ℕ, Bool, true, false, not, ◌&&◌, ◌||◌, List, [], ◌∷◌, codes, fold, length, if◌then◌else◌, is_some, Option, Some, None}
use Rattle.std.specs.List.{list_any}
use Rattle.imap_types.specs.declared.code.Code.{Code}
use Rattle.imap_types.specs.declared.code.Code.TheVariants as code
use Rattle.imap_types.specs.declared.command.Command.{Command}
use Rattle.imap_types.specs.declared.command.Command.TheVariants as command
use Rattle.imap_types.specs.declared.response.Response.{Response}
use Rattle.imap_types.specs.declared.response.Response.TheVariants as response
use Rattle.told_folder.specs.declared.exchange.Exchange.{Exchange}
use Rattle.told_folder.specs.declared.message.Folder.{Folder}
use Rattle.told_folder.specs.declared.message.NumberedFolder.{NumberedFolder}
use Rattle.told_folder.specs.declared.message.Message.{Message}
use Rattle.told_mail.specs.Mail.{Mail, named, folder_in, message_in, folder_number}
use Rattle.told_mail.specs.Exchanges.{is_uid}
use Rattle.mail_maps.specs.Keywords.{has_name}
use Rattle.mail_maps.specs.Visible.{shown}
use Rattle.imap_client.specs.Bodies.{select_due}
use Rattle.imap_client.specs.Connecting.{is_ok}
use Rattle.imap_client.specs.Plans.{Planned}
use Rattle.imap_client.specs.Selecting.{tells_validity}
use Rattle.imap_client.specs.declared.plan.Due.{Due}
use Rattle.imap_client.specs.declared.plan.Due.TheVariants as due
use Rattle.imap_client.specs.declared.plan.Refusal.TheVariants as refusal
use Rattle.told_changes.specs.declared.landing.Landing.{Landing}
use Rattle.told_changes.specs.Landings.{told_landing}
use Rattle.told_changes.specs.Changes.{named_by}
use Rattle.told_changes.specs.Told.{told, is_changing}
use Rattle.set_jobs.specs.declared.done.Done.{Done}
use Rattle.set_jobs.specs.declared.done.Done.TheVariants.{Made, MadeMailbox, Not}
use Rattle.set_jobs.specs.declared.done.SetError.{SetError}
use Rattle.set_jobs.specs.declared.done.SetError.TheVariants as why
use Rattle.set_jobs.specs.declared.job.Job.{Job}
use Rattle.set_jobs.specs.declared.step.Step.{Step}
use Rattle.set_jobs.specs.declared.step.Step.TheVariants as step
pub use Rattle.set_items.specs.declared.stage.ItemStage.{ItemStage}
pub use Rattle.set_items.specs.declared.stage.ItemStage.TheVariants.{Doing, Settled, Partly, Failing}

-- ---- how far an item is

-- `Doing s ss changed done`: the step s is due, and ss after it; whether a changing command of the item was answered OK; what it comes to at the end
abbrev pub going : List Step → Bool → Done → ItemStage
going [] changed done = Settled done
going (s ∷ ss) changed done = Doing s ss changed done

-- the item so far, and the mail that is told
pub record ItemState : Type 0 where
  pub stage : ItemStage
  pub mail : Mail

-- ---- what is asked

abbrev pub folder_of : Option NumberedFolder → Option Folder
folder_of None = None
folder_of (Some h) = Some h.folder

abbrev pub deleted_flag : List ℕ
deleted_flag = codes "\\deleted"

abbrev pub step_due : Mail → Step → Due
step_due m (step.Select folder mark) = select_due (folder_in m.folders folder)
step_due m step.Unselect = due.Send command.Unselect
step_due m (step.Change c) = due.Send c
step_due m (step.Delete uid) = due.Send (command.Store uid true (deleted_flag ∷ []))
step_due m (step.Expunge uid) = due.Send (command.Expunge uid)
step_due m (step.List name special_use) = due.Send (command.List special_use)
step_due m (step.SelectMade name) = select_due (folder_of (named m.folders name))

abbrev pub item_due : ItemStage → Mail → Due
item_due (Doing s ss changed done) m = step_due m s
item_due (Settled done) m = due.Done
item_due Partly m = due.Done
item_due (Failing why) m = due.Fails why

-- ---- what is changed

-- a changing command that was answered OK
abbrev pub is_change : Exchange → Bool
is_change x = is_ok x.status && is_changing x.command

-- ---- what a NO or BAD makes of it

abbrev pub refused_with : Code → SetError
refused_with code.OverQuota = why.OverQuota
refused_with _ = why.Forbidden

-- the item's first changing command was refused; or a later one, after one was OK
abbrev pub change_refused : Bool → Code → ItemStage
change_refused true c = Partly
change_refused false c = Settled (Not (refused_with c))

abbrev pub refused_if : Bool → Bool → Code → ItemStage
refused_if true changed c = change_refused changed c
refused_if false changed c = Failing refusal.Refused

abbrev pub refused : Step → List Step → Bool → Done → Exchange → ItemStage
refused (step.Change c) ss changed done x = refused_if (is_changing c) changed x.code
refused (step.Delete uid) ss changed done x = change_refused changed x.code
refused (step.Expunge uid) ss changed done x = going ss changed done
refused _ ss changed done x = Failing refusal.Refused

-- ---- what an OK makes of it; whether a changing command was OK by then, this one counted

abbrev pub shows : Mail → ℕ → Bool
shows m mark = is_some (shown m.folders mark)

-- The SELECT has to tell a UIDVALIDITY. Where it tells another than the one that is kept the folder's messages are gone, so the item's isn't shown.
abbrev pub selected_stage : List Step → Bool → Done → Bool → Bool → ItemStage
selected_stage ss changed done told_it shows_it =
    if told_it then (if shows_it then going ss changed done else Settled (Not why.NotFound)) else Failing refusal.Lacks

abbrev pub moved_stage : List Step → Bool → Done → Option Landing → ItemStage
moved_stage ss changed done None = Partly
moved_stage ss changed done (Some l) = going ss changed done

-- the message was put there under the mark that was the next one
abbrev pub made_stage : List Step → Bool → ℕ → ℕ → Option Landing → ItemStage
made_stage ss changed mark size None = Partly
made_stage ss changed mark size (Some l) = going ss changed (Made mark size)

-- the mail before the exchange
abbrev pub changed_stage : Command → List Step → Bool → Done → Mail → Exchange → ItemStage
changed_stage (command.Move uid name) ss changed done before x = moved_stage ss changed done (told_landing before x)
changed_stage (command.Append name flags date message) ss changed done before x =
    made_stage ss changed before.next_mark (length message) (told_landing before x)
changed_stage _ ss changed done before x = going ss changed done

abbrev pub lacks_deleted : Option (List (List ℕ)) → Bool
lacks_deleted None = false
lacks_deleted (Some flags) = not (has_name deleted_flag flags)

abbrev pub tells_undeleted : ℕ → Response → Bool
tells_undeleted uid (response.Fetch seq items) = is_uid uid items.uid && lacks_deleted items.flags
tells_undeleted uid _ = false

abbrev pub in_selected : Mail → Option NumberedFolder → ℕ → Option Message
in_selected m None uid = None
in_selected m (Some h) uid = message_in m.folders (folder_number h) uid

-- a message that is held has the flag; of one that is gone no flags without it were told
abbrev pub is_deleted : Option Message → ℕ → List Response → Bool
is_deleted (Some x) uid rs = has_name deleted_flag x.flags
is_deleted None uid rs = not (list_any (tells_undeleted uid) rs)

abbrev pub deleted_stage : List Step → Bool → Done → Bool → ItemStage
deleted_stage ss changed done is = if is then going ss changed done else Settled (Not why.Forbidden)

-- a folder that was made has to be listed
abbrev pub listed_stage : List Step → Bool → Done → Option NumberedFolder → ItemStage
listed_stage ss true done None = Partly
listed_stage ss false done None = Failing refusal.Lacks
listed_stage ss changed done (Some h) = going ss changed done

abbrev pub made_folder : List Step → Bool → Bool → Option NumberedFolder → ItemStage
made_folder ss changed told_it None = Failing refusal.Lacks
made_folder ss changed told_it (Some h) = if told_it then going ss changed (MadeMailbox (folder_number h)) else Failing refusal.Lacks

-- the mail before the exchange, and after it
abbrev pub obeyed : Step → List Step → Bool → Done → Mail → Exchange → Mail → ItemStage
obeyed (step.Select folder mark) ss changed done before x after = selected_stage ss changed done (tells_validity x.responses) (shows after mark)
obeyed step.Unselect ss changed done before x after = going ss changed done
obeyed (step.Change c) ss changed done before x after = changed_stage c ss changed done before x
obeyed (step.Delete uid) ss changed done before x after =
    deleted_stage ss changed done (is_deleted (in_selected after (named_by after x.selected) uid) uid x.responses)
obeyed (step.Expunge uid) ss changed done before x after = going ss changed done
obeyed (step.List name special_use) ss changed done before x after = listed_stage ss changed done (named after.folders name)
obeyed (step.SelectMade name) ss changed done before x after = made_folder ss changed (tells_validity x.responses) (named after.folders name)

-- ---- an exchange more

abbrev pub doing_after : Bool → Step → List Step → Bool → Done → Mail → Exchange → Mail → ItemStage
doing_after true s ss changed done before x after = obeyed s ss (changed || is_changing x.command) done before x after
doing_after false s ss changed done before x after = refused s ss changed done x

abbrev pub stage_after : ItemStage → Mail → Exchange → Mail → ItemStage
stage_after (Doing s ss changed done) before x after = doing_after (is_ok x.status) s ss changed done before x after
stage_after (Settled done) before x after = Settled done
stage_after Partly before x after = Partly
stage_after (Failing w) before x after = Failing w

abbrev pub item_step : ItemState → Exchange → ItemState
item_step s x = record { stage = stage_after s.stage s.mail x (told s.mail x); mail = told s.mail x }

abbrev pub item_at : ItemState → List Exchange → ItemState
item_at s xs = fold item_step s xs

-- what the item asks next from here, once these exchanges are completed
abbrev pub item_plan : ItemState → Planned
item_plan s xs = item_due (item_at s xs).stage (item_at s xs).mail

-- ---- where it begins

abbrev pub item_start : Job → Mail → ItemState
item_start job m = record { stage = going job.steps false job.done; mail = m }

-- each of these exchanges was due after those before it
abbrev pub Answers : ItemState → List Exchange → Type 0
Answers s [] = Unit {0}
Answers s (x ∷ xs) = (item_due s.stage s.mail ≡ due.Send x.command) × Answers (item_step s x) xs
