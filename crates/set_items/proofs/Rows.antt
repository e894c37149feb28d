-- Worked rows, by computation.
use Rattle.std.proofs.Common.{◌≡◌, ◌||◌, ℕ, pos, true, false, List, [], ◌∷◌, Some, None, Err, refl, codes}
use Rattle.imap_types.specs.declared.code.Code.{Code}
use Rattle.imap_types.specs.declared.code.Code.TheVariants as code
use Rattle.imap_types.specs.declared.command.Command.{Command}
use Rattle.imap_types.specs.declared.command.Command.TheVariants as command
use Rattle.imap_types.specs.declared.response.Response.{Response}
use Rattle.imap_types.specs.declared.response.Response.TheVariants as response
use Rattle.imap_types.specs.declared.response.Status.{Status}
use Rattle.imap_types.specs.declared.response.Status.TheVariants as status
use Rattle.imap_types.specs.declared.uid_set.UidRange.{UidRange}
use Rattle.told_folder.specs.declared.exchange.Exchange.{Exchange}
use Rattle.told_folder.specs.declared.message.NumberedFolder.{NumberedFolder}
use Rattle.told_folder.specs.declared.message.Message.{Message}
use Rattle.told_mail.specs.Mail.{Mail, message_in}
use Rattle.imap_exchange.specs.declared.link_end.LinkEnd.TheVariants as end
use Rattle.imap_client.specs.declared.plan.Due.TheVariants as due
use Rattle.imap_client.specs.declared.plan.Refusal.TheVariants as refusal
use Rattle.jmap_arguments.specs.declared.method_error.MethodError.TheVariants.{ServerUnavailable, ServerPartialFail}
use Rattle.told_changes.specs.Told.{told}
use Rattle.set_jobs.specs.declared.done.Done.{Done}
use Rattle.set_jobs.specs.declared.done.Done.TheVariants.{Made, MadeMailbox, Changed, Gone, Not}
use Rattle.set_jobs.specs.declared.done.SetError.TheVariants as why
use Rattle.set_jobs.specs.declared.step.Step.TheVariants as step
use Rattle.set_jobs.specs.declared.job.Job.{Job}
use Rattle.set_items.specs.Items.{ItemState, Settled, Partly, Failing, item_at, item_plan, item_start, shows}
use Rattle.set_items.specs.Ends.{Ends, item_end, any_change, is_cut_off}

-- ---- mail

abbrev a_message : ℕ → ℕ → List (List ℕ) → Message
a_message uid mark flags = record { uid = uid; mark = mark; flags = flags; date = pos 0; size = 40; header = [] }

abbrev a_folder : ℕ → List ℕ → ℕ → ℕ → List Message → NumberedFolder
a_folder n name validity next messages = record {
  folder = record { number = n; name = name; delimiter = Some 47; attributes = codes "\\subscribed" ∷ []; validity = validity; modseq = 3; next = next };
  messages = messages;
}

-- INBOX with e1 at UID 1 and e2 at UID 2, and Archive
abbrev mail : Mail
mail = record {
  folders = a_folder 1 (codes "INBOX") 7 3 (a_message 1 1 [] ∷ a_message 2 2 [] ∷ []) ∷ a_folder 2 (codes "Archive") 9 1 [] ∷ [];
  next_mark = 3;
  next_folder = 3;
}

-- INBOX and Drafts, both empty
abbrev drafts : Mail
drafts = record { folders = a_folder 1 (codes "INBOX") 7 1 [] ∷ a_folder 2 (codes "Drafts") 9 1 [] ∷ []; next_mark = 1; next_folder = 3 }

abbrev flags_told : ℕ → List (List ℕ) → Response
flags_told uid flags =
    response.Fetch uid (record { uid = Some uid; flags = Some flags; modseq = Some 5; date = None; size = None; header = None; body = None })

abbrev answer : Command → List Response → Status → Code → Exchange
answer c rs s k = record { command = c; selected = Some (codes "INBOX"); responses = rs; status = s; code = k }

-- ---- updates of keywords

abbrev seen_store : ℕ → Command
seen_store uid = command.Store uid true (codes "\\seen" ∷ [])

abbrev seen_done : ℕ → Done
seen_done number = Changed number (Some (codes "$seen" ∷ []))

abbrev seen_job : ℕ → ℕ → Job
seen_job uid number = record { steps = step.Change (seen_store uid) ∷ []; done = seen_done number }

abbrev begun : Job → ItemState
begun job = item_start job mail

-- the STORE is due first
stores_first : item_plan (begun (seen_job 1 1)) [] ≡ due.Send (seen_store 1)
stores_first = refl

abbrev stored : Exchange
stored = answer (seen_store 1) (flags_told 1 (codes "\\seen" ∷ []) ∷ []) status.Ok code.Other

-- OK, and the flags are told: the update is done, and the keywords are as asked
row_stored : (item_at (begun (seen_job 1 1)) (stored ∷ [])).stage ≡ Settled (seen_done 1)
row_stored = refl

row_stored_flags : message_in (told mail stored).folders 1 1 ≡ Some (a_message 1 1 (codes "\\seen" ∷ []))
row_stored_flags = refl

-- NO: forbidden
row_refused : (item_at (begun (seen_job 1 1)) (answer (seen_store 1) [] status.No code.Absent ∷ [])).stage ≡ Settled (Not why.Forbidden)
row_refused = refl

-- the link ends after octets of the STORE were taken
row_torn : item_end (begun (seen_job 1 1)).stage (Err end.Lost) (false || (false || is_cut_off (item_plan (begun (seen_job 1 1)) []) true))
    ≡ Ends ServerPartialFail
row_torn = refl

-- the write fails with none taken
row_none_taken : item_end (begun (seen_job 1 1)).stage (Err end.Lost) (false || (false || is_cut_off (item_plan (begun (seen_job 1 1)) []) false))
    ≡ Ends ServerUnavailable
row_none_taken = refl

-- OK, and other flags are told: the keywords came out otherwise
row_otherwise : (item_at (begun (seen_job 1 1)) (answer (seen_store 1) (flags_told 1 [] ∷ []) status.Ok code.Other ∷ [])).stage
    ≡ Settled (seen_done 1)
row_otherwise = refl

row_otherwise_flags : message_in (told mail (answer (seen_store 1) (flags_told 1 [] ∷ []) status.Ok code.Other)).folders 1 1 ≡ Some (a_message 1 1 [])
row_otherwise_flags = refl

-- OK without a FETCH: the STORE makes its change
row_silent_flags : message_in (told mail (answer (seen_store 1) [] status.Ok code.Absent)).folders 1 1 ≡ Some (a_message 1 1 (codes "\\seen" ∷ []))
row_silent_flags = refl

-- after the update of e1 the write of e2's STORE fails with none taken
row_second : item_end (begun (seen_job 2 2)).stage (Err end.Lost)
    (any_change (stored ∷ []) || (false || is_cut_off (item_plan (begun (seen_job 2 2)) []) false)) ≡ Ends ServerPartialFail
row_second = refl

-- ---- a destroy

abbrev destroy_job : Job
destroy_job = record { steps = step.Delete 1 ∷ step.Expunge 1 ∷ []; done = Gone 1 }

abbrev marked : Exchange
marked = answer (command.Store 1 true (codes "\\deleted" ∷ [])) [] status.Ok code.Absent

abbrev not_expunged : Exchange
not_expunged = answer (command.Expunge 1) [] status.No code.Absent

-- the STORE is OK, and the EXPUNGE gets NO
row_destroyed : (item_at (begun destroy_job) (marked ∷ not_expunged ∷ [])).stage ≡ Settled (Gone 1)
row_destroyed = refl

row_destroyed_hidden : shows (item_at (begun destroy_job) (marked ∷ not_expunged ∷ [])).mail 1 ≡ false
row_destroyed_hidden = refl

-- the STORE is answered by flags without \Deleted
row_not_deleted : (item_at (begun destroy_job) (answer (command.Store 1 true (codes "\\deleted" ∷ [])) (flags_told 1 [] ∷ []) status.Ok code.Absent ∷ [])).stage
    ≡ Settled (Not why.Forbidden)
row_not_deleted = refl

-- ---- an APPEND

abbrev drafted : List ℕ
drafted = codes "Subject: a\r\n\r\nb"

abbrev append_command : Command
append_command = command.Append (codes "Drafts") (codes "\\draft" ∷ []) (pos 1704186000) drafted

abbrev append_begun : Mail → ItemState
append_begun m = item_start (record { steps = step.Change append_command ∷ []; done = Not why.Forbidden }) m

abbrev appended : Code → Exchange
appended k = record { command = append_command; selected = Some (codes "INBOX"); responses = response.Continue ∷ []; status = status.Ok; code = k }

row_appended : (item_at (append_begun drafts) (appended (code.AppendUid 9 1) ∷ [])).stage ≡ Settled (Made 1 15)
row_appended = refl

row_appended_message : message_in (told drafts (appended (code.AppendUid 9 1))).folders 2 1
    ≡ Some (record { uid = 1; mark = 1; flags = codes "\\draft" ∷ []; date = pos 1704186000; size = 15; header = codes "Subject: a\r\n\r\n" })
row_appended_message = refl

-- another validity, or no code
row_other_validity : (item_at (append_begun drafts) (appended (code.AppendUid 8 1) ∷ [])).stage ≡ Partly
row_other_validity = refl

row_no_code : (item_at (append_begun drafts) (appended code.Absent ∷ [])).stage ≡ Partly
row_no_code = refl

row_over_quota : (item_at (append_begun drafts) (record { command = append_command; selected = None; responses = []; status = status.No; code = code.OverQuota } ∷ [])).stage
    ≡ Settled (Not why.OverQuota)
row_over_quota = refl

-- the link ends after the literal, or a tagged OK comes before the continuation: octets of the APPEND were taken
row_append_torn : item_end (append_begun drafts).stage (Err end.Stray) (false || (false || is_cut_off (item_plan (append_begun drafts) []) true)) ≡ Ends ServerPartialFail
row_append_torn = refl

-- Drafts holds UID 1
abbrev drafts_held : Mail
drafts_held = record { folders = a_folder 1 (codes "INBOX") 7 1 [] ∷ a_folder 2 (codes "Drafts") 9 1 (a_message 1 1 [] ∷ []) ∷ []; next_mark = 2; next_folder = 3 }

row_contradicted : (item_at (append_begun drafts_held) (appended (code.AppendUid 9 1) ∷ [])).stage ≡ Partly
row_contradicted = refl

row_contradicted_mail : told drafts_held (appended (code.AppendUid 9 1)) ≡ drafts_held
row_contradicted_mail = refl

-- ---- a MOVE

abbrev one : ℕ → UidRange
one n = record { first = n; last = n }

abbrev move_job : Job
move_job = record { steps = step.Change (command.Move 1 (codes "Archive")) ∷ []; done = Changed 1 None }

abbrev moved : Exchange
moved = record {
  command = command.Move 1 (codes "Archive");
  selected = Some (codes "INBOX");
  responses = response.Untagged status.Ok (code.CopyUid 9 (record { ranges = one 1 ∷ [] }) (record { ranges = one 6 ∷ [] }))
      ∷ response.Vanished false (record { ranges = one 1 ∷ [] }) ∷ [];
  status = status.Ok;
  code = code.Absent;
}

row_moved : (item_at (begun move_job) (moved ∷ [])).stage ≡ Settled (Changed 1 None)
row_moved = refl

-- the mark is in Archive at UID 6 now, and INBOX has UID 2 alone
row_moved_mail : told mail moved ≡ record {
  folders = a_folder 1 (codes "INBOX") 7 3 (a_message 2 2 [] ∷ []) ∷ a_folder 2 (codes "Archive") 9 1 (a_message 6 1 [] ∷ []) ∷ [];
  next_mark = 3;
  next_folder = 3;
}
row_moved_mail = refl

-- ---- a Mailbox

abbrev create_begun : ItemState
create_begun = item_start (record {
  steps = step.Change (command.Create (codes "Work")) ∷ step.List (codes "Work") false ∷ step.SelectMade (codes "Work") ∷ [];
  done = MadeMailbox 0;
}) drafts

abbrev created : Exchange
created = record { command = command.Create (codes "Work"); selected = None; responses = []; status = status.Ok; code = code.Absent }

abbrev line : List ℕ → Response
line name = response.List (codes "\\subscribed" ∷ []) (Some 47) name

abbrev listed : Exchange
listed = record {
  command = command.List false;
  selected = None;
  responses = line (codes "INBOX") ∷ line (codes "Drafts") ∷ line (codes "Work") ∷ [];
  status = status.Ok;
  code = code.Absent;
}

abbrev selected_work : Exchange
selected_work = record {
  command = command.Select (codes "Work") None;
  selected = None;
  responses = response.Untagged status.Ok (code.UidValidity 11) ∷ [];
  status = status.Ok;
  code = code.Absent;
}

row_creates : item_plan create_begun [] ≡ due.Send (command.Create (codes "Work"))
row_creates = refl

row_lists : item_plan create_begun (created ∷ []) ≡ due.Send (command.List false)
row_lists = refl

row_selects : item_plan create_begun (created ∷ listed ∷ []) ≡ due.Send (command.Select (codes "Work") None)
row_selects = refl

row_made : (item_at create_begun (created ∷ listed ∷ selected_work ∷ [])).stage ≡ Settled (MadeMailbox 3)
row_made = refl

-- the LIST doesn't have the name
row_not_listed : (item_at create_begun (created ∷ record listed { responses = line (codes "INBOX") ∷ line (codes "Drafts") ∷ [] } ∷ [])).stage ≡ Partly
row_not_listed = refl

-- ---- a SELECT before the commands of an item

abbrev select_begun : ItemState
select_begun = begun (record { steps = step.Select 1 1 ∷ step.Change (seen_store 1) ∷ []; done = seen_done 1 })

abbrev selected_inbox : List Response → Exchange
selected_inbox rs = record { command = command.Select (codes "INBOX") (Some (7, 3)); selected = None; responses = rs; status = status.Ok; code = code.Absent }

row_select_due : item_plan select_begun [] ≡ due.Send (command.Select (codes "INBOX") (Some (7, 3)))
row_select_due = refl

row_selected : item_plan select_begun (selected_inbox (response.Untagged status.Ok (code.UidValidity 7) ∷ []) ∷ []) ≡ due.Send (seen_store 1)
row_selected = refl

-- under another validity the folder is another one
row_other_folder : (item_at select_begun (selected_inbox (response.Untagged status.Ok (code.UidValidity 8) ∷ []) ∷ [])).stage ≡ Settled (Not why.NotFound)
row_other_folder = refl

row_no_validity : (item_at select_begun (selected_inbox [] ∷ [])).stage ≡ Failing refusal.Lacks
row_no_validity = refl
