-- What the small store answers: NO exactly where there is a cause, else OK with what the command asks for.
use Rattle.std.specs.Prelude.{ℕ, ◌==◌, Bool, true, false, List, [], ◌∷◌, Option, Some, None, map, codes, if◌then◌else◌}
use Rattle.imap_types.specs.declared.code.Code.{Code}
use Rattle.imap_types.specs.declared.code.Code.TheVariants as code
use Rattle.imap_types.specs.declared.command.Command.{Command}
use Rattle.imap_types.specs.declared.command.Command.TheVariants as command
use Rattle.imap_types.specs.declared.response.Response.{Response}
use Rattle.imap_types.specs.declared.response.Response.TheVariants as response
use Rattle.imap_types.specs.declared.response.Status.TheVariants as status
use Rattle.imap_types.specs.Folders.{folder_name}
use Rattle.honest_store.specs.StoreMail.{StoreMessage, StoreFolder, StoreMail, folder_called, message_numbered}
use Rattle.honest_store.specs.MessageChanges.{flagged_messages}
use Rattle.honest_store.specs.Sessions.{StoreSession, StoreAnswer}
use Rattle.honest_store.specs.MessageCommands.{flags_after, is_deleted, sent_message}
use Rattle.honest_store.specs.Honest.{after_no}
use Rattle.small_answers.specs.Changes.{next_modseq, mail_with, mail_without, mail_flagged, folder_to_create, mail_created, mail_deleted, mail_renamed}
use Rattle.small_answers.specs.Changes.{mail_subscribed, selected_folder}
use Rattle.small_answers.specs.Causes.{are_same_names, RefusalCause}
use Rattle.small_answers.specs.ToldResponses.{set_of, ok_response, list_response, flags_response, change_response, header_response, body_response, with_uids}
use Rattle.small_answers.specs.ToldResponses.{closed_responses, is_between, is_from_on, select_responses}

-- what OK tells, its code, and the session after it
pub record Reply : Type 0 where
  pub responses : List Response
  pub code : Code
  pub session : StoreSession

-- this is told, and the session is that
abbrev pub reply_with : StoreSession → List Response → Reply
reply_with s rs = record { responses = rs; code = code.Absent; session = s }

abbrev pub over_mail : StoreSession → StoreMail → StoreSession
over_mail s mail = record s { mail = mail }

abbrev pub unselected : StoreSession → StoreSession
unselected s = record s { selected = None }

-- ---- SELECT

abbrev pub select_reply : StoreSession → Option (ℕ × ℕ) → Option StoreFolder → Reply
select_reply s known None = reply_with s []
select_reply s known (Some f) = record {
  responses = select_responses s.selected f known;
  code = code.Other;
  session = record s { selected = Some f.number };
}

-- ---- in the folder that is selected

-- what is told and done there; nothing where the folder is there no more
abbrev pub reply_in : StoreSession → Option StoreFolder → (StoreFolder → Reply) → Reply
reply_in s None reply = reply_with s []
reply_in s (Some f) reply = reply f

-- ---- UID FETCH

-- one response for each message whose UID passes
abbrev pub fetch_reply : StoreSession → List StoreMessage → (ℕ → Bool) → (List StoreMessage → StoreMessage → Response) → Reply
fetch_reply s ms test tell = reply_with s (map (tell ms) (with_uids test ms))

-- ---- UID STORE

-- the message of this UID, by its flags and its mod-sequence
abbrev pub told_change : List StoreMessage → ℕ → List Response
told_change ms u = map (change_response ms) (with_uids (λ v. v == u) ms)

-- the message takes these flags
abbrev pub flags_reply : StoreSession → StoreFolder → ℕ → List (List ℕ) → Reply
flags_reply s f u flags =
    reply_with (over_mail s (mail_flagged s.mail (Some f) u flags)) (told_change (flagged_messages f.messages u flags (next_modseq f)) u)

-- the flags are told in any case; where they change nothing no mod-sequence is taken
abbrev pub store_reply : StoreSession → StoreFolder → Bool → List (List ℕ) → Option StoreMessage → Reply
store_reply s f add asked None = reply_with s []
store_reply s f add asked (Some m) =
    if are_same_names (flags_after add asked m.flags) m.flags then reply_with s (told_change f.messages m.uid)
    else flags_reply s f m.uid (flags_after add asked m.flags)

-- ---- UID MOVE

-- the copy's UID, and that the message is here no more
abbrev pub move_responses : StoreMessage → StoreFolder → List Response
move_responses m target =
    ok_response (code.CopyUid target.validity (set_of m.uid) (set_of target.uid_next)) ∷ response.Vanished false (set_of m.uid) ∷ []

abbrev pub move_reply_to : StoreSession → StoreMail → StoreMessage → Option StoreFolder → Reply
move_reply_to s mail m None = reply_with s []
move_reply_to s mail m (Some target) = reply_with (over_mail s (mail_with mail (Some target) m)) (move_responses m target)

-- the message ends in its folder, and then comes to the other
abbrev pub move_reply : StoreSession → StoreFolder → List ℕ → Option StoreMessage → Reply
move_reply s f name None = reply_with s []
move_reply s f name (Some m) = let mail = mail_without s.mail (Some f) m.uid in move_reply_to s mail m (folder_called mail.folders name)

-- ---- UID EXPUNGE

-- the message ends, and OK tells the folder's new highest mod-sequence (RFC 7162 section 3.2.9)
abbrev pub expunged_reply : StoreSession → StoreFolder → ℕ → Reply
expunged_reply s f u = record {
  responses = response.Vanished false (set_of u) ∷ [];
  code = code.HighestModSeq (next_modseq f);
  session = over_mail s (mail_without s.mail (Some f) u);
}

abbrev pub expunge_reply : StoreSession → StoreFolder → Option StoreMessage → Reply
expunge_reply s f None = reply_with s []
expunge_reply s f (Some m) = if is_deleted m then expunged_reply s f m.uid else reply_with s []

-- ---- APPEND

abbrev pub append_reply : StoreSession → StoreMessage → Option StoreFolder → Reply
append_reply s m None = reply_with s []
append_reply s m (Some target) = record {
  responses = [];
  code = code.AppendUid target.validity target.uid_next;
  session = over_mail s (mail_with s.mail (Some target) m);
}

-- ---- OK

abbrev pub changed_reply : StoreSession → StoreMail → Reply
changed_reply s mail = reply_with (over_mail s mail) []

abbrev pub ok_reply : StoreSession → Command → Reply
ok_reply s command.Capability = reply_with s (response.Capability (codes "IMAP4rev2" ∷ codes "QRESYNC" ∷ []) ∷ [])
ok_reply s (command.Login user password) = reply_with (unselected s) []
ok_reply s command.Enable = reply_with s (response.Enabled (codes "QRESYNC" ∷ codes "IMAP4rev2" ∷ []) ∷ [])
ok_reply s (command.List special_use) = reply_with s (map list_response s.mail.folders)
ok_reply s (command.Select name known) = select_reply s known (folder_called s.mail.folders name)
ok_reply s command.Unselect = reply_with (unselected s) []
ok_reply s command.FetchFlags = reply_in s (selected_folder s) (λ f. fetch_reply s f.messages (λ u. true) flags_response)
ok_reply s (command.FetchSlice from to modseq) =
    reply_in s (selected_folder s) (λ f. fetch_reply s f.messages (is_between from to) (header_response modseq))
ok_reply s (command.FetchNew from modseq) = reply_in s (selected_folder s) (λ f. fetch_reply s f.messages (is_from_on from f.messages) (header_response modseq))
ok_reply s (command.FetchBody uid) = reply_in s (selected_folder s) (λ f. fetch_reply s f.messages (λ u. u == uid) body_response)
ok_reply s (command.Store uid add flags) = reply_in s (selected_folder s) (λ f. store_reply s f add flags (message_numbered f.messages uid))
ok_reply s (command.Move uid name) = reply_in s (selected_folder s) (λ f. move_reply s f name (message_numbered f.messages uid))
ok_reply s (command.Expunge uid) = reply_in s (selected_folder s) (λ f. expunge_reply s f (message_numbered f.messages uid))
ok_reply s (command.Append name flags date message) = append_reply s (sent_message flags date message 0 0) (folder_called s.mail.folders name)
ok_reply s (command.Create name) = changed_reply s (mail_created s.mail (folder_to_create s.mail (folder_name name)))
ok_reply s (command.Delete name) = changed_reply s (mail_deleted s.mail (folder_name name))
ok_reply s (command.Rename from to) = changed_reply s (mail_renamed s.mail (folder_name from) (folder_name to))
ok_reply s (command.Subscribe name on) = changed_reply s (mail_subscribed s.mail (folder_name name) on)

-- ---- the answer

-- a SELECT that is refused closes the folder that was selected, and says so (RFC 9051 section 6.3.2)
abbrev pub refusal_responses : Command → Option ℕ → List Response
refusal_responses (command.Select name known) selected = closed_responses selected
refusal_responses _ selected = []

abbrev pub no_answer : Command → Option ℕ → StoreAnswer
no_answer c selected = record { responses = refusal_responses c selected; status = status.No; code = code.Absent }

abbrev pub ok_answer : Reply → StoreAnswer
ok_answer r = record { responses = r.responses; status = status.Ok; code = r.code }

pub data AnswersCommand (s : StoreSession) (c : Command) : StoreAnswer → StoreSession → Type 0 where
  Refused : RefusalCause s c → AnswersCommand s c (no_answer c s.selected) (after_no c s)
  Accepted : (RefusalCause s c → ⊥) → AnswersCommand s c (ok_answer (ok_reply s c)) (ok_reply s c).session
