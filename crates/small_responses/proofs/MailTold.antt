-- The mail stays so that it can be told, whatever is answered.
use Rattle.std.proofs.Common.{◌≡◌, ◌⊎◌, inl, inr, ℕ, ◌<◌, ◌≤◌, Bool, true, false, ◌==◌, List, [], Option, Some, None, length, refl, sym, subst}
use Rattle.std.proofs.Common.{if◌then◌else◌}
use Rattle.std.specs.List.{AllByRecursion}
use Rattle.std.proofs.lemmas.Bool.{cases_lt}
use Rattle.imap_types.specs.declared.command.Command.{Command}
use Rattle.imap_types.specs.declared.command.Command.TheVariants as command
use Rattle.imap_types.specs.declared.response.Response.{Response}
use Rattle.imap_types.specs.Folders.{folder_name}
use Rattle.imap_types.specs.Items.{AllNames, kept}
use Rattle.honest_store.specs.StoreMail.{StoreMessage, StoreFolder, StoreMail, folder_called, folder_numbered, message_numbered}
use Rattle.honest_store.specs.Sessions.{StoreSession, StoreAnswer}
use Rattle.honest_store.specs.MessageCommands.{flags_after, is_deleted, sent_message}
use Rattle.small_answers.specs.Changes.{mail_without, next_validity, selected_folder}
use Rattle.small_answers.specs.Limits.{text_limit, total_length}
use Rattle.small_answers.specs.Causes.{RefusalCause, NameTooLong, FlagsTooLong, are_same_names, flags_of_store, names_made}
use Rattle.small_answers.specs.Answers.{AnswersCommand, Refused, Accepted, Reply, append_reply, expunge_reply, expunged_reply, flags_reply, move_reply, move_reply_to, ok_reply}
use Rattle.small_answers.specs.Answers.{reply_in, reply_with, select_reply, store_reply, told_change, fetch_reply}
use Rattle.small_answers.specs.ToldResponses.{body_response, flags_response, header_response, is_between, is_from_on}
use Rattle.small_answers.proofs.Elements.{each_not_any}
use Rattle.small_answers.proofs.FoldersFound.{called_is, numbered_is}
use Rattle.small_answers.proofs.Replies.{on, sees}
use Rattle.small_responses.specs.SendableMail.{HasSendableParts, IsSendableMessage, IsSendableFolder, IsSendableMail}
use Rattle.small_responses.proofs.FlagNames.{flags_after_names, kept_are_names}
use Rattle.small_responses.proofs.SeenFlag.{beside_few}
use Rattle.small_responses.proofs.TextsKept.{created_kept, deleted_kept, flagged_kept, message_told, renamed_kept, subscribed_kept, with_kept, without_kept}

-- of a reply: the mail after it can be told
abbrev pub IsTold : Reply → Type 0
IsTold r = IsSendableMail r.session.mail

pub within : (n : ℕ) → (text_limit < n → ⊥) → n ≤ text_limit
within n free = by (cases_lt text_limit n)
  where
    by : (text_limit < n) ⊎ (n ≤ text_limit) → n ≤ text_limit
    by (inl above) = absurd (free above)
    by (inr below) = below

names_within : (s : StoreSession) (c : Command) → (RefusalCause s c → ⊥) → AllByRecursion (λ k. length k ≤ text_limit) (names_made c s.mail)
names_within s c free =
    each_not_any (λ k. text_limit < length k) (λ k. length k ≤ text_limit) (λ k fits. within (length k) fits) (names_made c s.mail) (λ any. free (NameTooLong any))

-- ---- in the folder that is selected

-- a command that reads
pub read_told : (s : StoreSession) (q : Option StoreFolder) (test : List StoreMessage → ℕ → Bool) (tell : List StoreMessage → StoreMessage → Response) → IsSendableMail s.mail
    → IsTold (reply_in s q (λ f. fetch_reply s f.messages (test f.messages) tell))
read_told s None test tell told = told
read_told s (Some f) test tell told = told

select_told : (s : StoreSession) (known : Option (ℕ × ℕ)) (q : Option StoreFolder) → IsSendableMail s.mail → IsTold (select_reply s known q)
select_told s known None told = told
select_told s known (Some f) told = told

module _ (mail : StoreMail) (n uid : ℕ) (add : Bool) (asked : List (List ℕ)) (told : IsSendableMail mail) (names : AllNames asked)
    (free : RefusalCause (on mail n) (command.Store uid add asked) → ⊥) where
  stored_if : (f : StoreFolder) (m : StoreMessage) → folder_numbered mail.folders n ≡ Some f → message_numbered f.messages uid ≡ Some m → (b : Bool)
      → IsTold (if b then reply_with (on mail n) (told_change f.messages m.uid) else flags_reply (on mail n) f m.uid (flags_after add asked m.flags))
  stored_if f m there held true = told
  stored_if f m there held false =
      let f_is : IsSendableFolder f = numbered_is IsSendableFolder mail n f told there in
      flagged_kept mail f m.uid (flags_after add asked m.flags) told f_is (flags_after_names add asked m.flags names (message_told f uid m f_is held).flags)
      (beside_few (flags_after add asked m.flags) (within (total_length (flags_after add asked m.flags))
      (λ above. free (FlagsTooLong (subst (λ (o : Option StoreMessage). text_limit < total_length (flags_of_store add asked o))
      (sym (sees mail n uid f (Some m) there held)) above)))))

  stored_at : (f : StoreFolder) → folder_numbered mail.folders n ≡ Some f → (o : Option StoreMessage) → message_numbered f.messages uid ≡ o
      → IsTold (store_reply (on mail n) f add asked o)
  stored_at f there None e = told
  stored_at f there (Some m) e = stored_if f m there e (are_same_names (flags_after add asked m.flags) m.flags)

  stored_in : (q : Option StoreFolder) → folder_numbered mail.folders n ≡ q
      → IsTold (reply_in (on mail n) q (λ f. store_reply (on mail n) f add asked (message_numbered f.messages uid)))
  stored_in None e = told
  stored_in (Some f) e = stored_at f e (message_numbered f.messages uid) refl

  pub store_told : IsTold (ok_reply (on mail n) (command.Store uid add asked))
  store_told = stored_in (folder_numbered mail.folders n) refl

module _ (mail : StoreMail) (n uid : ℕ) (told : IsSendableMail mail) where
  expunged_if : (f : StoreFolder) (m : StoreMessage) → folder_numbered mail.folders n ≡ Some f → (b : Bool)
      → IsTold (if b then expunged_reply (on mail n) f m.uid else reply_with (on mail n) [])
  expunged_if f m there true = without_kept mail f m.uid told (numbered_is IsSendableFolder mail n f told there)
  expunged_if f m there false = told

  expunged_at : (f : StoreFolder) → folder_numbered mail.folders n ≡ Some f → (o : Option StoreMessage) → IsTold (expunge_reply (on mail n) f o)
  expunged_at f there None = told
  expunged_at f there (Some m) = expunged_if f m there (is_deleted m)

  expunged_in : (q : Option StoreFolder) → folder_numbered mail.folders n ≡ q
      → IsTold (reply_in (on mail n) q (λ f. expunge_reply (on mail n) f (message_numbered f.messages uid)))
  expunged_in None e = told
  expunged_in (Some f) e = expunged_at f e (message_numbered f.messages uid)

  pub expunge_told : IsTold (ok_reply (on mail n) (command.Expunge uid))
  expunge_told = expunged_in (folder_numbered mail.folders n) refl

  module _ (name : List ℕ) where
    moved_to : (left : StoreMail) (m : StoreMessage) → IsSendableMail left → IsSendableMessage m → (q : Option StoreFolder) → folder_called left.folders name ≡ q
        → IsTold (move_reply_to (on mail n) left m q)
    moved_to left m left_told m_is None e = told
    moved_to left m left_told m_is (Some target) e = with_kept left target m left_told (called_is IsSendableFolder left name target left_told e) m_is

    moved_at : (f : StoreFolder) → folder_numbered mail.folders n ≡ Some f → (o : Option StoreMessage) → message_numbered f.messages uid ≡ o
        → IsTold (move_reply (on mail n) f name o)
    moved_at f there None e = told
    moved_at f there (Some m) e =
        let f_is : IsSendableFolder f = numbered_is IsSendableFolder mail n f told there in
        moved_to (mail_without mail (Some f) m.uid) m (without_kept mail f m.uid told f_is) (message_told f uid m f_is e)
        (folder_called (mail_without mail (Some f) m.uid).folders name) refl

    moved_in : (q : Option StoreFolder) → folder_numbered mail.folders n ≡ q
        → IsTold (reply_in (on mail n) q (λ f. move_reply (on mail n) f name (message_numbered f.messages uid)))
    moved_in None e = told
    moved_in (Some f) e = moved_at f e (message_numbered f.messages uid) refl

    pub move_told : IsTold (ok_reply (on mail n) (command.Move uid name))
    move_told = moved_in (folder_numbered mail.folders n) refl

-- without a folder that is selected nothing is done
pub nothing_in : (s : StoreSession) (reply : StoreFolder → Reply) → IsSendableMail s.mail → IsTold (reply_in s None reply)
nothing_in s reply told = told

-- ---- APPEND

module _ (s : StoreSession) (name : List ℕ) where
  appended_to : (m : StoreMessage) (q : Option StoreFolder) → folder_called s.mail.folders name ≡ q → IsSendableMail s.mail → IsSendableMessage m → IsTold (append_reply s m q)
  appended_to m None e told is = told
  appended_to m (Some target) e told is = with_kept s.mail target m told (called_is IsSendableFolder s.mail name target told e) is

-- ---- each command

stored_by : (mail : StoreMail) (o : Option ℕ) (uid : ℕ) (add : Bool) (asked : List (List ℕ)) → IsSendableMail mail → AllNames asked
    → (RefusalCause (record { mail = mail; selected = o }) (command.Store uid add asked) → ⊥)
    → IsTold (ok_reply (record { mail = mail; selected = o }) (command.Store uid add asked))
stored_by mail None uid add asked told names free = told
stored_by mail (Some n) uid add asked told names free = store_told mail n uid add asked told names free

expunged_by : (mail : StoreMail) (o : Option ℕ) (uid : ℕ) → IsSendableMail mail → IsTold (ok_reply (record { mail = mail; selected = o }) (command.Expunge uid))
expunged_by mail None uid told = told
expunged_by mail (Some n) uid told = expunge_told mail n uid told

moved_by : (mail : StoreMail) (o : Option ℕ) (uid : ℕ) (name : List ℕ) → IsSendableMail mail → IsTold (ok_reply (record { mail = mail; selected = o }) (command.Move uid name))
moved_by mail None uid name told = told
moved_by mail (Some n) uid name told = move_told mail n uid told name

told_after : (s : StoreSession) (c : Command) → IsSendableMail s.mail → HasSendableParts c → (RefusalCause s c → ⊥) → IsTold (ok_reply s c)
told_after s command.Capability told parts free = told
told_after s (command.Login user password) told parts free = told
told_after s command.Enable told parts free = told
told_after s (command.List special_use) told parts free = told
told_after s (command.Select name known) told parts free = select_told s known (folder_called s.mail.folders name) told
told_after s command.Unselect told parts free = told
told_after s command.FetchFlags told parts free = read_told s (selected_folder s) (λ ms u. true) flags_response told
told_after s (command.FetchSlice from to modseq) told parts free = read_told s (selected_folder s) (λ ms. is_between from to) (header_response modseq) told
told_after s (command.FetchNew from modseq) told parts free = read_told s (selected_folder s) (is_from_on from) (header_response modseq) told
told_after s (command.FetchBody uid) told parts free = read_told s (selected_folder s) (λ ms u. u == uid) body_response told
told_after s (command.Store uid add flags) told parts free = stored_by s.mail s.selected uid add flags told parts free
told_after s (command.Move uid name) told parts free = moved_by s.mail s.selected uid name told
told_after s (command.Expunge uid) told parts free = expunged_by s.mail s.selected uid told
told_after s (command.Append name flags date message) told parts free =
    appended_to s name (sent_message flags date message 0 0) (folder_called s.mail.folders name) refl told
    (record { flags = kept_are_names flags parts.0; few = beside_few (kept flags) (within (total_length (kept flags)) (λ above. free (FlagsTooLong above))); octets = parts.1 })
told_after s (command.Create name) told parts free = created_kept s.mail (folder_name name) (next_validity s.mail) told (names_within s (command.Create name) free).0
told_after s (command.Delete name) told parts free = deleted_kept s.mail (folder_name name) told
told_after s (command.Rename from to) told parts free = renamed_kept s.mail (folder_name from) (folder_name to) told (names_within s (command.Rename from to) free).1
told_after s (command.Subscribe name on) told parts free = subscribed_kept s.mail (folder_name name) on told

answered_told : {s t : StoreSession} {c : Command} {a : StoreAnswer} → IsSendableMail s.mail → HasSendableParts c → AnswersCommand s c a t → IsSendableMail t.mail
answered_told told parts (Refused cause) = told
answered_told {s} {t} {c} told parts (Accepted free) = told_after s c told parts free

pub mail_stays_told : (s t : StoreSession) (c : Command) (a : StoreAnswer) → IsSendableMail s.mail → HasSendableParts c → AnswersCommand s c a t → IsSendableMail t.mail
mail_stays_told s t c a told parts answer = answered_told told parts answer
