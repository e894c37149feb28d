-- Each response of the small store's answers may be sent.
use Rattle.std.proofs.Common.{◌≡◌, inl, not, ap, ◌∙◌, ℕ, ◌<◌, ◌-◌, ◌^◌, ◌≤◌, Bool, true, false, nat_lt, ◌==◌, List, [], ◌∷◌, ◌++◌, Option, Some, None, length}
use Rattle.std.proofs.Common.{filter, map, codes, refl, sym, subst, arith, All, if◌then◌else◌}
use Rattle.std.specs.List.{AllByRecursion}
use Rattle.std.proofs.lemmas.List.Elements.{All-from_recursion, recursion_from_All}
use Rattle.imap_types.specs.declared.code.Code.TheVariants as code
use Rattle.imap_types.specs.declared.command.Command.{Command}
use Rattle.imap_types.specs.declared.command.Command.TheVariants as command
use Rattle.imap_types.specs.declared.response.Response.{Response}
use Rattle.imap_types.specs.declared.response.Response.TheVariants as response
use Rattle.imap_types.specs.declared.response.Status.TheVariants as status
use Rattle.honest_store.specs.StoreMail.{StoreMessage, StoreFolder, StoreMail, folder_called, folder_numbered, message_numbered}
use Rattle.honest_store.specs.WellFormed.{IsExpungedUid, IsStoreFolder}
use Rattle.honest_store.specs.MessageChanges.{folder_flagged, folder_without}
use Rattle.honest_store.specs.Sessions.{StoreSession, StoreAnswer}
use Rattle.honest_store.specs.MessageCommands.{flags_after, is_deleted, sent_message}
use Rattle.imap_types.specs.Items.{AllNames}
use Rattle.small_answers.specs.Changes.{mail_flagged, mail_without, next_modseq, selected_folder}
use Rattle.small_answers.specs.Limits.{is_last_change, text_limit, total_length}
use Rattle.store_responses.specs.Sendable.{IsNonZeroNumber, IsSendable, IsSendableTag}
use Rattle.small_answers.specs.Causes.{RefusalCause, FlagsTooLong, NumberSpent, IsAtEnd, are_same_names, changes_flags, ends_message, flags_of_store}
use Rattle.small_answers.specs.ToldResponses.{body_response, change_response, changes_since, closed_responses, flags_response, folder_responses, header_response}
use Rattle.small_answers.specs.ToldResponses.{is_between, is_from_on, known_changes, list_response, set_of, with_uids}
use Rattle.small_answers.specs.Answers.{AnswersCommand, Refused, Accepted, Reply, refusal_responses, append_reply, expunge_reply, expunged_reply, fetch_reply, flags_reply, move_reply, move_reply_to}
use Rattle.small_answers.specs.Answers.{ok_reply, reply_in, reply_with, select_reply, store_reply, told_change}
use Rattle.small_answers.specs.SmallMail.{IsSmallFolder, IsSmallMail}
use Rattle.small_answers.proofs.Elements.{each_append, each_mapped, each_weaker, each_both, told_all}
use Rattle.small_answers.proofs.Searches.{found_is}
use Rattle.small_answers.proofs.FoldersFound.{called_is, numbered_is}
use Rattle.small_answers.proofs.Attributes.{flags_after_kept}
use Rattle.small_answers.proofs.Changed.{flagged_small, message_is, put_found, without_small}
use Rattle.small_answers.proofs.Replies.{on, sees}
use Rattle.small_responses.specs.SendableMail.{HasSendableParts, IsSendableFolder, IsSendableMail, sent_responses}
use Rattle.small_responses.proofs.FlagNames.{flags_after_names}
use Rattle.small_responses.proofs.SeenFlag.{beside_few}
use Rattle.small_responses.proofs.TextsKept.{flagged_kept, message_told, without_kept}
use Rattle.small_responses.proofs.MailTold.{within}
use Rattle.small_responses.proofs.Sent.{IsShortCode, IsTellable, absent_short, append_short, body_sent, change_sent, closed_short, coded_sent, copy_short, each_tellable}
use Rattle.small_responses.proofs.Sent.{few_messages, flags_sent, folder_sent, header_sent, highest_short, list_sent, no_sent, ok_sent, other_short, vanished_sent}

-- of a reply: its responses may be sent, and its code is short
pub record IsSent (r : Reply) : Type 0 where
  pub responses : AllByRecursion IsSendable r.responses
  pub code : IsShortCode r.code

sent_with : (s : StoreSession) (rs : List Response) → AllByRecursion IsSendable rs → IsSent (reply_with s rs)
sent_with s rs all = record { responses = all; code = absent_short }

nothing_sent : (s : StoreSession) → IsSent (reply_with s [])
nothing_sent s = sent_with s [] tt

module _ (mail : StoreMail) (small : IsSmallMail mail) (told : IsSendableMail mail) where
  each_folder : (P : StoreFolder → Type 0) → ((f : StoreFolder) → IsStoreFolder f → IsSmallFolder f → IsSendableFolder f → P f) → AllByRecursion P mail.folders
  each_folder P f =
      each_both IsStoreFolder (λ x. IsSmallFolder x × IsSendableFolder x) P (λ x is more. f x is more.0 more.1) mail.folders
      (recursion_from_All IsStoreFolder mail.folders small.well_formed.folders)
      (each_both IsSmallFolder IsSendableFolder (λ x. IsSmallFolder x × IsSendableFolder x) (λ x is x_told. (is, x_told)) mail.folders
      (recursion_from_All IsSmallFolder mail.folders small.folders) (recursion_from_All IsSendableFolder mail.folders told))

  numbered : (P : StoreFolder → Type 0) → ((f : StoreFolder) → IsStoreFolder f → IsSmallFolder f → IsSendableFolder f → P f) → (n : ℕ) (f : StoreFolder)
      → folder_numbered mail.folders n ≡ Some f → P f
  numbered P is n f e = found_is P (λ x. x.number == n) mail.folders f (each_folder P is) e

  called : (P : StoreFolder → Type 0) → ((f : StoreFolder) → IsStoreFolder f → IsSmallFolder f → IsSendableFolder f → P f) → (name : List ℕ) (f : StoreFolder)
      → folder_called mail.folders name ≡ Some f → P f
  called P is name f e = called_is P mail name f (All-from_recursion P mail.folders (each_folder P is)) e

  -- ---- UID FETCH

  module _ (test : List StoreMessage → ℕ → Bool) (tell : List StoreMessage → StoreMessage → Response)
      (sends : (ms : List StoreMessage) (m : StoreMessage) → length ms < 2 ^ 32 - 1 → IsTellable m → IsSendable (tell ms m)) where
    of_folder : (s : StoreSession) (f : StoreFolder) → IsStoreFolder f → IsSmallFolder f → IsSendableFolder f → IsSent (fetch_reply s f.messages (test f.messages) tell)
    of_folder s f is f_small f_told =
        sent_with s (map (tell f.messages) (with_uids (test f.messages) f.messages))
        (told_all (λ (m : StoreMessage). test f.messages m.uid) (tell f.messages) IsSendable f.messages
        (each_weaker IsTellable (λ m. IsSendable (tell f.messages m)) (λ m m_is. sends f.messages m (few_messages f is f_small) m_is) f.messages
        (each_tellable f is f_small f_told)))

    fetched_in : (n : ℕ) (q : Option StoreFolder) → folder_numbered mail.folders n ≡ q
        → IsSent (reply_in (on mail n) q (λ f. fetch_reply (on mail n) f.messages (test f.messages) tell))
    fetched_in n None e = nothing_sent (on mail n)
    fetched_in n (Some f) e = numbered (λ g. IsSent (fetch_reply (on mail n) g.messages (test g.messages) tell)) (of_folder (on mail n)) n f e

    fetched : (o : Option ℕ) → IsSent (reply_in (record { mail = mail; selected = o }) (selected_folder (record { mail = mail; selected = o }))
        (λ f. fetch_reply (record { mail = mail; selected = o }) f.messages (test f.messages) tell))
    fetched None = nothing_sent (record { mail = mail; selected = None })
    fetched (Some n) = fetched_in n (folder_numbered mail.folders n) refl

-- ---- SELECT

changes_sent : (f : StoreFolder) → IsStoreFolder f → IsSmallFolder f → IsSendableFolder f → (since : ℕ) → AllByRecursion IsSendable (changes_since f since)
changes_sent f is small told since =
    each_append IsSendable (map (λ e. response.Vanished true (set_of e.uid)) (filter (λ e. nat_lt since e.modseq) f.expunged))
    (map (change_response f.messages) (filter (λ m. nat_lt since m.modseq) f.messages))
    (told_all (λ e. nat_lt since e.modseq) (λ e. response.Vanished true (set_of e.uid)) IsSendable f.expunged
    (each_weaker (IsExpungedUid f) (λ e. IsSendable (response.Vanished true (set_of e.uid)))
    (λ e e_is. let below : e.uid < f.uid_next = e_is.uid.1 in let next : f.uid_next < 2 ^ 32 = small.uid_next in
    vanished_sent true e.uid (e_is.uid.0, omega (arith, below, next))) f.expunged (recursion_from_All (IsExpungedUid f) f.expunged is.expunged)))
    (told_all (λ m. nat_lt since m.modseq) (change_response f.messages) IsSendable f.messages
    (each_weaker IsTellable (λ m. IsSendable (change_response f.messages m)) (λ m m_is. change_sent f.messages m (few_messages f is small) m_is) f.messages
    (each_tellable f is small told)))

sent_if : (b : Bool) (rs : List Response) → AllByRecursion IsSendable rs → AllByRecursion IsSendable (if b then rs else [])
sent_if true rs all = all
sent_if false rs all = tt

known_sent : (f : StoreFolder) → IsStoreFolder f → IsSmallFolder f → IsSendableFolder f → (known : Option (ℕ × ℕ)) → AllByRecursion IsSendable (known_changes f known)
known_sent f is small told None = tt
known_sent f is small told (Some k) = sent_if (k.0 == f.validity) (changes_since f k.1) (changes_sent f is small told k.1)

closed_sent : (o : Option ℕ) → AllByRecursion IsSendable (closed_responses o)
closed_sent None = tt
closed_sent (Some n) = (coded_sent code.Closed closed_short, tt)

selected_sent : (s : StoreSession) (known : Option (ℕ × ℕ)) (f : StoreFolder) → IsStoreFolder f → IsSmallFolder f → IsSendableFolder f → IsSent (select_reply s known (Some f))
selected_sent s known f is small told = record {
  responses = each_append IsSendable (closed_responses s.selected ++ folder_responses f) (known_changes f known)
      (each_append IsSendable (closed_responses s.selected) (folder_responses f) (closed_sent s.selected) (folder_sent f is small told)) (known_sent f is small told known);
  code = other_short;
}

select_sent : (s : StoreSession) (name : List ℕ) (known : Option (ℕ × ℕ)) → IsSmallMail s.mail → IsSendableMail s.mail → (q : Option StoreFolder)
    → folder_called s.mail.folders name ≡ q
    → IsSent (select_reply s known q)
select_sent s name known small told None e = nothing_sent s
select_sent s name known small told (Some f) e = called s.mail small told (λ g. IsSent (select_reply s known (Some g))) (selected_sent s known) name f e

-- ---- messages that change

module _ (f : StoreFolder) (is : IsStoreFolder f) (small : IsSmallFolder f) (told : IsSendableFolder f) where
  change_told : (u : ℕ) → AllByRecursion IsSendable (told_change f.messages u)
  change_told u =
      told_all (λ (m : StoreMessage). m.uid == u) (change_response f.messages) IsSendable f.messages
      (each_weaker IsTellable (λ m. IsSendable (change_response f.messages m)) (λ m m_is. change_sent f.messages m (few_messages f is small) m_is) f.messages
      (each_tellable f is small told))

  uid_sent : (u : ℕ) (m : StoreMessage) → message_numbered f.messages u ≡ Some m → IsNonZeroNumber m.uid
  uid_sent u m e = found_is (λ x. IsNonZeroNumber x.uid) (λ x. x.uid == u) f.messages m
      (each_weaker IsTellable (λ x. IsNonZeroNumber x.uid) (λ x x_is. x_is.uid) f.messages (each_tellable f is small told)) e

module _ (mail : StoreMail) (n uid : ℕ) (small : IsSmallMail mail) (told : IsSendableMail mail) (f : StoreFolder) (m : StoreMessage)
    (there : folder_numbered mail.folders n ≡ Some f)
    (held : message_numbered f.messages uid ≡ Some m) where
  its_uid : IsNonZeroNumber m.uid
  its_uid = numbered mail small told (λ g. message_numbered g.messages uid ≡ Some m → IsNonZeroNumber m.uid)
      (λ g is g_small g_told e. uid_sent g is g_small g_told uid m e) n f there held

  gone_sent : AllByRecursion IsSendable (response.Vanished false (set_of m.uid) ∷ [])
  gone_sent = (vanished_sent false m.uid its_uid, tt)

  -- STORE
  module _ (add : Bool) (asked : List (List ℕ)) (names : AllNames asked) (free : RefusalCause (on mail n) (command.Store uid add asked) → ⊥) where
    abbrev flags : List (List ℕ)
    flags = flags_after add asked m.flags

    room : are_same_names flags m.flags ≡ false → is_last_change f ≡ true → ⊥
    room other last =
        free (NumberSpent (subst (IsAtEnd is_last_change) (sym there) last, ap (changes_flags add asked) (sees mail n uid f (Some m) there held) ∙ ap not other))

    few : total_length flags ≤ text_limit
    few = within (total_length flags) (λ above. free
        (FlagsTooLong (subst (λ (o : Option StoreMessage). text_limit < total_length (flags_of_store add asked o)) (sym (sees mail n uid f (Some m) there held)) above)))

    stored_sent : (b : Bool) → are_same_names flags m.flags ≡ b
        → IsSent (if b then reply_with (on mail n) (told_change f.messages m.uid) else flags_reply (on mail n) f m.uid flags)
    stored_sent true e =
        sent_with (on mail n) (told_change f.messages m.uid)
        (numbered mail small told (λ g. AllByRecursion IsSendable (told_change g.messages m.uid)) (λ g is g_small g_told. change_told g is g_small g_told m.uid) n f there)
    stored_sent false e =
        let f_told : IsSendableFolder f = numbered_is IsSendableFolder mail n f told there in
        let after : StoreMail = mail_flagged mail (Some f) m.uid flags in let g : StoreFolder = folder_flagged f m.uid flags (next_modseq f) in
        let after_small : IsSmallMail after =
        flagged_small mail n uid f m small there held flags (room e) (flags_after_kept add asked m.flags (message_is mail n uid f m small there held).flags) in
        let after_told : IsSendableMail after =
        flagged_kept mail f m.uid flags told f_told (flags_after_names add asked m.flags names (message_told f uid m f_told held).flags) (beside_few flags few) in
        sent_with (record { mail = after; selected = Some n }) (told_change g.messages m.uid)
        (numbered after after_small after_told (λ h. AllByRecursion IsSendable (told_change h.messages m.uid))
        (λ h is h_small h_told. change_told h is h_small h_told m.uid) n g
        (put_found mail n f g small there refl))

  -- EXPUNGE
  module _ (free : RefusalCause (on mail n) (command.Expunge uid) → ⊥) where
    ended_sent : is_deleted m ≡ true → IsSent (expunged_reply (on mail n) f m.uid)
    ended_sent deleted =
        let left : StoreMail = mail_without mail (Some f) m.uid in let g : StoreFolder = folder_without f m.uid (next_modseq f) in
        let left_small : IsSmallMail left =
        without_small mail n uid f m small there held (λ last. free (NumberSpent (
          subst (IsAtEnd is_last_change) (sym there) last,
          subst (λ (o : Option StoreMessage). ends_message o ≡ true) (sym (sees mail n uid f (Some m) there held)) deleted,
        ))) in
        record {
          responses = gone_sent;
          code = numbered left left_small (without_kept mail f m.uid told (numbered_is IsSendableFolder mail n f told there)) (λ h. IsShortCode (code.HighestModSeq h.highest))
              (λ h is h_small h_told. highest_short h.highest is.highest_fits) n g (put_found mail n f g small there refl);
        }

    expunged_sent : (b : Bool) → is_deleted m ≡ b → IsSent (if b then expunged_reply (on mail n) f m.uid else reply_with (on mail n) [])
    expunged_sent true deleted = ended_sent deleted
    expunged_sent false e = nothing_sent (on mail n)

  -- MOVE
  moved_sent : (left : StoreMail) → IsSmallMail left → IsSendableMail left → (name : List ℕ) (q : Option StoreFolder) → folder_called left.folders name ≡ q
      → IsSent (move_reply_to (on mail n) left m q)
  moved_sent left left_small left_told name None e = nothing_sent (on mail n)
  moved_sent left left_small left_told name (Some target) e =
      called left left_small left_told (λ t. IsSent (move_reply_to (on mail n) left m (Some t)))
      (λ t is t_small t_told. record {
        responses = (
          coded_sent (code.CopyUid t.validity (set_of m.uid) (set_of t.uid_next))
              (copy_short t.validity m.uid t.uid_next is.validity its_uid (is.uid_next.0, t_small.uid_next)),
          gone_sent,
        );
        code = absent_short;
      }) name target e

  move_sent : (name : List ℕ) → (RefusalCause (on mail n) (command.Move uid name) → ⊥) → IsSent (move_reply (on mail n) f name (Some m))
  move_sent name free =
      let left : StoreMail = mail_without mail (Some f) m.uid in
      let left_small : IsSmallMail left = without_small mail n uid f m small there held (λ last. free (NumberSpent (inl (subst (IsAtEnd is_last_change) (sym there) last)))) in
      moved_sent left left_small (without_kept mail f m.uid told (numbered_is IsSendableFolder mail n f told there)) name (folder_called left.folders name) refl

-- by the folder that is selected and its message of the UID
module _ (mail : StoreMail) (n uid : ℕ) (reply : StoreFolder → Option StoreMessage → Reply) (nothing : (f : StoreFolder) → IsSent (reply f None))
    (message : (f : StoreFolder) (m : StoreMessage) → folder_numbered mail.folders n ≡ Some f → message_numbered f.messages uid ≡ Some m → IsSent (reply f (Some m))) where
  sent_at : (f : StoreFolder) → folder_numbered mail.folders n ≡ Some f → (o : Option StoreMessage) → message_numbered f.messages uid ≡ o → IsSent (reply f o)
  sent_at f there None e = nothing f
  sent_at f there (Some m) e = message f m there e

  sent_in : (q : Option StoreFolder) → folder_numbered mail.folders n ≡ q → IsSent (reply_in (on mail n) q (λ f. reply f (message_numbered f.messages uid)))
  sent_in None e = nothing_sent (on mail n)
  sent_in (Some f) e = sent_at f e (message_numbered f.messages uid) refl

  sent_by_message : IsSent (reply_in (on mail n) (folder_numbered mail.folders n) (λ f. reply f (message_numbered f.messages uid)))
  sent_by_message = sent_in (folder_numbered mail.folders n) refl

module _ (mail : StoreMail) (small : IsSmallMail mail) (told : IsSendableMail mail) where
  store_by : (o : Option ℕ) (uid : ℕ) (add : Bool) (asked : List (List ℕ)) → AllNames asked
      → (RefusalCause (record { mail = mail; selected = o }) (command.Store uid add asked) → ⊥)
      → IsSent (ok_reply (record { mail = mail; selected = o }) (command.Store uid add asked))
  store_by None uid add asked names free = nothing_sent (record { mail = mail; selected = None })
  store_by (Some n) uid add asked names free =
      sent_by_message mail n uid (λ f. store_reply (on mail n) f add asked) (λ f. nothing_sent (on mail n))
      (λ f m there held. stored_sent mail n uid small told f m there held add asked names free (are_same_names (flags_after add asked m.flags) m.flags) refl)

  expunge_by : (o : Option ℕ) (uid : ℕ) → (RefusalCause (record { mail = mail; selected = o }) (command.Expunge uid) → ⊥)
      → IsSent (ok_reply (record { mail = mail; selected = o }) (command.Expunge uid))
  expunge_by None uid free = nothing_sent (record { mail = mail; selected = None })
  expunge_by (Some n) uid free =
      sent_by_message mail n uid (expunge_reply (on mail n)) (λ f. nothing_sent (on mail n))
      (λ f m there held. expunged_sent mail n uid small told f m there held free (is_deleted m) refl)

  move_by : (o : Option ℕ) (uid : ℕ) (name : List ℕ) → (RefusalCause (record { mail = mail; selected = o }) (command.Move uid name) → ⊥)
      → IsSent (ok_reply (record { mail = mail; selected = o }) (command.Move uid name))
  move_by None uid name free = nothing_sent (record { mail = mail; selected = None })
  move_by (Some n) uid name free =
      sent_by_message mail n uid (λ f. move_reply (on mail n) f name) (λ f. nothing_sent (on mail n))
      (λ f m there held. move_sent mail n uid small told f m there held name free)

append_sent : (s : StoreSession) (m : StoreMessage) (name : List ℕ) → IsSmallMail s.mail → IsSendableMail s.mail → (q : Option StoreFolder)
    → folder_called s.mail.folders name ≡ q → IsSent (append_reply s m q)
append_sent s m name small told None e = nothing_sent s
append_sent s m name small told (Some target) e =
    called s.mail small told (λ t. IsSent (append_reply s m (Some t)))
    (λ t is t_small t_told. record { responses = tt; code = append_short t.validity t.uid_next is.validity (is.uid_next.0, t_small.uid_next) }) name target e

-- ---- each command

printed : IsSendable (response.Capability (codes "IMAP4rev2" ∷ codes "QRESYNC" ∷ []))
printed = record {
  values = (
    ((refl, (refl, (refl, (refl, (refl, (refl, (refl, (refl, (refl, tt))))))))), omega arith),
    (((refl, (refl, (refl, (refl, (refl, (refl, (refl, tt))))))), omega arith), tt),
  );
  within = omega arith;
}

enabled : IsSendable (response.Enabled (codes "QRESYNC" ∷ codes "IMAP4rev2" ∷ []))
enabled = record {
  values = (
    ((refl, (refl, (refl, (refl, (refl, (refl, (refl, tt))))))), omega arith),
    (((refl, (refl, (refl, (refl, (refl, (refl, (refl, (refl, (refl, tt))))))))), omega arith), tt),
  );
  within = omega arith;
}

sent_after : (s : StoreSession) (c : Command) → IsSmallMail s.mail → IsSendableMail s.mail → HasSendableParts c → (RefusalCause s c → ⊥) → IsSent (ok_reply s c)
sent_after s command.Capability small told parts free = sent_with s (response.Capability (codes "IMAP4rev2" ∷ codes "QRESYNC" ∷ []) ∷ []) (printed, tt)
sent_after s (command.Login user password) small told parts free = record { responses = tt; code = absent_short }
sent_after s command.Enable small told parts free = sent_with s (response.Enabled (codes "QRESYNC" ∷ codes "IMAP4rev2" ∷ []) ∷ []) (enabled, tt)
sent_after s (command.List special_use) small told parts free =
    sent_with s (map list_response s.mail.folders)
    (each_mapped list_response IsSendable s.mail.folders (each_folder s.mail small told (λ f. IsSendable (list_response f)) list_sent))
sent_after s (command.Select name known) small told parts free = select_sent s name known small told (folder_called s.mail.folders name) refl
sent_after s command.Unselect small told parts free = record { responses = tt; code = absent_short }
sent_after s command.FetchFlags small told parts free = fetched s.mail small told (λ ms u. true) flags_response flags_sent s.selected
sent_after s (command.FetchSlice from to modseq) small told parts free =
    fetched s.mail small told (λ ms. is_between from to) (header_response modseq) (λ ms m room. header_sent ms m room modseq) s.selected
sent_after s (command.FetchNew from modseq) small told parts free =
    fetched s.mail small told (is_from_on from) (header_response modseq) (λ ms m room. header_sent ms m room modseq) s.selected
sent_after s (command.FetchBody uid) small told parts free = fetched s.mail small told (λ ms u. u == uid) body_response body_sent s.selected
sent_after s (command.Store uid add flags) small told parts free = store_by s.mail small told s.selected uid add flags parts free
sent_after s (command.Move uid name) small told parts free = move_by s.mail small told s.selected uid name free
sent_after s (command.Expunge uid) small told parts free = expunge_by s.mail small told s.selected uid free
sent_after s (command.Append name flags date message) small told parts free =
    append_sent s (sent_message flags date message 0 0) name small told (folder_called s.mail.folders name) refl
sent_after s (command.Create name) small told parts free = record { responses = tt; code = absent_short }
sent_after s (command.Delete name) small told parts free = record { responses = tt; code = absent_short }
sent_after s (command.Rename from to) small told parts free = record { responses = tt; code = absent_short }
sent_after s (command.Subscribe name on) small told parts free = record { responses = tt; code = absent_short }

refusal_sent : (c : Command) (o : Option ℕ) → AllByRecursion IsSendable (refusal_responses c o)
refusal_sent (command.Select name known) o = closed_sent o
refusal_sent _ o = tt

answered : {s t : StoreSession} {c : Command} {a : StoreAnswer} → IsSmallMail s.mail → IsSendableMail s.mail → HasSendableParts c → AnswersCommand s c a t → (tag : List ℕ)
    → IsSendableTag tag
    → AllByRecursion IsSendable (sent_responses tag a)
answered {s} {t} {c} small told parts (Refused cause) tag is =
    each_append IsSendable (refusal_responses c s.selected) (response.Tagged tag status.No code.Absent ∷ []) (refusal_sent c s.selected) (no_sent tag is, tt)
answered {s} {t} {c} small told parts (Accepted free) tag is =
    let sent : IsSent (ok_reply s c) = sent_after s c small told parts free in
    each_append IsSendable (ok_reply s c).responses (response.Tagged tag status.Ok (ok_reply s c).code ∷ []) sent.responses (ok_sent tag (ok_reply s c).code is sent.code, tt)

pub answers_are_sent : (s t : StoreSession) (c : Command) (a : StoreAnswer) (tag : List ℕ) → IsSmallMail s.mail → IsSendableMail s.mail → HasSendableParts c
    → AnswersCommand s c a t → IsSendableTag tag
    → All IsSendable (sent_responses tag a)
answers_are_sent s t c a tag small told parts answer is = All-from_recursion IsSendable (sent_responses tag a) (answered small told parts answer tag is)
