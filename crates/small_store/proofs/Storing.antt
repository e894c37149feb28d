-- What a STORE and an EXPUNGE give, from what was found and tested.
use Rattle.std.proofs.Common.{◌≡◌, ℕ, ◌+◌, ◌==◌, Bool, true, false, List, [], ◌∷◌, Option, Some, None, get_or, refl, sym, ap, ◌∙◌, subst, eqb-true}
use Rattle.std.specs.List.{slice_get}
use Rattle.std.proofs.lemmas.Bool.{false_from_ne_true, true≢false}
use Rattle.imap_types.specs.declared.code.Code.TheVariants as code
use Rattle.imap_types.specs.declared.response.Response.{Response}
use Rattle.imap_types.specs.declared.response.Response.TheVariants as response
use Rattle.imap_types.specs.declared.response.Status.TheVariants as status
use Rattle.imap_types.specs.Items.{no_items}
use Rattle.honest_store.specs.StoreMail.{StoreMessage, StoreFolder, StoreMail, message_numbered}
use Rattle.honest_store.specs.WellFormed.{AscendByUid, IsStoreMail}
use Rattle.honest_store.specs.Sessions.{StoreAnswer}
use Rattle.honest_store.specs.MessageCommands.{flags_after, is_deleted}
use Rattle.small_answers.specs.Answers.{expunge_reply, expunged_reply, flags_reply, reply_with, store_reply, told_change}
use Rattle.small_answers.specs.Causes.{are_same_names}
use Rattle.small_answers.specs.Changes.{mail_flagged, mail_without, next_modseq}
use Rattle.small_answers.specs.Limits.{is_last_change}
use Rattle.small_answers.specs.ToldResponses.{set_of}
use Rattle.small_answers.proofs.Searches.{found_passes}
use Rattle.small_mail.proofs.Mails.{folder_at}
use Rattle.small_store.specs.reading.Steps.{Gives, session_of}
use Rattle.small_store.proofs.Replying.{expunge_ended, gives_as, store_changed, store_none, store_same}
use Rattle.small_store.proofs.Reading.{read_is}
use Rattle.small_store.proofs.Stores.{change_told, flags_told}

abbrev pub flags_answer : ℕ → ℕ → List (List ℕ) → ℕ → StoreAnswer
flags_answer seq uid flags modseq = record {
  responses = response.Fetch seq (record no_items { uid = Some uid; flags = Some flags; modseq = Some modseq }) ∷ [];
  status = status.Ok;
  code = code.Absent;
}

abbrev telling : List Response → StoreAnswer
telling rs = record { responses = rs; status = status.Ok; code = code.Absent }

abbrev ending : ℕ → ℕ → StoreAnswer
ending uid modseq = record { responses = response.Vanished false (set_of uid) ∷ []; status = status.Ok; code = code.HighestModSeq modseq }

module _ (before after : StoreMail) (selected : Option ℕ) (f : StoreFolder) (add : Bool) (asked : List (List ℕ)) (o : Option StoreMessage) (a : StoreAnswer) where
  pub stored_nothing : o ≡ None → a ≡ telling [] → after ≡ before
      → Gives (store_reply (session_of before selected) f add asked o) a (session_of after selected)
  stored_nothing none a_is same =
      gives_as (store_reply (session_of before selected) f add asked o) (reply_with (session_of before selected) []) a (session_of after selected)
      (store_none (session_of before selected) f add asked o none)
      (record { answer = a_is; session = ap (λ (m : StoreMail). session_of m selected) same })

  module _ (at : ℕ) (m : StoreMessage) (held : o ≡ Some m) (ascend : AscendByUid 0 f.messages) (there : slice_get f.messages at ≡ Some m) where
    pub stored_same : are_same_names (flags_after add asked m.flags) m.flags ≡ true → a ≡ flags_answer (at + 1) m.uid m.flags m.modseq → after ≡ before
        → Gives (store_reply (session_of before selected) f add asked o) a (session_of after selected)
    stored_same same a_is kept =
        gives_as (store_reply (session_of before selected) f add asked o) (reply_with (session_of before selected) (told_change f.messages m.uid)) a (session_of after selected)
        (store_same (session_of before selected) f add asked o m held same)
        (record { answer = a_is ∙ ap telling (sym (change_told f.messages at m ascend there)); session = ap (λ (x : StoreMail). session_of x selected) kept })

    pub stored_flags : are_same_names (flags_after add asked m.flags) m.flags ≡ false → a ≡ flags_answer (at + 1) m.uid (flags_after add asked m.flags) (next_modseq f)
        → after ≡ mail_flagged before (Some f) m.uid (flags_after add asked m.flags)
        → Gives (store_reply (session_of before selected) f add asked o) a (session_of after selected)
    stored_flags other a_is changed =
        gives_as (store_reply (session_of before selected) f add asked o) (flags_reply (session_of before selected) f m.uid (flags_after add asked m.flags)) a
        (session_of after selected) (store_changed (session_of before selected) f add asked o m held other)
        (record {
          answer = a_is ∙ ap telling (sym (flags_told f.messages at m (flags_after add asked m.flags) (next_modseq f) ascend there));
          session = ap (λ (x : StoreMail). session_of x selected) changed;
        })

-- ---- the message that was read

-- the message of this UID, and its place
abbrev pub Held : StoreFolder → ℕ → ℕ → Type 0
Held f at uid = (m : StoreMessage) × (slice_get f.messages at ≡ Some m) × (message_numbered f.messages uid ≡ Some m)

pub uid_found : (ms : List StoreMessage) (uid : ℕ) (m : StoreMessage) → message_numbered ms uid ≡ Some m → m.uid ≡ uid
uid_found ms uid m held = eqb-true m.uid uid (found_passes (λ (x : StoreMessage). x.uid == uid) ms m held)

-- the folder x and its message y were read in the mail
module _ (mail : StoreMail) (place at uid : ℕ) (shown : List StoreFolder) (ms : List StoreMessage) (x f : StoreFolder) (y : StoreMessage) (shown_is : shown ≡ mail.folders)
    (x_is : x ≡ get_or shown place x) (found : Held x at uid) (ms_is : ms ≡ x.messages) (y_is : y ≡ get_or ms at y) (at_f : slice_get mail.folders place ≡ Some f) where
  pub folder_read : x ≡ f
  folder_read = read_is shown mail.folders shown_is place x f x_is at_f

  pub held_there : Held f at uid
  held_there = subst (λ (g : StoreFolder). Held g at uid) folder_read found

  pub message_read : y ≡ held_there.0
  message_read = read_is ms f.messages (ms_is ∙ ap (λ (g : StoreFolder). g.messages) folder_read) at y held_there.0 y_is held_there.1

  pub message_uid : uid ≡ held_there.0.uid
  message_uid = sym (uid_found f.messages uid held_there.0 held_there.2)

  -- STORE
  module _ (whole : IsStoreMail mail) (selected : Option ℕ) (add : Bool) (asked flags : List (List ℕ)) (a : StoreAnswer) (b : Bool)
      (flags_is : flags ≡ flags_after add asked y.flags) (test : b ≡ are_same_names flags y.flags) where
    asked_flags : flags ≡ flags_after add asked held_there.0.flags
    asked_flags = flags_is ∙ ap (λ (m : StoreMessage). flags_after add asked m.flags) message_read

    pub tested : are_same_names (flags_after add asked held_there.0.flags) held_there.0.flags ≡ b
    tested = sym (test ∙ (ap (λ (m : StoreMessage). are_same_names flags m.flags) message_read ∙ ap (λ (fs : List (List ℕ)). are_same_names fs held_there.0.flags) asked_flags))

    pub gives_same : (told : List (List ℕ)) (modseq : ℕ) → b ≡ true → told ≡ y.flags → modseq ≡ y.modseq → a ≡ flags_answer (at + 1) uid told modseq
        → Gives (store_reply (session_of mail selected) f add asked (message_numbered f.messages uid)) a (session_of mail selected)
    gives_same told modseq same told_is modseq_is a_is =
        stored_same mail mail selected f add asked (message_numbered f.messages uid) a at held_there.0 held_there.2 (folder_at mail place f whole at_f).ascend held_there.1
        (tested ∙ same)
        (a_is ∙ (ap (λ (u : ℕ). flags_answer (at + 1) u told modseq) message_uid
        ∙ (ap (λ (fs : List (List ℕ)). flags_answer (at + 1) held_there.0.uid fs modseq) (told_is ∙ ap (λ (m : StoreMessage). m.flags) message_read)
        ∙ ap (flags_answer (at + 1) held_there.0.uid held_there.0.flags) (modseq_is ∙ ap (λ (m : StoreMessage). m.modseq) message_read)))) refl

    pub gives_flags : (told : List (List ℕ)) (highest : ℕ) (after : StoreMail) → b ≡ false → told ≡ flags → highest ≡ x.highest
        → a ≡ flags_answer (at + 1) uid told (highest + 1) → after ≡ mail_flagged mail (Some f) held_there.0.uid flags
        → Gives (store_reply (session_of mail selected) f add asked (message_numbered f.messages uid)) a (session_of after selected)
    gives_flags told highest after other told_is highest_is a_is changed =
        stored_flags mail after selected f add asked (message_numbered f.messages uid) a at held_there.0 held_there.2 (folder_at mail place f whole at_f).ascend held_there.1
        (tested ∙ other)
        (a_is ∙ (ap (λ (u : ℕ). flags_answer (at + 1) u told (highest + 1)) message_uid
        ∙ (ap (λ (fs : List (List ℕ)). flags_answer (at + 1) held_there.0.uid fs (highest + 1)) (told_is ∙ asked_flags)
        ∙ ap (λ (n : ℕ). flags_answer (at + 1) held_there.0.uid (flags_after add asked held_there.0.flags) (n + 1)) (highest_is ∙ ap (λ (g : StoreFolder). g.highest) folder_read))))
        (changed ∙ ap (mail_flagged mail (Some f) held_there.0.uid) asked_flags)

    -- where the flags change there is room
    pub flags_room : b ≡ false → ((m : StoreMessage) → message_numbered f.messages uid ≡ Some m → is_last_change f ≡ true
        → are_same_names (flags_after add asked m.flags) m.flags ≡ true) → is_last_change f ≡ false
    flags_room other room = false_from_ne_true (is_last_change f) (λ end. true≢false (sym (room held_there.0 held_there.2 end) ∙ (tested ∙ other)))

  -- EXPUNGE
  module _ (selected : Option ℕ) (a : StoreAnswer) (deleted : is_deleted y ≡ true) where
    was_deleted : is_deleted held_there.0 ≡ true
    was_deleted = ap is_deleted (sym message_read) ∙ deleted

    pub gives_end : (highest : ℕ) (after : StoreMail) → highest ≡ x.highest
        → a ≡ record { responses = response.Vanished false (set_of uid) ∷ []; status = status.Ok; code = code.HighestModSeq (highest + 1) }
        → after ≡ mail_without mail (Some f) held_there.0.uid
        → Gives (expunge_reply (session_of mail selected) f (message_numbered f.messages uid)) a (session_of after selected)
    gives_end highest after highest_is a_is gone =
        gives_as (expunge_reply (session_of mail selected) f (message_numbered f.messages uid)) (expunged_reply (session_of mail selected) f held_there.0.uid) a
        (session_of after selected) (expunge_ended (session_of mail selected) f (message_numbered f.messages uid) held_there.0 held_there.2 was_deleted)
        (record {
          answer = a_is ∙ (ap (λ (u : ℕ). ending u (highest + 1)) message_uid
              ∙ ap (λ (n : ℕ). ending held_there.0.uid (n + 1)) (highest_is ∙ ap (λ (g : StoreFolder). g.highest) folder_read));
          session = ap (λ (m : StoreMail). session_of m selected) gone;
        })

    pub end_room : ((m : StoreMessage) → message_numbered f.messages uid ≡ Some m → is_last_change f ≡ true → is_deleted m ≡ false) → is_last_change f ≡ false
    end_room room = false_from_ne_true (is_last_change f) (λ end. true≢false (sym was_deleted ∙ room held_there.0 held_there.2 end))
